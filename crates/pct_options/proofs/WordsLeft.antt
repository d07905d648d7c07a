-- The words that are left.
use Rattle.pct_names.proofs.Names.{◌<◌, ◌==◌, [], arith, false, false≢true, GivenOption, length, length-map, List, map, Some, sym, true, ℕ}
use Rattle.pct_names.proofs.Names.{◌∷◌, ◌≡◌}
use Rattle.std.proofs.Common.{eqb-true}
use Rattle.pct_options.specs.declared.given_values.GivenValues.{GivenValues}
use Rattle.pct_options.specs.FirstOption.{first_option}
use Rattle.pct_options.specs.GivenValues.{numbers_with}
use Rattle.pct_options.proofs.FirstOptions.{shorter}
use Rattle.pct_options.proofs.GivenOptions.{run_with, run_of_none}

module _ {X : Type 0} (bytes : X → List ℕ) where
  -- a word is left
  pub some_left : (words : List X) → false ≡ (length words == 0) → 0 < length (map bytes words)
  some_left [] some = absurd (false≢true some)
  some_left (word ∷ words) some = omega arith

  -- no word is left
  pub run_ends : (held : GivenValues) (words : List X) → true ≡ (length words == 0) → run_with held (map bytes words) ≡ Some (numbers_with held)
  run_ends held [] none = run_of_none held
  run_ends held (word ∷ words) none = absurd (omega (arith, eqb-true (length (word ∷ words)) 0 (sym none)))

  -- fewer words are left after an option
  pub fewer_left : (words after : List X) (g : GivenOption) → first_option (map bytes words) ≡ Some (g, map bytes after) → length after < length words
  fewer_left words after g is = omega (arith, shorter (map bytes words) (map bytes after) g is, length-map words bytes, length-map after bytes)
