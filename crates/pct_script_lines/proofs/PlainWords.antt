-- The arguments of a line that have to be plain functions, token by token.
use Rattle.pct_names.proofs.Names.{◌&&◌, ◌+◌, [], ap, ArgumentKind, arith, asks_plain, Bool, cond, drop, false, length, List, list_all}
use Rattle.pct_names.proofs.Names.{list_all-append, names_in, None, plain_names, refl, slice_get, slice_get_cases, Some, suc, sym, Token}
use Rattle.pct_names.proofs.Names.{true, ℕ, ◌∙◌, ◌∷◌, ◌≡◌}
use Rattle.pct_script_lines.proofs.FaultyWords.{argument_kind_first, past}

-- the names of one token
abbrev pub names_here : ArgumentKind → Token → List (List ℕ)
names_here p w = cond (asks_plain p) (names_in (w ∷ [])) []

nil : (argument_kinds : List ArgumentKind) → plain_names argument_kinds [] ≡ []
unfolding plain_names
nil [] = refl
nil (p ∷ argument_kinds) = refl

without_kinds : (words : List Token) → plain_names [] words ≡ []
unfolding plain_names
without_kinds words = refl

module _ (P : List ℕ → Bool) where
  abbrev pass : List ArgumentKind → List Token → Bool
  pass argument_kinds words = list_all P (plain_names argument_kinds words)

  -- without tokens all names pass a test
  pub pass_at_end : (argument_kinds : List ArgumentKind) (words : List Token) → length words ≡ 0 → list_all P (plain_names argument_kinds words) ≡ true
  pass_at_end argument_kinds [] none = ap (list_all P) (nil argument_kinds)
  pass_at_end argument_kinds (w ∷ words) none = absurd (omega arith)

  -- without argument kinds all names pass a test
  pub pass_after : (argument_kinds : List ArgumentKind) (at : ℕ) (words : List Token) → slice_get argument_kinds at ≡ None → list_all P (plain_names (drop at argument_kinds) words) ≡ true
  pass_after argument_kinds at words none = ap (λ ps. pass ps words) (past argument_kinds at none (slice_get_cases argument_kinds at).1) ∙ ap (list_all P) (without_kinds words)

  step : (argument_kinds : List ArgumentKind) (at : ℕ) (p : ArgumentKind) (w : Token) (words : List Token) → slice_get argument_kinds at ≡ Some p
      → pass (drop at argument_kinds) (w ∷ words) ≡ (list_all P (names_here p w) && pass (drop (at + 1) argument_kinds) words)
  unfolding plain_names
  step argument_kinds at p w words here =
      let next : suc at ≡ at + 1 = omega arith in
      ap (λ ps. pass ps (w ∷ words)) (argument_kind_first argument_kinds at p here)
      ∙ list_all-append P (names_here p w) (plain_names (drop (suc at) argument_kinds) words)
      ∙ ap (λ n. list_all P (names_here p w) && pass (drop n argument_kinds) words) next

  -- a token whose names do not all pass
  pub fails_here : (argument_kinds : List ArgumentKind) (at : ℕ) (p : ArgumentKind) (w : Token) (words : List Token) → slice_get argument_kinds at ≡ Some p → list_all P (names_here p w) ≡ false
      → list_all P (plain_names (drop at argument_kinds) (w ∷ words)) ≡ false
  fails_here argument_kinds at p w words here wrong = step argument_kinds at p w words here ∙ ap (λ (t : Bool). t && pass (drop (at + 1) argument_kinds) words) wrong

  -- a token whose names all pass
  pub passes_here : (argument_kinds : List ArgumentKind) (at : ℕ) (p : ArgumentKind) (w : Token) (words : List Token) → slice_get argument_kinds at ≡ Some p → list_all P (names_here p w) ≡ true
      → list_all P (plain_names (drop (at + 1) argument_kinds) words) ≡ list_all P (plain_names (drop at argument_kinds) (w ∷ words))
  passes_here argument_kinds at p w words here right = sym (step argument_kinds at p w words here ∙ ap (λ (t : Bool). t && pass (drop (at + 1) argument_kinds) words) right)
