-- What the arguments of a script's statements name is there, by the kinds that the table of line kinds has for them. For functions see
-- NamedFunctions.antt.
use Rattle.pct_names.proofs.Names.{◌<◌, and_parts, argument_kinds_of, ArgumentKind, arguments_of, arith, Frame, Func, has_line, has_lines}
use Rattle.pct_names.proofs.Names.{has_word, have_words, length, List, list_all, nat_le, None, none-some, Option, option_and_then, refl}
use Rattle.pct_names.proofs.Names.{Script, slice_get, Some, statement_at, StatementIn, Stmt, true, ℕ, ◌∷◌, ◌≡◌, ◌≤◌}
use Rattle.std.proofs.lemmas.Bool.{leb-true}
use Rattle.pct_model.specs.declared.limits.TheConstants.{MAX_LOCALS}
use Rattle.pct_model.specs.declared.line_kind.ArgumentKind.TheVariants as argument_kind
use Rattle.pct_model.specs.declared.parsed_line.Argument.{Argument}
use Rattle.pct_model.specs.declared.parsed_line.Argument.TheVariants as argument
use Rattle.pct_model.specs.Contents.{names_of_kind}
use Rattle.pct_model.proofs.StaticFacts.{passes_all, limits_kept, text_parts, lines_of_function}
use Rattle.pct_transition_cases.proofs.PlacedStatements.{IsPlaced, statement_placed}
use Rattle.pct_thread_invariants.proofs.lift.KeyedLists.{item_passes}
use Rattle.pct_thread_invariants.proofs.thread.NamedFunctions.{contents, found_below}

module _ (script : Script) where
  -- the variable, if the argument is one, is a global of the script, or a local of each frame
  abbrev pub HasVariable : Argument → Type 0
  HasVariable (argument.Local i) = i < MAX_LOCALS
  HasVariable (argument.Global i) = i < length script.globals
  HasVariable _ = Unit {0}

  -- what an argument of a kind names is there
  abbrev pub IsThere : ArgumentKind → Argument → Type 0
  IsThere argument_kind.Variable a = HasVariable a
  IsThere argument_kind.Dest a = HasVariable a
  IsThere (argument_kind.Item k) (argument.Item i) = i < length (names_of_kind (contents script) k)
  IsThere _ a = Unit {0}

  -- so is what each of some arguments names
  abbrev pub AreThere : List ArgumentKind → List Argument → Type 0
  AreThere (k ∷ kinds) (a ∷ arguments) = IsThere k a × AreThere kinds arguments
  AreThere _ _ = Unit {0}

  module _ (locals : List (List ℕ)) (few : length locals ≤ MAX_LOCALS) where
    is_there : (k : ArgumentKind) (a : Argument) → has_word (contents script) locals k a ≡ true → IsThere k a
    unfolding has_word
    is_there argument_kind.Variable (argument.Local i) is = omega (arith, found_below locals i is, few)
    is_there argument_kind.Variable (argument.Global i) is = found_below script.globals i (and_parts _ _ is).0
    is_there argument_kind.Dest (argument.Local i) is = omega (arith, found_below locals i is, few)
    is_there argument_kind.Dest (argument.Global i) is = found_below script.globals i (and_parts _ _ is).0
    is_there (argument_kind.Item k) (argument.Item i) is = found_below (names_of_kind (contents script) k) i is
    is_there _ _ is = tt

    are_there : (kinds : List ArgumentKind) (arguments : List Argument) → have_words (contents script) locals kinds arguments ≡ true
        → AreThere kinds arguments
    unfolding have_words
    are_there (k ∷ kinds) (a ∷ arguments) is = (is_there k a (and_parts _ _ is).0, are_there kinds arguments (and_parts _ _ is).1)
    are_there _ _ is = tt

  in_function : (frame : Frame) (s : Stmt) (func : Option Func) → slice_get script.funcs frame.func ≡ func
      → option_and_then (λ (f : Func). slice_get f.body frame.pc) func ≡ Some s → AreThere (argument_kinds_of s) (arguments_of s)
  unfolding has_line
  in_function frame s None is at = absurd (none-some s at)
  in_function frame s (Some f) is at =
      let spelled : list_all (has_lines (contents script)) script.funcs ≡ true = (text_parts (contents script) (passes_all (contents script) script.passes_checks).text).funcs in
      let lines : has_lines (contents script) f ≡ true = item_passes (has_lines (contents script)) script.funcs frame.func f spelled is in
      let few : nat_le (length f.locals) 8 ≡ true = item_passes (λ (g : Func). nat_le (length g.locals) 8) script.funcs frame.func f (limits_kept (contents script) script.passes_checks).locals is in
      let line : has_line (contents script) f.locals s ≡ true = item_passes (has_line (contents script) f.locals) f.body frame.pc s (lines_of_function (contents script) f lines).body at in
      are_there f.locals (leb-true (length f.locals) 8 few) (argument_kinds_of s) (arguments_of s) (and_parts _ _ line).1

  -- what the next statement of a thread names is there
  pub names_there : {frames : List Frame} {body : List Stmt} {frame : Frame} {s : Stmt}
      → IsPlaced script frames body (StatementIn frame s) → AreThere (argument_kinds_of s) (arguments_of s)
  unfolding statement_at
  names_there {frame = frame} {s = s} placed = in_function frame s (slice_get script.funcs frame.func) refl (statement_placed placed)
