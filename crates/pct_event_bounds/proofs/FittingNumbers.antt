-- The value of an operand has 32 bits where the variables have: the numbers in the text of a script have.
use Rattle.pct_names.proofs.Names.{All, All-get_or, and_parts, argument_kinds_of, ArgumentKind, arguments_of, arith, cases_lt}
use Rattle.pct_names.proofs.Names.{Frame, Func, get_or_past, has_line, has_lines, has_word, have_words, inl, inr}
use Rattle.pct_names.proofs.Names.{length, List, list_all, None, Operand, Option, option_and_then, none-some}
use Rattle.pct_names.proofs.Names.{refl, Script, slice_get, slice_index, Some, statement_at, StatementIn, Stmt, subst, sym, true, value_of}
use Rattle.pct_names.proofs.Names.{ℕ, ◌∷◌, ◌≡◌}
use Rattle.std.proofs.lemmas.Bool.{leb-true}
use Rattle.pct_model.specs.declared.line_kind.ArgumentKind.TheVariants as argument_kind
use Rattle.pct_model.specs.declared.parsed_line.Argument.{Argument}
use Rattle.pct_model.specs.declared.parsed_line.Argument.TheVariants as argument
use Rattle.pct_model.specs.declared.statement.Operand.TheVariants as operand
use Rattle.pct_model.specs.Statements.{value}
use Rattle.pct_model.proofs.StaticFacts.{passes_all, text_parts, lines_of_function}
use Rattle.pct_transition_cases.proofs.PlacedStatements.{IsPlaced, statement_placed}
use Rattle.pct_thread_invariants.proofs.lift.KeyedLists.{item_passes}
use Rattle.pct_thread_invariants.proofs.thread.NamedFunctions.{contents}
use Rattle.pct_event_bounds.specs.EventNumbers.{Fits}

-- ---- operands

-- a number in the text of a statement
abbrev pub IsFitting : ArgumentKind → Argument → Type 0
IsFitting argument_kind.Operand (argument.Number n) = Fits n
IsFitting _ a = Unit {0}

abbrev AreFitting : List ArgumentKind → List Argument → Type 0
AreFitting (k ∷ kinds) (a ∷ arguments) = IsFitting k a × AreFitting kinds arguments
AreFitting _ _ = Unit {0}

module _ (script : Script) where
  is_fitting : (locals : List (List ℕ)) (k : ArgumentKind) (a : Argument) → has_word (contents script) locals k a ≡ true → IsFitting k a
  unfolding has_word
  is_fitting locals argument_kind.Operand (argument.Number n) is = leb-true n 4294967295 is
  is_fitting locals _ _ is = tt

  are_fitting : (locals : List (List ℕ)) (kinds : List ArgumentKind) (arguments : List Argument) → have_words (contents script) locals kinds arguments ≡ true → AreFitting kinds arguments
  unfolding have_words
  are_fitting locals (k ∷ kinds) (a ∷ arguments) is = (is_fitting locals k a (and_parts _ _ is).0, are_fitting locals kinds arguments (and_parts _ _ is).1)
  are_fitting locals _ _ is = tt

  in_function : (frame : Frame) (s : Stmt) (func : Option Func) → slice_get script.funcs frame.func ≡ func
      → option_and_then (λ (f : Func). slice_get f.body frame.pc) func ≡ Some s → AreFitting (argument_kinds_of s) (arguments_of s)
  unfolding has_line
  in_function frame s None is at = absurd (none-some s at)
  in_function frame s (Some f) is at =
      let spelled : list_all (has_lines (contents script)) script.funcs ≡ true = (text_parts (contents script) (passes_all (contents script) script.passes_checks).text).funcs in
      let lines : has_lines (contents script) f ≡ true = item_passes (has_lines (contents script)) script.funcs frame.func f spelled is in
      let line : has_line (contents script) f.locals s ≡ true = item_passes (has_line (contents script) f.locals) f.body frame.pc s (lines_of_function (contents script) f lines).body at in
      are_fitting f.locals (argument_kinds_of s) (arguments_of s) (and_parts _ _ line).1

  pub numbers_in : {frames : List Frame} {body : List Stmt} {frame : Frame} {s : Stmt} → IsPlaced script frames body (StatementIn frame s) → AreFitting (argument_kinds_of s) (arguments_of s)
  unfolding statement_at
  numbers_in {frame = frame} {s = s} placed = in_function frame s (slice_get script.funcs frame.func) refl (statement_placed placed)

-- a variable
pub index_fits : (xs : List ℕ) (i : ℕ) → All Fits xs → Fits (slice_index xs i)
index_fits xs i all = elim (cases_lt i (length xs)) [
  | inl low ↦ All-get_or Fits xs i 0 low all
  | inr past ↦ subst Fits (sym (get_or_past xs i 0 past)) (omega arith)
]

-- the value of an operand
pub value_fits : (globals : List ℕ) (frame : Frame) (v : Operand) → IsFitting argument_kind.Operand (value v) → All Fits globals → All Fits frame.locals → Fits (value_of globals frame v)
unfolding value_of
value_fits globals frame (operand.Num n) number all locals = number
value_fits globals frame (operand.Local i) number all locals = index_fits frame.locals i locals
value_fits globals frame (operand.Global i) number all locals = index_fits globals i all
