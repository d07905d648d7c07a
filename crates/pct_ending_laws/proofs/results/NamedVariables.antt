-- The variables in which a script's statements store a number are globals of the script, and locals of a frame.
use Rattle.pct_names.proofs.Names.{[], AllByRecursion, argument_kinds_of, ArgumentKind, arguments_of, Dest, Frame, List, Script, StatementIn}
use Rattle.pct_names.proofs.Names.{Stmt, suc, take, zero, ℕ, ◌∷◌}
use Rattle.pct_model.specs.declared.line_kind.ArgumentKind.TheVariants as argument_kind
use Rattle.pct_model.specs.declared.parsed_line.Argument.{Argument}
use Rattle.pct_model.specs.Statements.{dest}
use Rattle.pct_transition_cases.proofs.PlacedStatements.{IsPlaced}
use Rattle.pct_thread_invariants.proofs.thread.NamedWords.{HasVariable, AreThere, names_there}

-- the arguments that are destinations of a value, by the kinds of all arguments
abbrev pub destinations : List ArgumentKind → List Argument → List Argument
destinations (argument_kind.Variable ∷ kinds) (a ∷ arguments) = a ∷ destinations kinds arguments
destinations (argument_kind.Dest ∷ kinds) (a ∷ arguments) = a ∷ destinations kinds arguments
destinations (k ∷ kinds) (a ∷ arguments) = destinations kinds arguments
destinations _ _ = []

module _ (script : Script) where
  -- the variable is a global of the script, or a local of each frame
  abbrev pub IsVariable : Dest → Type 0
  IsVariable d = HasVariable script (dest d)

  first_there : (n : ℕ) (kinds : List ArgumentKind) (arguments : List Argument) → AreThere script kinds arguments
      → AllByRecursion (HasVariable script) (take n (destinations kinds arguments))
  first_there zero kinds arguments there = tt
  first_there (suc n) (argument_kind.Variable ∷ kinds) (a ∷ arguments) there = (there.0, first_there n kinds arguments there.1)
  first_there (suc n) (argument_kind.Dest ∷ kinds) (a ∷ arguments) there = (there.0, first_there n kinds arguments there.1)
  first_there (suc n) (k ∷ kinds) (a ∷ arguments) there = first_there (suc n) kinds arguments there.1
  first_there (suc n) _ _ there = tt

  -- the first n destinations of the next statement of a thread are variables
  pub names_variables : (n : ℕ) {frames : List Frame} {body : List Stmt} {frame : Frame} {s : Stmt}
      → IsPlaced script frames body (StatementIn frame s) → AllByRecursion (HasVariable script) (take n (destinations (argument_kinds_of s) (arguments_of s)))
  names_variables n {s = s} placed = first_there n (argument_kinds_of s) (arguments_of s) (names_there script placed)
