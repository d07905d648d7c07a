-- What a result is, by what holds of it.
use Rattle.std.proofs.Common.{◌≡◌, sym, subst}
use Rattle.std.specs.Prelude.{Result, Ok, Err}
use Rattle.pct_tallies.specs.declared.fault.TallyFault.{TallyFault}
use Rattle.pct_tallies.specs.declared.fault.TallyFault.TheVariants as fault
use Rattle.pct_tallies.specs.Faults.{Fault, Gives, GivesTotal}

module _ {X : Type 0} where
  -- where the text gives what has a fact, the result has it
  pub gives_total : (holds : Result X Fault → Type 0) (r : Result X TallyFault) (given : Result X Fault) → Gives (λ (x : X). x) r given → holds given → GivesTotal holds r
  gives_total holds (Ok x) given is h = subst holds is h
  gives_total holds (Err fault.NoMemory) given is h = tt
  gives_total holds (Err (fault.Refused line why)) given is h = subst holds is h

  -- where one fact gives another
  pub total_has : (one other : Result X Fault → Type 0) → ((r : Result X Fault) → one r → other r) → (r : Result X TallyFault) → GivesTotal one r → GivesTotal other r
  total_has one other more (Ok x) h = more (Ok x) h
  total_has one other more (Err fault.NoMemory) h = tt
  total_has one other more (Err (fault.Refused line why)) h = more (Err (line, why)) h
