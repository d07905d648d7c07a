-- The threads that a step unblocks by a broadcast, by the process in which it is made.
use Rattle.pct_names.proofs.Names.{◌≡◌, ℕ, Bool, true, false, cond, List, Option, Some, find, refl, sym, ap, Transition}
use Rattle.std.specs.Option.{option_map_or}
use Rattle.pct_engine_laws.specs.Seen.{SeenProcess, is_live_seen}
use Rattle.pct_actions.specs.ProcessChanges.{woken}
use Rattle.pct_place.specs.ProcessSteps.{some_if}
use Rattle.pct_machine.specs.MachineSteps.{woken_in}

-- of the process that is found by its id
pub woken_found : (pid : ℕ) (o : Transition) (taken : Bool) (ps : List SeenProcess) (p : SeenProcess) → find (is_live_seen pid) ps ≡ Some p → cond taken (woken o.named p.slots) 0 ≡ woken_in pid (some_if taken o) ps
woken_found pid o false ps p found = refl
woken_found pid o true ps p found = sym (ap (λ (found : Option SeenProcess). option_map_or (λ q. woken o.named q.slots) found 0) found)
