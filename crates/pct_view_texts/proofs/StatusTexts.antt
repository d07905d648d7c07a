-- The phrases of statuses and of waits.
use Rattle.pct_names.proofs.Names.{◌++◌, Bool, codes, List, refl, Script, Status, ℕ, ◌≡◌}
use Rattle.pct_model.specs.declared.state.Status.TheVariants as status
use Rattle.pct_view_laws.specs.declared.wait.Wait.{Wait}
use Rattle.pct_view_laws.specs.declared.wait.Wait.TheVariants as wait
use Rattle.pct_view_texts.specs.Fields.{Phrase, field_text, before_comma}
use Rattle.pct_view_texts.specs.Choices.{status_of_waiting, wait_phrases}
use Rattle.pct_view_texts.specs.Positions.{status_phrases}
use Rattle.pct_view_texts.proofs.FieldTexts.{phrases_before}

-- phrases before those of a wait
pub before_wait : (phrases : List Phrase) (script : Script) (pid : ℕ) (w : Wait) → field_text (phrases ++ wait_phrases script pid w) ≡ before_comma phrases ++ field_text (wait_phrases script pid w)
unfolding wait_phrases
before_wait phrases script pid (wait.Mutex m owner) = phrases_before phrases _ _
before_wait phrases script pid (wait.Once o caller) = phrases_before phrases _ _
before_wait phrases script pid (wait.Thread id) = phrases_before phrases _ _
before_wait phrases script pid (wait.Process child) = phrases_before phrases _ _
before_wait phrases script pid (wait.Semaphore s) = phrases_before phrases _ _
before_wait phrases script pid (wait.Condition c) = phrases_before phrases _ _
before_wait phrases script pid wait.Signal = phrases_before phrases _ _

-- the status of a thread that waits and is not running, before the wait
pub before_comma_if_not_running : (script : Script) (timed : Bool) (s : Status) → (s ≡ status.Running → ⊥) → before_comma (status_of_waiting script timed s) ≡ field_text (status_phrases script timed s) ++ codes ", "
unfolding status_phrases
before_comma_if_not_running script timed status.Running not = absurd (not refl)
before_comma_if_not_running script timed (status.AtPoint index) not = refl
before_comma_if_not_running script timed (status.Joining id) not = refl
before_comma_if_not_running script timed (status.InSem s) not = refl
before_comma_if_not_running script timed (status.InWaitPid pid) not = refl
before_comma_if_not_running script timed (status.Waiting c m) not = refl
before_comma_if_not_running script timed (status.Reacquire c m why) not = refl
before_comma_if_not_running script timed status.Ending not = refl
before_comma_if_not_running script timed (status.Forking at) not = refl
before_comma_if_not_running script timed status.Exiting not = refl
before_comma_if_not_running script timed (status.Ended v) not = refl
