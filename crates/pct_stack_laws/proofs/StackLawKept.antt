-- Every run keeps the law of stack slots.
use Rattle.pct_names.proofs.Names.{Config, Entry, get_or, List, Process, Script, slice_get-get_or}
use Rattle.pct_thread_invariants.proofs.lift.ProcessIds.{have_pids}
use Rattle.pct_stack_laws.specs.StackLaw.{StackLaw}
use Rattle.pct_stack_laws.proofs.IndexedItems.{found_at_index}
use Rattle.pct_stack_laws.proofs.KeptSlots.{step_keeps_slots}
use Rattle.pct_stack_laws.proofs.LoneHolders.{alone_after_run}

-- in every run a stack slot is taken by one thread at a time, and is given back only when its thread has ended and was joined or is detached
pub every_run_keeps_stacks : (script : Script) (config : Config) (entries : List Entry) → StackLaw script config entries
every_run_keeps_stacks script config entries = record {
  alone = λ before after r are is k d low.
      let p : Process = get_or r.world.processes k d in
      alone_after_run script config before r is p.pid p (found_at_index (λ (q : Process). q.pid) r.world.processes k p (have_pids script config before r is).distinct (slice_get-get_or r.world.processes k d low));
  kept = λ before after e r s are is step.
      step_keeps_slots script config before r is e step.legal.process step.legal.thread (record { running = step.legal.running; is_process = step.legal.live; is_thread = step.legal.holds; offered = step.legal.offered });
}
