use Rattle.pct_names.proofs.Names.{is_some, Some, subst, sym, true, ◌≡◌}
use Rattle.pct_process.specs.ProcessViews.{thread_on_slot, ProcessData}
use Rattle.pct_step_context.proofs.ProcessReads.{occupied_by, record_read}
use Rattle.pct_transitions.proofs.process_reads.record_of.Goals as goal

pub read-requires : goal.read-requires
read-requires g c =
    let s = c.process.inside in
    occupied_by s.keys s.threads c.process.invariant.0 c.args.slot (subst (λ (d : ProcessData). is_some (thread_on_slot d.slots c.args.slot) ≡ true) (sym c.process.view_is) c.requires)

pub returns-clause-record : goal.returns-clause-record
returns-clause-record g c = λ t at.
    let s = c.process.inside in
    record_read s.keys s.threads c.process.invariant.0 c.args.slot t c.read.result.now c.read.ensures.value (subst (λ (d : ProcessData). thread_on_slot d.slots c.args.slot ≡ Some t) (sym c.process.view_is) at)
