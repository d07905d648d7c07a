use Rattle.pct_names.proofs.Names.{ap, ◌∙◌}
use Rattle.pct_engine_laws.specs.Seen.{is_last_in}
use Rattle.pct_process.specs.ProcessViews.{ProcessData}
use Rattle.pct_process.proofs.LastThread.{last_read}
use Rattle.pct_process.proofs.process_state.ProcessState.is_last.Goals as goal

pub returns : goal.returns
returns c =
    let s = c.self.inside in
    c.is_last.ensures ∙ last_read c.args.tid s.keys.rows s.threads c.self.invariant.0 ∙ ap (λ (p : ProcessData). is_last_in c.args.tid p.slots) c.self.view_is
