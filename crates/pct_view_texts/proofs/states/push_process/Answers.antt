use Rattle.pct_names.proofs.Names.{ap, false, is_some, sym, ◌∙◌, ◌≡◌}
use Rattle.pct_process.specs.ProcessViews.{ProcessData}
use Rattle.pct_view_laws.specs.ListedProcesses.{process_in}
use Rattle.pct_view_texts.proofs.StateTexts.{process_text}
use Rattle.pct_view_texts.proofs.states.push_process.Goals as goal

pub returns : goal.returns
returns c = λ program family p shown.
    let pid = sym shown.pid_is in
    let shared = sym (ap (λ (d : ProcessData). d.shared) shown.state_is) in
    let going : is_some p.ended ≡ false = sym shown.ended_is ∙ c.if-process.false in
    process_text _ _ _ _ c.args.source.lines.now c.args.source.script.now p _ going (ap (λ (d : ProcessData). d.slots) shown.state_is)
    (c.in_ok-push_process_line.ensures (process_in p) pid shared) (c.push_threads.ensures (process_in p) pid shared)
