use Rattle.pct_names.proofs.Names.{subst}
use Rattle.pct_process.specs.ProcessViews.{ProcessData}
use Rattle.pct_view_texts.specs.Fields.{after_commas}
use Rattle.pct_view_texts.specs.States.{registered_phrases}
use Rattle.pct_view_texts.specs.TextBuffers.{Appends}
use Rattle.pct_view_texts.proofs.PhraseTexts.{registered_text}
use Rattle.pct_view_texts.proofs.registered.push_each_registered.Goals as goal

pub returns : goal.returns
returns c =
    let s = c.state.inside in
    let script = c.args.script.now in
    subst (λ (d : ProcessData). Appends c.args.phrases.now c.push_onces.new.phrases (after_commas (registered_phrases script c.args.pid d.shared)) c.push_onces.result) c.state.view_is
    (registered_text _ _ _ _ _ _ script s.exit_value s.restricted s.exit_functions _ s.fork_handlers _ c.as_slice.ensures.value c.in_ok-push_progress.ensures c.in_ok-push_exit_functions.ensures c.in_ok-push_fork_handlers.ensures
    (rw (c.as_slice-2.ensures, c.as_slice-3.ensures) at c.push_onces.ensures))
