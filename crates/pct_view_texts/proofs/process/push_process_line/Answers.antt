use Rattle.pct_names.proofs.Names.{◌++◌, ap, sym, ◌∙◌, ◌∷◌}
use Rattle.pct_process.specs.ProcessViews.{ProcessData}
use Rattle.pct_view_texts.specs.Fields.{field_text}
use Rattle.pct_view_texts.specs.States.{registered_phrases}
use Rattle.pct_view_texts.specs.TextBuffers.{text_in}
use Rattle.pct_view_texts.proofs.StateTexts.{process_line}
use Rattle.pct_view_texts.proofs.process.push_process_line.Goals as goal

pub returns : goal.returns
returns c = λ p pid shared.
    let script = c.args.script.now in
    process_line _ _ _ _ _ _ _ _ _ script c.args.pid p _ pid (shared ∙ sym (ap (λ (d : ProcessData). d.shared) c.state.view_is))
    c.in_ok-push_number.ensures
    (rw (c.as_slice.ensures, c.as_slice-2.ensures) at c.in_ok-push_globals.ensures)
    (rw (c.as_slice-3.ensures, c.as_slice-4.ensures) at c.in_ok-push_mutexes.ensures)
    (rw (c.as_slice-5.ensures, c.as_slice-6.ensures) at c.in_ok-push_semaphores.ensures)
    c.in_ok-push_keys.ensures
    (c.in_ok-push_registered.ensures ∙ ap (λ (d : ProcessData). text_in c.push_keys.new.text ++ (9 ∷ field_text (registered_phrases script c.args.pid d.shared))) (sym c.state.view_is))
    c.push.ensures
