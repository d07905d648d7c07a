use Rattle.pct_names.proofs.Names.{ap, Event, List, reverse, reverse-reverse, total_of, ◌∙◌, ◌≡◌}
use Rattle.pct_demo.proofs.summary.write_summary.Goals as goal

pub returns-clause-summary : goal.returns-clause-summary
returns-clause-summary g c = λ after is_run.
    let total : c.total_of.result ≡ total_of after.events = c.total_of.ensures ∙ ap (λ (es : List Event). total_of (reverse es)) (c.events.ensures.value after is_run) ∙ ap total_of (reverse-reverse after.events) in
    rw (← c.verdict.ensures.value after is_run, ← total, ← c.history.ensures.value) c.write_lines.ensures
