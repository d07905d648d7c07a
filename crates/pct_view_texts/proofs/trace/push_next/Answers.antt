use Rattle.pct_names.proofs.Names.{◌++◌, ap, arith, drop, Event, length, List, refl, reverse, sym, ℕ, ◌∙◌}
use Rattle.pct_view_texts.proofs.Appending.{both_texts}
use Rattle.pct_view_texts.proofs.StepLines.{no_fewer, text_of_step}
use Rattle.pct_view_texts.proofs.trace.push_next.Goals as goal

pub split_at-requires : goal.split_at-requires
split_at-requires g c =
    let before = c.events-count.ensures.runs in
    let after = c.events.ensures.runs in
    let more = no_fewer c.args.engine.now c.step.new.self c.args.entry before.0 after.0 c.in_default.ensures.made before.1 after.1 in
    omega (arith, more, ap length (c.events-count.ensures.value before.0 before.1), ap length (c.events.ensures.value after.0 after.1))

pub returns-clause-made : goal.returns-clause-made
returns-clause-made g c =
    let before = c.events-count.ensures.runs in
    let after = c.events.ensures.runs in
    let recent =
    c.split_at.ensures.back
    ∙ ap (drop (length c.events-count.result.now)) (c.events.ensures.value after.0 after.1)
    ∙ ap (λ (events : List Event). drop (length events) (reverse after.0.events)) (c.events-count.ensures.value before.0 before.1) in
    let line = text_of_step c.args.engine.now c.step.new.self c.args.entry before.0 after.0 c.in_default.ensures.made before.1 after.1 c.args.lines.now c.script.result.now c.history.result.now c.start_of-start.result c.split_at.result.1.now c.script.ensures c.history.ensures.value (c.start_of-start.ensures before.0 before.1) recent in
    λ _. record {
      legal = c.in_default.ensures.legal.0 refl;
      engine_is = c.in_default.ensures.made;
      text_is = λ front is. both_texts front _ _ _ _ is c.in_ok-push_step.ensures ∙ ap (λ (text : List ℕ). front ++ text) (sym line);
    }
