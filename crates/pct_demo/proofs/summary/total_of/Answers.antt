use Rattle.pct_names.proofs.Names.{ap, emitted, Event, get_or, option_map_or, refl, sym, total_of, ◌∙◌}
use Rattle.pct_model.specs.declared.event.What.TheVariants as what
use Rattle.pct_demo.proofs.Summaries.{total-more}
use Rattle.pct_demo.proofs.summary.total_of.Goals as goal

pub loop-event-init : goal.loop-event-init
unfolding total_of
loop-event-init c = refl

pub loop-event-preserved : goal.loop-event-preserved
loop-event-preserved c =
    let any : Event = record { pid = 0; tid = 0; what = what.Emit 0 } in
    c.emitted_or-total.ensures
    ∙ ap (option_map_or (λ value. value) (emitted (get_or c.args.events.now c.loop-event.event-index any).what)) c.loop-event.invariant
    ∙ sym (total-more c.args.events.now c.loop-event.event-index any c.loop-event-test.true)
