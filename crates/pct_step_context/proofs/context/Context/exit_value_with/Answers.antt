use Rattle.pct_names.proofs.Names.{ap, exit_value_of, None, option_and_then, Thread, ◌∙◌}
use Rattle.pct_step_context.specs.OtherThreads.{ended_value}
use Rattle.pct_step_context.proofs.StandingsRead.{small_slot}
use Rattle.pct_step_context.proofs.EnvironmentRead.{has_ended, named_read}
use Rattle.pct_step_context.proofs.context.Context.exit_value_with.Goals as goal

pub standing-requires : goal.standing-requires
standing-requires c = small_slot c.args.self.now.threads.now _ _ c.slot_count-count.ensures.value c.slot_count-count.ensures.few c.in_ok-slot.ensures.occupied

pub returns-in_err-slot : goal.returns-in_err-slot
returns-in_err-slot c = λ others sees.
    let self = c.args.self.now in
    c.from_residual.ensures
    ∙ ap (option_and_then (λ (t : Thread). exit_value_of t.status)) (named_read self.position.keys.now self.threads.now c.requires.rows self.position.id _ _ others sees c.args.id c.in_err-slot.ensures.some None c.in_err-slot.ensures.value)

pub returns : goal.returns
returns c = λ others sees.
    let self = c.args.self.now in
    c.ended_value.ensures
    ∙ ap ended_value c.standing.ensures
    ∙ has_ended self.position.keys.now self.threads.now c.requires.rows self.position.id _ _ others sees c.args.id c.in_ok-slot.ensures.some c.in_ok-slot.slot c.in_ok-slot.ensures.value self.standings.now c.requires.standings_are (small_slot self.threads.now _ _ c.slot_count-count.ensures.value c.slot_count-count.ensures.few c.in_ok-slot.ensures.occupied)
