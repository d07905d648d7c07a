use Rattle.pct_names.proofs.Names.{ap, same_Some, sym, ◌∙◌}
use Rattle.atomic_table.specs.Table.{Me}
use Rattle.pct_shared.specs.declared.view.View.{View}
use Rattle.pct_shared.specs.TurnRule.{SeatView, Slot}
use Rattle.pct_shared.proofs.PassTurns.{turn_busy}
use Rattle.pct_shared.proofs.shared.try_turn.Goals as goal

pub use_turn-requires-clause-lifted : goal.use_turn-requires-clause-lifted
use_turn-requires-clause-lifted c = let n = c.requires.number in (n.0, c.in-Ok.ensures.got n.0 n.1, n.2)

pub returns-in-Ok-clause-turn : goal.returns-in-Ok-clause-turn
returns-in-Ok-clause-turn c = λ v is. c.use_turn.ensures.turn v (c.in-Ok.ensures.got v is)

pub returns-in-Err-clause-turn : goal.returns-in-Err-clause-turn
returns-in-Err-clause-turn c = λ v is.
    let n = c.requires.number in
    let same = same_Some n.0 v (ap (λ (me : Me Slot SeatView). me.0) (sym n.1 ∙ is)) in
    let missed = c.in-Err.ensures.missed v is in
    turn_busy v c.in-Err.found c.take_turn.new.seat.me c.args.choice.a c.args.choice.b (ap (λ (w : View). w.holding) (sym same) ∙ n.3) missed.0 missed.1
