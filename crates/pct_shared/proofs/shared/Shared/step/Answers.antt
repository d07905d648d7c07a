use Rattle.pct_names.proofs.Names.{ap, subst, sym, ◌∙◌}
use Rattle.pct_shared.specs.Passes.{IsTurn, KeptByTurn, PassValue, view_on}
use Rattle.pct_shared.proofs.PassTurns.{kept_by_turn, rests_after, turn_after}
use Rattle.pct_shared.proofs.shared.Shared.step.Goals as goal

pub try_turn-requires-clause-number : goal.try_turn-requires-clause-number
try_turn-requires-clause-number c =
    let i = c.pass.inside in
    let rest = c.pass.invariant in
    (view_on i.opening.value i.seat.me.0, rest.seat, ap (λ (p : PassValue). p.view.known.number) c.pass.view_is ∙ sym c.number-number.ensures.number, rest.not_holding)

pub invariant_of-pass : goal.invariant_of-pass
invariant_of-pass c =
    let i = c.pass.inside in
    rests_after i.opening.value i.number i.seat.me c.try_turn.new.seat.me c.pass.invariant c.args.a c.args.b c.try_turn.result (c.try_turn.ensures.turn (view_on i.opening.value i.seat.me.0) c.pass.invariant.seat)

pub returns-clause-one : goal.returns-clause-one
returns-clause-one c =
    let i = c.pass.inside in
    let kept = kept_by_turn i.opening.value i.number i.seat.me c.try_turn.new.seat.me c.pass.invariant c.args.a c.args.b c.try_turn.result (c.try_turn.ensures.turn (view_on i.opening.value i.seat.me.0) c.pass.invariant.seat) in
    record {
      host = c.try_turn.ensures.table ∙ ap (λ (p : PassValue). p.host) c.pass.view_is;
      kept = subst (λ (p : PassValue). KeptByTurn p.view (view_on i.opening.value c.try_turn.new.seat.me.0)) c.pass.view_is kept;
    }

pub returns-clause-turn : goal.returns-clause-turn
returns-clause-turn c =
    let i = c.pass.inside in
    let taken = turn_after i.opening.value i.number i.seat.me c.try_turn.new.seat.me c.pass.invariant c.args.a c.args.b c.try_turn.result (c.try_turn.ensures.turn (view_on i.opening.value i.seat.me.0) c.pass.invariant.seat) in
    subst (λ (p : PassValue). IsTurn p.view (view_on i.opening.value c.try_turn.new.seat.me.0) c.args.a c.args.b c.try_turn.result) c.pass.view_is taken
