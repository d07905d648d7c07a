use Rattle.pct_names.proofs.Names.{ap, arith, next_key, sym, ◌∙◌}
use Rattle.pct_keys.specs.Tables.{Table}
use Rattle.pct_keys.proofs.SoundTables.{IsSound-made, next_key-here, made_at}
use Rattle.pct_keys.proofs.keys.Keys.create.Goals as goal

pub invariant_of-self : goal.invariant_of-self
invariant_of-self c =
    let number = c.next_key-number.ensures ∙ ap (λ (t : Table). next_key t.places c.args.place) (sym c.self.view_is) ∙ next_key-here c.self.inside.places c.args.place c.index-self-place.result (omega (arith, c.self.invariant.0.places)) c.index-self-place.is in
    rw (c.with_key-here.ensures, ← c.index-self-place.is) (IsSound-made _ c.self.invariant.0 c.args.place c.index-self-place.result.made c.next_key-number.result c.args.dtor number, c.self.invariant.1, c.self.invariant.2)

pub returns-clause-table : goal.returns-clause-table
returns-clause-table c =
    rw (c.with_key-here.ensures, ← c.index-self-place.is, ← c.self.view_is)
    (made_at _ c.args.place c.index-self-place.result (omega (arith, c.self.invariant.0.places)) c.index-self-place.is c.next_key-number.result c.args.dtor (rw (← c.self.view_is) at (sym c.is_live.ensures ∙ c.if-is_live.false)) (rw (← c.self.view_is) at c.next_key-number.ensures))
