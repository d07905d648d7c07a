use Rattle.pct_names.proofs.Names.{ap, arith, close_of, length, length-map-range_with_len, sym, ◌∙◌}
use Rattle.pct_jumps.proofs.Closing.{opens-at, opens-not}
use Rattle.pct_jumps.proofs.jump_table.open_of.Goals as goal

pub closed_at-requires : goal.closed_at-requires
closed_at-requires c =
    let long = ap length c.requires.closes ∙ length-map-range_with_len (close_of c.args.body.now) 0 (length c.args.body.now) in
    record { few = omega (arith, long, c.requires.few); within = omega (arith, long, c.requires.within) }

pub returns-then-is_end : goal.returns-then-is_end
returns-then-is_end c = c.closed_at.ensures ∙ opens-at c.args.body.now c.args.closes.now c.args.pc _ c.requires.within c.requires.closes (sym c.is_end.ensures ∙ c.if-is_end.true)

pub returns-else-is_end : goal.returns-else-is_end
returns-else-is_end c = sym (opens-not c.args.body.now c.args.pc _ c.requires.within (sym c.is_end.ensures ∙ c.if-is_end.false))
