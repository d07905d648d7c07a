use Rattle.pct_names.proofs.Names.{Bool, false, length, nat_eq, None, option_map_or, slice_index_or, sym, ℕ, ◌∙◌}
use Rattle.pct_jumps.proofs.Closing.{find-next, eq-pc}
use Rattle.pct_jumps.proofs.jump_table.closed_at.Goals as goal

pub loop-opening-preserved : goal.loop-opening-preserved
loop-opening-preserved c =
    let test : ℕ → Bool = λ i. option_map_or (nat_eq c.args.pc) (slice_index_or c.args.closes.now i None) false in
    let fails = sym (eq-pc (slice_index_or c.args.closes.now c.loop-opening.opening None) c.args.pc) ∙ sym c.eq.ensures ∙ c.if-eq.false in
    record { found = c.loop-opening.invariant.found ∙ find-next test c.loop-opening.opening (length c.args.closes.now) c.loop-opening-test.true fails }
