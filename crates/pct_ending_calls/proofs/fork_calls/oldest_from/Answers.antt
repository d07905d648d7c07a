use Rattle.pct_names.proofs.Names.{◌+◌, ◌-◌, ap, arith, List, range_with_len, sym, ℕ, ◌∙◌}
use Rattle.pct_ending_calls.proofs.HandlerScans.{upwards, first_handler, passes_over, finds}
use Rattle.pct_ending_calls.proofs.fork_calls.oldest_from.Goals as goal

pub returns-in-Some-clause-value : goal.returns-in-Some-clause-value
returns-in-Some-clause-value c =
    let at = c.args.at.now in
    let registered = c.args.registered.now in
    let index = c.loop-index.index in
    let above = range_with_len (index + 1) (at.length - (index + 1)) in
    sym (finds at.phase registered index c.in-Some.func above (sym c.in-Some.ensures.value))
    ∙ ap (λ (indexes : List ℕ). first_handler at.phase registered indexes) (sym (upwards index at.length (omega (arith, c.loop-index-test.true))))
    ∙ c.loop-index.invariant

pub loop-index-preserved : goal.loop-index-preserved
loop-index-preserved c =
    let at = c.args.at.now in
    let registered = c.args.registered.now in
    let index = c.loop-index.index in
    let above = range_with_len (index + 1) (at.length - (index + 1)) in
    sym (passes_over at.phase registered index above (sym c.in_default.ensures.value))
    ∙ ap (λ (indexes : List ℕ). first_handler at.phase registered indexes) (sym (upwards index at.length (omega (arith, c.loop-index-test.true))))
    ∙ c.loop-index.invariant
