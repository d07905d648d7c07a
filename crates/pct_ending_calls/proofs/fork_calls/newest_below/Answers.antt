use Rattle.pct_names.proofs.Names.{◌-◌, ap, arith, List, Prepare, range_with_len, reverse, sym, ℕ, ◌∙◌}
use Rattle.pct_ending_calls.proofs.HandlerScans.{downwards, first_handler, passes_over, finds}
use Rattle.pct_ending_calls.proofs.fork_calls.newest_below.Goals as goal

pub returns-in-Some-clause-value : goal.returns-in-Some-clause-value
returns-in-Some-clause-value c =
    let registered = c.args.registered.now in
    let index = c.loop-index.index in
    let below = reverse (range_with_len 0 (index - 1)) in
    sym (finds Prepare registered (index - 1) c.in-Some.func below (sym c.in-Some.ensures.value))
    ∙ ap (λ (indexes : List ℕ). first_handler Prepare registered indexes) (sym (downwards index (omega (arith, c.loop-index-test.true))))
    ∙ c.loop-index.invariant

pub loop-index-preserved : goal.loop-index-preserved
loop-index-preserved c =
    let registered = c.args.registered.now in
    let index = c.loop-index.index in
    let below = reverse (range_with_len 0 (index - 1)) in
    sym (passes_over Prepare registered (index - 1) below (sym c.in_default.ensures.value))
    ∙ ap (λ (indexes : List ℕ). first_handler Prepare registered indexes) (sym (downwards index (omega (arith, c.loop-index-test.true))))
    ∙ c.loop-index.invariant
