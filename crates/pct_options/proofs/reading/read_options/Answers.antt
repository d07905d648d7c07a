use Rattle.pct_names.proofs.Names.{ap, given_after, map, None, option_and_then, RunOptions, Some, string_bytes, sym, ◌∙◌, ◌≡◌}
use Rattle.pct_options.specs.declared.given_values.GivenValues.{GivenValues}
use Rattle.pct_options.proofs.Configs.{options_have_workers}
use Rattle.pct_options.proofs.GivenOptions.{run_with, run_begins, run_goes_on, run_stops}
use Rattle.pct_options.proofs.WordsLeft.{some_left, fewer_left, run_ends}
use Rattle.pct_options.proofs.reading.read_options.Goals as goal

pub returns-in_err-name-clause-value : goal.returns-in_err-name-clause-value
returns-in_err-name-clause-value c =
    let left = map string_bytes c.loop-rest.rest.now in
    c.from_residual.ensures
    ∙ sym (run_stops c.loop-rest.given left (some_left string_bytes c.loop-rest.rest.now c.loop-rest-test.ensures) (sym c.in_err-name.ensures))
    ∙ c.loop-rest.invariant
    ∙ run_begins (map string_bytes c.args.words.now)

-- the run after the option that was read
goes_on : (c : goal.In_ok-given) → run_with c.in_ok-given.given (map string_bytes c.in_ok-name.after.now) ≡ run_with c.loop-rest.given (map string_bytes c.loop-rest.rest.now)
goes_on c =
    let left = map string_bytes c.loop-rest.rest.now in
    let after = map string_bytes c.in_ok-name.after.now in
    ap (λ held. option_and_then (λ (h : GivenValues). run_with h after) held) c.in_ok-given.ensures
    ∙ sym (run_goes_on c.loop-rest.given left after _ (sym c.in_ok-name.ensures))

pub returns-in_err-given-clause-value : goal.returns-in_err-given-clause-value
returns-in_err-given-clause-value c =
    let left = map string_bytes c.loop-rest.rest.now in
    let after = map string_bytes c.in_ok-name.after.now in
    c.from_residual-in_err-given.ensures
    ∙ ap (λ held. option_and_then (λ (h : GivenValues). run_with h after) held) c.in_err-given.ensures
    ∙ sym (run_goes_on c.loop-rest.given left after _ (sym c.in_ok-name.ensures))
    ∙ c.loop-rest.invariant
    ∙ run_begins (map string_bytes c.args.words.now)

pub loop-rest-smaller : goal.loop-rest-smaller
loop-rest-smaller c = fewer_left string_bytes c.loop-rest.rest.now c.in_ok-name.after.now _ (sym c.in_ok-name.ensures)

pub loop-rest-preserved : goal.loop-rest-preserved
loop-rest-preserved c = goes_on c ∙ c.loop-rest.invariant

pub returns-clause-value : goal.returns-clause-value
returns-clause-value c =
    ap (λ (numbers : RunOptions). Some numbers) c.numbers.ensures
    ∙ sym (run_ends string_bytes c.loop-rest.given c.loop-rest.rest.now c.loop-rest-test.ensures)
    ∙ c.loop-rest.invariant
    ∙ run_begins (map string_bytes c.args.words.now)

pub returns-clause-workers : goal.returns-clause-workers
returns-clause-workers c = options_have_workers (given_after None (map string_bytes c.args.words.now)) (Some c.numbers.result) (returns-clause-value c)
