use Rattle.pct_names.proofs.Names.{◌%◌, Alt, ap, arith, item_at, length, List, slice_get, slice_get_past, sym, ℕ, ◌∙◌, ◌≡◌}
use Rattle.pct_transitions.specs.Listed.{listed}
use Rattle.pct_transitions.proofs.OfferedLists.{has_row}
use Rattle.pct_transitions.proofs.process_steps.numbered.Goals as goal

pub count-count-requires : goal.count-count-requires
count-count-requires c = has_row c.args.context.now.threads.now c.args.context.now.position.keys.now c.choices_at-choices.result c.requires.whole.rows c.choices_at-choices.ensures.within

pub returns-then-count-eq0 : goal.returns-then-count-eq0
returns-then-count-eq0 c = λ shared t environment is.
    let context = c.args.context.now in
    let these = listed context.threads.now context.position.keys.now c.choices_at-choices.result in
    let none : length these ≡ 0 = sym (c.count-count.ensures context.threads.now) ∙ c.if-count-eq0.true in
    sym (slice_get_past these _ (omega (arith, none))) ∙ ap (λ (xs : List Alt). item_at xs c.args.number) (c.choices_at-choices.ensures.value shared t environment is)

pub returns : goal.returns
returns c = λ shared t environment is.
    let context = c.args.context.now in
    let these = listed context.threads.now context.position.keys.now c.choices_at-choices.result in
    c.nth.ensures ∙ ap (λ (n : ℕ). slice_get these (c.args.number % n)) (c.count-count.ensures context.threads.now) ∙ ap (λ (xs : List Alt). item_at xs c.args.number) (c.choices_at-choices.ensures.value shared t environment is)
