use Rattle.std.proofs.Common.{◌≡◌, ℕ, not, ◌+◌, ◌-◌, ◌<◌, length, ◌∙◌, ap, sym, subst, arith}
use Rattle.std.proofs.lemmas.Bool.{not-true, not-false}
use Rattle.pct_stack.specs.declared.stack_block.TheConstants.{NO_SLOT}
use Rattle.pct_stack.specs.Rows.{Rows}
use Rattle.pct_stack.specs.Stacks.{with_kept_alone}
use Rattle.pct_stack.specs.Links.{stacks_of, IsBlock, with_front}
use Rattle.pct_stack.proofs.GiveLemmas.{is_kept, option_eq-some}
use Rattle.pct_stack.proofs.GivenRows.{RowsGiven, given-first, given-linked, given-skipped, given-done}
use Rattle.pct_stack.proofs.stack_block.give_all.Goals as goal
use Rattle.pct_stack.proofs.stack_block.give_all.Goals.{then-ne, else-ne}

pub loop-done-init : goal.loop-done-init
loop-done-init c =
    let old : Rows = c.args.grid.now in
    subst (RowsGiven c.args.keep (c.row_count-count.result - 0) old old) (sym c.requires.none)
    (given-first c.args.keep old (subst (IsBlock old) c.requires.none c.requires.block) c.requires.keep (c.row_count-count.result - 0) (omega (arith, c.row_count-count.ensures.value)))

pub link-requires-clause-slot : goal.link-requires-clause-slot
link-requires-clause-slot c = omega (arith, c.loop-done.invariant.rows, c.row_count-count.ensures.value, c.loop-done-test.true)

pub loop-done-preserved : goal.loop-done-preserved
loop-done-preserved c =
    let old : Rows = c.args.grid.now in
    let keep = c.args.keep in
    let block : IsBlock old NO_SLOT = subst (IsBlock old) c.requires.none c.requires.block in
    let i : ℕ = c.row_count-count.result - c.loop-done.done in
    let slot : ℕ = c.row_count-count.result - 1 - c.loop-done.done in
    let inside : slot < length old.rows = omega (arith, c.row_count-count.ensures.value, c.loop-done-test.true) in
    let next : i ≡ slot + 1 = omega (arith, c.loop-done-test.true) in
    let here : slot ≡ c.row_count-count.result - (c.loop-done.done + 1) = omega arith in
    let tested : not (is_kept keep slot) ≡ c.ne.result = ap not (sym (option_eq-some keep slot)) ∙ sym c.ne.ensures in
    subst (λ (k : ℕ). RowsGiven keep k old c.if-ne.grid c.if-ne.head) here (elim c.if-ne.branch [
      | then-ne w ↦
          subst (λ (g : Rows). RowsGiven keep slot old g c.if-ne.head) (sym w.link.ensures.grid ∙ sym w.grid-is)
          (subst (RowsGiven keep slot old (with_front c.loop-done.head slot c.loop-done.grid)) (sym w.link.ensures.head ∙ sym w.head-is)
          (given-linked keep old block c.requires.keep i slot c.loop-done.grid c.loop-done.head c.loop-done.invariant next inside (not-true (is_kept keep slot) (tested ∙ w.if-ne.true))))
      | else-ne w ↦
          subst (λ (g : Rows). RowsGiven keep slot old g c.if-ne.head) (sym w.grid-is)
          (subst (RowsGiven keep slot old c.loop-done.grid) (sym w.head-is)
          (given-skipped keep old block c.requires.keep i slot c.loop-done.grid c.loop-done.head c.loop-done.invariant next inside (not-false (is_kept keep slot) (tested ∙ w.if-ne.false))))
    ])

pub returns-clause-given : goal.returns-clause-given
returns-clause-given c =
    let old : Rows = c.args.grid.now in
    let done : c.row_count-count.result - c.loop-done.done ≡ 0 = omega (arith, c.loop-done-test.false) in
    given-done c.args.keep old (subst (IsBlock old) c.requires.none c.requires.block) c.requires.keep c.loop-done.grid c.loop-done.head
    (subst (λ (k : ℕ). RowsGiven c.args.keep k old c.loop-done.grid c.loop-done.head) done c.loop-done.invariant)
    ∙ ap (λ h. with_kept_alone c.args.keep (stacks_of old h)) (sym c.requires.none)
