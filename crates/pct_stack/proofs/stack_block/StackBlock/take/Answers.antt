use Rattle.std.proofs.Common.{ℕ, List, length, replicate, ◌∙◌, ap, sym, arith}
use Rattle.std.specs.Prelude.{slice_get}
use Rattle.pct_stack.specs.Rows.{word_at}
use Rattle.pct_stack.specs.Stacks.{Stacks, is_free, with_taken}
use Rattle.pct_stack.proofs.BlockLemmas.{none_in, head_free, none_free}
use Rattle.pct_stack.proofs.SeenLemmas.{seen_rows, follow-first}
use Rattle.pct_stack.proofs.stack_block.StackBlock.take.Goals as goal

pub returns-then-slot-row_count-clause-slot : goal.returns-then-slot-row_count-clause-slot
returns-then-slot-row_count-clause-slot c =
    let s = c.begin.new in
    ap (λ (l : List ℕ). slice_get l 0) (sym (none_in s.grid s.head (omega (arith, c.if-slot-row_count.true, c.row_count.ensures.value)))) ∙ ap (λ (t : Stacks). slice_get t.free 0) (c.begin.ensures.same ∙ c.self.view_is)

pub returns-then-slot-row_count-clause-full : goal.returns-then-slot-row_count-clause-full
returns-then-slot-row_count-clause-full c = λ _ slot.
    let s = c.begin.new in
    sym (ap (λ (t : Stacks). is_free t slot) (c.begin.ensures.same ∙ c.self.view_is)) ∙ none_free s.grid s.head c.begin.ensures.block (omega (arith, c.if-slot-row_count.true, c.row_count.ensures.value)) slot

pub returns-then-slot-row_count-clause-unchanged : goal.returns-then-slot-row_count-clause-unchanged
returns-then-slot-row_count-clause-unchanged c = λ _. seen_rows c.begin.new.grid c.begin.new.head c.begin.ensures.rows ∙ c.begin.ensures.same ∙ c.self.view_is

pub take_slot-requires : goal.take_slot-requires
take_slot-requires c =
    let s = c.begin.new in
    ap (λ (t : Stacks). is_free t s.head) (seen_rows s.grid s.head c.begin.ensures.rows) ∙ head_free s.grid s.head c.begin.ensures.block (omega (arith, c.if-slot-row_count.false, c.row_count.ensures.value))

pub returns-clause-slot : goal.returns-clause-slot
returns-clause-slot c =
    let s = c.begin.new in
    sym (follow-first (length s.grid.rows) (λ i. word_at s.grid i 0) (λ i. word_at s.grid i 1) (length s.grid.rows) s.head (omega (arith, c.if-slot-row_count.false, c.row_count.ensures.value)) c.begin.ensures.rows)
    ∙ ap (λ (t : Stacks). slice_get t.free 0) (c.begin.ensures.same ∙ c.self.view_is)

pub returns-clause-free : goal.returns-clause-free
returns-clause-free c =
    let s = c.begin.new in
    sym (ap (λ (t : Stacks). is_free t s.head) (c.begin.ensures.same ∙ c.self.view_is)) ∙ head_free s.grid s.head c.begin.ensures.block (omega (arith, c.if-slot-row_count.false, c.row_count.ensures.value))

pub returns-clause-taken : goal.returns-clause-taken
returns-clause-taken c =
    let s = c.begin.new in
    c.take_slot.ensures
    ∙ ap (λ (t : Stacks). with_taken s.head (replicate t.width 0) t) (seen_rows s.grid s.head c.begin.ensures.rows ∙ c.begin.ensures.same ∙ c.self.view_is)
