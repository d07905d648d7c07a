use Rattle.pct_names.proofs.Names.{◌++◌, ◌<◌, [], ap, arith, filter, flat_map, length, List, take_all, ℕ, ◌∙◌, ◌≤◌}
use Rattle.pct_engine_laws.specs.Seen.{SeenSlot, threads_on}
use Rattle.pct_view_laws.specs.Listed.{is_unended}
use Rattle.pct_view_texts.specs.ListedLines.{values_lines}
use Rattle.pct_view_texts.specs.TextBuffers.{text_in}
use Rattle.pct_view_texts.proofs.Appending.{both_texts}
use Rattle.pct_view_texts.proofs.StateTexts.{next_slot}
use Rattle.pct_view_texts.proofs.states.push_threads.Goals as goal

pub loop-slot-preserved : goal.loop-slot-preserved
loop-slot-preserved c = λ p pid shared.
    let text = values_lines c.args.source.lines.now c.args.source.script.now p in
    let slots = c.args.state.now.slots in
    let slot = c.loop-slot.slot in
    let inside : slot < length slots = omega arith in
    both_texts _ _ _ _ _ (c.loop-slot.invariant p pid shared) (c.in_ok-push_slot.ensures p pid shared)
    ∙ ap (λ (lines : List ℕ). text_in c.args.text.now ++ lines) (next_slot text slots slot (record { made = 0; here = [] }) inside)

pub returns : goal.returns
returns c = λ p pid shared.
    let text = values_lines c.args.source.lines.now c.args.source.script.now p in
    let slots = c.args.state.now.slots in
    let all : length slots ≤ c.loop-slot.slot = omega arith in
    c.loop-slot.invariant p pid shared
    ∙ ap (λ (some : List SeenSlot). text_in c.args.text.now ++ flat_map text (filter is_unended (threads_on some))) (take_all c.loop-slot.slot slots all)
