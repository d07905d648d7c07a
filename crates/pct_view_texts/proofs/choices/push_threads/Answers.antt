use Rattle.pct_names.proofs.Names.{◌++◌, ◌<◌, [], ap, arith, cond, flat_map, is_some, length, List, take, take_all, ℕ, ◌∙◌, ◌≤◌}
use Rattle.pct_engine_laws.specs.Seen.{SeenSlot}
use Rattle.pct_process.specs.ProcessViews.{ProcessData}
use Rattle.pct_view_laws.specs.SeenViews.{listed_on}
use Rattle.pct_views.specs.ShownThreads.{listed_at}
use Rattle.pct_view_texts.specs.ListedLines.{lines_by}
use Rattle.pct_view_texts.specs.TextBuffers.{text_in}
use Rattle.pct_view_texts.proofs.Appending.{both_texts}
use Rattle.pct_view_texts.proofs.ListedTexts.{next_slot}
use Rattle.pct_view_texts.proofs.choices.push_threads.Goals as goal

pub loop-slot-preserved : goal.loop-slot-preserved
loop-slot-preserved c = λ program family p shown.
    let listing = c.args.listing in
    let text = lines_by listing.source.lines.now listing.source.script.now listing.goes_on in
    let on = listed_on program.script program.config family p in
    let slot = c.loop-slot.slot in
    let count = ap (λ (d : ProcessData). length d.slots) shown.state_is in
    let inside : slot < length p.slots = omega (arith, count) in
    both_texts _ _ _ (flat_map text (cond (is_some p.ended) [] (flat_map on (take slot p.slots)))) (flat_map text (listed_at program family p slot)) (c.loop-slot.invariant program family p shown) (c.in_ok-push_slot.ensures program family p shown)
    ∙ ap (λ (lines : List ℕ). text_in c.args.text.now ++ lines) (next_slot text (is_some p.ended) on p.slots slot (record { made = 0; here = [] }) inside)

pub returns : goal.returns
returns c = λ program family p shown.
    let listing = c.args.listing in
    let text = lines_by listing.source.lines.now listing.source.script.now listing.goes_on in
    let count = ap (λ (d : ProcessData). length d.slots) shown.state_is in
    let all : length p.slots ≤ c.loop-slot.slot = omega (arith, count) in
    c.loop-slot.invariant program family p shown
    ∙ ap (λ (slots : List SeenSlot). text_in c.args.text.now ++ flat_map text (cond (is_some p.ended) [] (flat_map (listed_on program.script program.config family p) slots))) (take_all c.loop-slot.slot p.slots all)
