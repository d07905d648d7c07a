use Rattle.pct_names.proofs.Names.{◌≡◌, ◌∙◌, [], ap, arith, false, not, refl, sym, true}
use Rattle.std.proofs.lemmas.Bool.{eq-eqb, ne_eqb}
use Rattle.pct_set.proofs.SlotScans.{scan_begun, scan_there, scan_fewer, scan_more, scan_ended}
use Rattle.pct_threads.specs.Tables.{held_at}
use Rattle.pct_process.specs.Standings.{StandingsValue}
use Rattle.pct_process.specs.ThreadViews.{has_no_other}
use Rattle.pct_process.proofs.UnfinishedThreads.{left_there, id_told, left_held, not_last, last}
use Rattle.pct_process.proofs.standings.Standings.is_last.Goals as goal

pub loop-slot-init : goal.loop-slot-init
loop-slot-init c = scan_begun _ _ _ _ (ap (λ (v : StandingsValue). v.unfinished) c.self.view_is ∙ c.requires.unfinished) refl (λ k. left_there c.args.tid (held_at c.args.threads.now k))

pub place-requires : goal.place-requires
place-requires c = left_held c.args.tid c.args.threads.now c.in-Some.slot (scan_there _ _ _ _ c.loop-slot.invariant c.in-Some.slot c.in-Some.ensures.value c.in-Some.ensures.below)

pub returns-then-place-tid : goal.returns-then-place-tid
returns-then-place-tid c =
    let slot = c.in-Some.slot in
    let left = scan_there _ _ _ _ c.loop-slot.invariant slot c.in-Some.ensures.value c.in-Some.ensures.below in
    not_last c.args.tid c.args.threads.now slot left
    (sym (id_told c.args.tid (held_at c.args.threads.now slot) c.place.result c.place.ensures.value left) ∙ ne_eqb c.place.result.id c.args.tid c.if-place-tid.true)

pub loop-slot-smaller : goal.loop-slot-smaller
loop-slot-smaller c = scan_fewer _ _ _ _ c.loop-slot.invariant c.in-Some.slot c.in-Some.ensures.value c.in-Some.ensures.below _ c.remove.ensures

pub loop-slot-preserved : goal.loop-slot-preserved
loop-slot-preserved c =
    let slot = c.in-Some.slot in
    let left = scan_there _ _ _ _ c.loop-slot.invariant slot c.in-Some.ensures.value c.in-Some.ensures.below in
    let own : has_no_other c.args.tid (held_at c.args.threads.now slot) ≡ true =
    sym (id_told c.args.tid (held_at c.args.threads.now slot) c.place.result c.place.ensures.value left) ∙ eq-eqb c.place.result.id c.args.tid c.if-place-tid.false in
    scan_more _ _ _ _ c.loop-slot.invariant slot c.in-Some.ensures.value c.in-Some.ensures.below _ c.remove.ensures [] false (sym (ap not own)) refl

pub returns : goal.returns
returns c = last c.args.tid c.args.threads.now (omega (arith, c.slot_count-count.ensures.value, c.slot_count-count.ensures.few)) (scan_ended _ _ _ _ c.loop-slot.invariant c.in_default.ensures.value)
