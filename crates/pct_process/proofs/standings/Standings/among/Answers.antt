use Rattle.pct_names.proofs.Names.{◌&&◌, ◌∙◌, ◌≡◌, ap, and_parts, Bool, false, sym, true}
use Rattle.pct_set.specs.Slots.{has_slot}
use Rattle.pct_set.proofs.SlotScans.{scan_begun, scan_there, scan_fewer, scan_more, scan_ended}
use Rattle.pct_process.specs.Standings.{standing_at}
use Rattle.pct_process.specs.StandingsWanted.{is_wanted}
use Rattle.pct_process.proofs.standings.Standings.among.Goals.{then-is_wanted, else-is_wanted}
use Rattle.pct_process.proofs.standings.Standings.among.Goals as goal

pub loop-slot-init : goal.loop-slot-init
loop-slot-init c = scan_begun _ _ _ _ c.len-count.ensures.determined c.new-found.ensures (λ k passes. (and_parts _ _ passes).0)

pub loop-slot-smaller : goal.loop-slot-smaller
loop-slot-smaller c = scan_fewer _ _ _ _ c.loop-slot.invariant c.in-Some.slot c.in-Some.ensures.value c.in-Some.ensures.below _ c.remove.ensures

pub loop-slot-preserved : goal.loop-slot-preserved
loop-slot-preserved c =
    let slot = c.in-Some.slot in
    let there = scan_there _ _ _ _ c.loop-slot.invariant slot c.in-Some.ensures.value c.in-Some.ensures.below in
    let is : c.is_wanted.result ≡ (has_slot c.args.candidates slot && is_wanted c.args.wanted (standing_at c.args.self.now slot)) =
    c.is_wanted.ensures ∙ ap (is_wanted c.args.wanted) c.standing.ensures ∙ ap (λ (b : Bool). b && is_wanted c.args.wanted (standing_at c.args.self.now slot)) (sym there) in
    let more = scan_more _ _ _ _ c.loop-slot.invariant slot c.in-Some.ensures.value c.in-Some.ensures.below _ c.remove.ensures c.if-is_wanted.found in
    elim c.if-is_wanted.branch [
      | then-is_wanted w ↦ more true (sym w.if-is_wanted.true ∙ is) (w.found-is ∙ w.insert.ensures)
      | else-is_wanted w ↦ more false (sym w.if-is_wanted.false ∙ is) w.found-is
    ]

pub returns : goal.returns
returns c = scan_ended _ _ _ _ c.loop-slot.invariant c.in_default.ensures.value
