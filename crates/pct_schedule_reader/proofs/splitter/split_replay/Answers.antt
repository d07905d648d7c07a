use Rattle.pct_names.proofs.Names.{◌-◌, ap, arith, Bool, bytes_eq, codes, false, length, lines_of, List, marker_in, replay_parts}
use Rattle.pct_names.proofs.Names.{split_at_marker, sym, true, ℕ, ◌∙◌, ◌≡◌}
use Rattle.pct_schedule.proofs.LineLoops.{reads_line}
use Rattle.pct_schedule.proofs.Markers.{split_here, split_later, not_split}
use Rattle.pct_schedule_reader.proofs.splitter.split_replay.Goals as goal

-- the first line begins at offset 0
begins_at_zero : (input : List ℕ) → replay_parts input ≡ split_at_marker (length input) (marker_in (length input - length input) (lines_of input))
unfolding replay_parts
begins_at_zero input =
    let zero : 0 ≡ length input - length input = omega arith in
    ap (λ (offset : ℕ). split_at_marker (length input) (marker_in offset (lines_of input))) zero

compared : (line word marker : List ℕ) (is : Bool) → is ≡ bytes_eq line word → word ≡ marker → bytes_eq line marker ≡ is
compared line word marker is e same = ap (bytes_eq line) (sym same) ∙ sym e

pub loop-raw-init : goal.loop-raw-init
loop-raw-init c = (begins_at_zero c.args.input.now, omega arith)

pub returns-then-eq-clause-parts : goal.returns-then-eq-clause-parts
returns-then-eq-clause-parts c =
    let reads = reads_line c.loop-raw.rest.now c.in-Some.raw.now c.strip_cr.result.now c.in-Some.after.now c.in-Some.ensures c.strip_cr.ensures in
    split_here (length c.args.input.now) _ _ _ _ reads (compared c.strip_cr.result.now c.as_slice.result.now (codes "%%") true c.if-eq.ensures c.as_slice.ensures) c.loop-raw.invariant.1 c.loop-raw.invariant.0

pub loop-raw-preserved : goal.loop-raw-preserved
loop-raw-preserved c =
    let reads = reads_line c.loop-raw.rest.now c.in-Some.raw.now c.strip_cr.result.now c.in-Some.after.now c.in-Some.ensures c.strip_cr.ensures in (
      split_later (length c.args.input.now) _ _ _ _ reads (compared c.strip_cr.result.now c.as_slice.result.now (codes "%%") false c.if-eq.ensures c.as_slice.ensures) c.loop-raw.invariant.1 c.loop-raw.invariant.0,
      omega (arith, c.in-Some.ensures.shorter, c.loop-raw.invariant.1),
    )

pub returns-clause-parts : goal.returns-clause-parts
returns-clause-parts c = not_split (length c.args.input.now) c.loop-raw.rest.now _ c.in_default.ensures c.loop-raw.invariant.0
