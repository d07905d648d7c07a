use Rattle.pct_names.proofs.Names.{◌-◌, length, lines_of, marker_in, replay_parts, split_at_marker, ◌≡◌, ◌≤◌}
use Rattle.pct_schedule_reader.proofs.splitter.split_replay.Given as goal

abbrev pub invariant-loop-raw : goal.invariant-loop-raw
invariant-loop-raw l =
    (replay_parts l.input ≡ split_at_marker (length l.input) (marker_in (length l.input - length l.rest) (lines_of l.rest))) × (length l.rest ≤ length l.input)

abbrev pub decreases-loop-raw : goal.decreases-loop-raw
decreases-loop-raw l = length l.rest
