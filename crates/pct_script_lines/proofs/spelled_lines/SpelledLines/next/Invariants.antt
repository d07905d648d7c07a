use Rattle.pct_names.proofs.Names.{◌+◌, length, ◌≡◌, ◌≤◌}
use Rattle.pct_script_lines.specs.SpelledLines.{spelled_from}
use Rattle.pct_script_lines.proofs.spelled_lines.SpelledLines.next.Given as goal

abbrev pub invariant-loop-line : goal.invariant-loop-line
invariant-loop-line l = (l.fn.self ≡ spelled_from l.self-inside.number l.self-inside.rest.now) × (l.self-inside.number + length l.self-inside.rest.now ≤ 16777217)

abbrev pub decreases-loop-line : goal.decreases-loop-line
decreases-loop-line l = length l.self-inside.rest.now
