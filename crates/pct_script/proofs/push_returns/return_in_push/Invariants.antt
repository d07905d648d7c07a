use Rattle.pct_names.proofs.Names.{[], length, return_in_push, split_sections, ◌≡◌}
use Rattle.pct_script.proofs.push_returns.return_in_push.Given as goal

abbrev pub invariant-loop-body : goal.invariant-loop-body
invariant-loop-body l = record { found : return_in_push l.rest ≡ return_in_push l.lines; prefix : (split_sections l.rest).preamble ≡ [] }

abbrev pub decreases-loop-body : goal.decreases-loop-body
decreases-loop-body l = length l.rest
