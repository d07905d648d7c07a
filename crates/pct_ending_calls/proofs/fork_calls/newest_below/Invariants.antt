use Rattle.pct_names.proofs.Names.{handlers_among, Prepare, range_with_len, reverse, slice_get, ◌≡◌}
use Rattle.pct_ending_calls.proofs.fork_calls.newest_below.Given as goal

-- the handlers that were passed over are absent
abbrev pub invariant-loop-index : goal.invariant-loop-index
invariant-loop-index l = slice_get (handlers_among Prepare l.registered (reverse (range_with_len 0 l.index))) 0 ≡ slice_get (handlers_among Prepare l.registered (reverse (range_with_len 0 l.end))) 0
