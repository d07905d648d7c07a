use Rattle.pct_names.proofs.Names.{◌-◌, handlers_among, range_with_len, slice_get, ◌≡◌}
use Rattle.pct_ending_calls.proofs.fork_calls.oldest_from.Given as goal

-- the handlers that were passed over are absent
abbrev pub invariant-loop-index : goal.invariant-loop-index
invariant-loop-index l = slice_get (handlers_among l.at.phase l.registered (range_with_len l.index (l.at.length - l.index))) 0 ≡ slice_get (handlers_among l.at.phase l.registered (range_with_len l.at.next (l.at.length - l.at.next))) 0
