use Rattle.pct_names.proofs.Names.{drop, is_in_handler, ◌≡◌}
use Rattle.pct_transitions.proofs.stop_table.is_in_handler.Given as goal

-- whether one of the frames that are left is that of a handler is whether one of all frames is
abbrev pub invariant-loop-index : goal.invariant-loop-index
invariant-loop-index l = is_in_handler (drop l.index l.frames) ≡ is_in_handler l.frames
