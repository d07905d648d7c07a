use Rattle.pct_names.proofs.Names.{drop, globals_written, ◌≡◌}
use Rattle.pct_model.specs.Actions.{written}
use Rattle.pct_actions.proofs.own_thread.write_globals.Given as goal

abbrev pub invariant-loop-write : goal.invariant-loop-write
invariant-loop-write l = written globals_written (drop l.write-index l.write-items) l.globals ≡ written globals_written l.write-items l.initial.globals
