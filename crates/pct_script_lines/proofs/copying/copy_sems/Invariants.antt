use Rattle.pct_names.proofs.Names.{take, ◌≡◌}
use Rattle.pct_script_lines.proofs.copying.copy_sems.Given as goal

-- the copies so far
abbrev pub invariant-loop-sem : goal.invariant-loop-sem
invariant-loop-sem l = l.copied.items ≡ take l.sem-index l.all
