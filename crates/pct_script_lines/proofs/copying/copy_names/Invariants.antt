use Rattle.pct_names.proofs.Names.{take, ◌≡◌}
use Rattle.pct_script_lines.proofs.copying.copy_names.Given as goal

-- the copies so far
abbrev pub invariant-loop-name : goal.invariant-loop-name
invariant-loop-name l = l.copied.items ≡ take l.name-index l.all
