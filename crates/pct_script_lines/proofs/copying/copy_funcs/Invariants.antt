use Rattle.pct_names.proofs.Names.{take, ◌≡◌}
use Rattle.pct_script_lines.proofs.copying.copy_funcs.Given as goal

-- the copies so far
abbrev pub invariant-loop-func : goal.invariant-loop-func
invariant-loop-func l = l.copied.items ≡ take l.func-index l.all
