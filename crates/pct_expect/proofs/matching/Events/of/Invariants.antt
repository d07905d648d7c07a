use Rattle.pct_names.proofs.Names.{take, ◌≡◌}
use Rattle.pct_expect.specs.Keys.{keys_in}
use Rattle.pct_expect.proofs.matching.Events.of.Given as goal

-- the events so far have their keys
abbrev pub invariant-loop-span : goal.invariant-loop-span
invariant-loop-span l = l.keys.items ≡ keys_in l.text (take l.span-index l.lines)
