-- The answers for `new`.
use Rattle.pct_process_maps.proofs.RootLemmas.{trie-zero, value_at-zero}
use Rattle.pct_process_maps.proofs.process_maps.ProcessMaps.new.Goals as goal

pub invariant_of-result : goal.invariant_of-result
invariant_of-result c = record { kept = λ pid. rw (c.new.ensures.empty, c.new-2.ensures) (trie-zero 32) }

pub returns : goal.returns
returns c = λ pid key. rw (c.new.ensures.empty, c.new-2.ensures) (value_at-zero 32 key)
