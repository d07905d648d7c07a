-- The answers for `set`.
use Rattle.std.proofs.Common.{ℕ, ◌-◌, ◌/◌, sym, subst, arith}
use Rattle.pct_versions.specs.Tries.{nodes_of, IsTrie, IsVersionWith}
use Rattle.pct_versions.proofs.TrieLemmas.{half_at, trie_zero, version_zero, HasHalves, halves_even, halves_odd, pushed}
use Rattle.pct_versions.proofs.versions.Versions.+set.Goals.{then-key-eq0, else-key-eq0}
use Rattle.pct_versions.proofs.versions.Versions.+set.Goals as goal

pub returns-then-height-eq0-clause-trie : goal.returns-then-height-eq0-clause-trie
returns-then-height-eq0-clause-trie t c = trie_zero c.args.height _ c.args.value c.if-height-eq0.true

pub returns-then-height-eq0-clause-values : goal.returns-then-height-eq0-clause-values
returns-then-height-eq0-clause-values t c = version_zero c.args.height _ c.args.root c.args.key c.args.value c.if-height-eq0.true c.requires.key

pub set-requires : goal.set-requires
set-requires t c =
    let half = half_at c.args.height (nodes_of c.args.self.now) c.args.root c.args.key c.if-height-eq0.false c.requires.key c.requires.trie in
    (grind (arith, c.decreases, c.if-height-eq0.false), (subst (IsTrie (nodes_of c.args.self.now) (c.args.height - 1)) (sym c.child-half.ensures) half.0, half.1))

halves : (t : ℕ) (c : goal.In_ok-version t) → HasHalves (nodes_of c.args.self.now) c.args.root c.args.key c.in_ok-changed.changed c.if-key-eq0.node
halves t c = elim c.if-key-eq0.branch [
  | then-key-eq0 w ↦ halves_even (nodes_of c.args.self.now) c.args.root c.args.key c.in_ok-changed.changed c.child-other.result c.if-key-eq0.node w.if-key-eq0.true c.child-other.ensures w.node-is
  | else-key-eq0 w ↦ halves_odd (nodes_of c.args.self.now) c.args.root c.args.key c.in_ok-changed.changed c.child-other.result c.if-key-eq0.node w.if-key-eq0.false c.child-other.ensures w.node-is
]

made : (t : ℕ) (c : goal.In_ok-version t) → IsTrie (nodes_of c.push.new.self) c.args.height c.in_ok-version.version
    × IsVersionWith (nodes_of c.args.self.now) (nodes_of c.push.new.self) c.args.height c.args.root c.in_ok-version.version c.args.key c.args.value
made t c =
    pushed c.args.height (nodes_of c.args.self.now) (nodes_of c.set.new.self) _ c.args.root c.in_ok-changed.changed c.args.key c.args.value _ c.if-key-eq0.node c.if-height-eq0.false c.requires.trie
    c.in_ok-changed.ensures.others c.in_ok-changed.ensures.trie
    (subst (λ half. IsVersionWith (nodes_of c.args.self.now) (nodes_of c.set.new.self) (c.args.height - 1) half c.in_ok-changed.changed (c.args.key / 2) c.args.value) c.child-half.ensures c.in_ok-changed.ensures.values)
    (halves t c) c.in_ok-version.ensures.ok c.in_ok-version.ensures.number

pub returns-clause-trie : goal.returns-clause-trie
returns-clause-trie t c = (made t c).0

pub returns-clause-values : goal.returns-clause-values
returns-clause-values t c = (made t c).1
