-- The answers for `set`.
use Rattle.std.proofs.Common.{ℕ, Option, ap, ◌∙◌, subst}
use Rattle.std.specs.Prelude.{unwrap_or}
use Rattle.pct_versions.specs.Tries.{nodes_of, IsVersionWith}
use Rattle.pct_process_maps.proofs.RootLemmas.{AreRoots-Extends, AreRoots-inserted, value_by-Extends, value_by-unchanged, value_by-set, any_error}
use Rattle.pct_process_maps.proofs.process_maps.ProcessMaps.set.Goals as goal

pub invariant_of-self : goal.invariant_of-self
invariant_of-self c = record { kept = AreRoots-Extends c.args.self.now.versions c.set.new.self c.args.self.now.roots c.set.ensures.others c.args.self.now.kept }

pub returns-in_err-changed-clause-unchanged : goal.returns-in_err-changed-clause-unchanged
returns-in_err-changed-clause-unchanged c = any_error c.from_residual.result (value_by-Extends c.args.self.now.versions c.set.new.self c.args.self.now.roots c.set.ensures.others c.args.self.now.kept)

pub invariant_of-self-2 : goal.invariant_of-self-2
invariant_of-self-2 c = record {
  kept = AreRoots-inserted c.args.self.now.versions c.set.new.self c.args.self.now.roots c.set.ensures.others c.args.self.now.kept
      c.insert.result c.insert.new.self c.args.pid c.in_ok-changed.changed c.insert.ensures.updates c.insert.ensures.err c.in_ok-changed.ensures.trie;
}

pub returns-in_err-insert-clause-unchanged : goal.returns-in_err-insert-clause-unchanged
returns-in_err-insert-clause-unchanged c = any_error c.from_residual-in_err-insert.result
    (value_by-unchanged c.args.self.now.versions c.set.new.self c.args.self.now.roots c.set.ensures.others c.args.self.now.kept c.insert.new.self c.in_err-insert.ensures.err)

pub returns-clause-ok : goal.returns-clause-ok
returns-clause-ok c = value_by-set c.args.self.now.versions c.set.new.self c.args.self.now.roots c.set.ensures.others c.args.self.now.kept
    c.insert.new.self c.args.pid c.in_ok-changed.changed c.args.key c.args.value c.in_ok-insert.ensures.updates
    (subst (λ root. IsVersionWith (nodes_of c.args.self.now.versions) (nodes_of c.set.new.self) 32 root c.in_ok-changed.changed c.args.key c.args.value)
    (c.unwrap_or-root.ensures ∙ ap (λ (found : Option ℕ). unwrap_or found 0) (c.copied.ensures ∙ c.get.ensures.value)) c.in_ok-changed.ensures.values)
