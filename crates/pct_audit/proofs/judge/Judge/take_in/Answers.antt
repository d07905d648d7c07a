-- The answer for `take_in`.
use Rattle.std.proofs.Common.{◌≡◌, ℕ, refl, sym, subst, cond, nat_eq, ◌&&◌, ◌∙◌, ap, ◌∷◌}
use Rattle.pct_model.specs.ThreadSlots.{slot_of}
use Rattle.pct_laws.specs.KnownThreads.{makes_process}
use Rattle.pct_laws.specs.MutexOwners.{owner_after, owner_of}
use Rattle.pct_laws.specs.OnceControls.{once_after, once_of}
use Rattle.pct_laws.specs.ThreadSummary.{summary_of}
use Rattle.pct_holders.specs.Holds.{holds}
use Rattle.pct_process_maps.specs.Values.{value_in}
use Rattle.pct_audit.specs.declared.rows.Row.{Row}
use Rattle.pct_audit.specs.Controls.{state_in}
use Rattle.pct_audit.specs.DestroyedKeys.{is_destroyed}
use Rattle.pct_audit.specs.IsRow.{IsRow, IsOwnChange, copied}
use Rattle.pct_audit.specs.Rows.{row_of}
use Rattle.pct_audit.proofs.HoldersTold.{holders_told, live_told}
use Rattle.pct_audit.proofs.MoreEvents.{summary_own, threads_told, destroyed_told}
use Rattle.pct_audit.proofs.ProcessesTold.{processes_told}
use Rattle.pct_audit.proofs.judge.Judge.take_in.Goals as goal

pub returns-clause-told : goal.returns-clause-told
returns-clause-told c = λ events told.
    let e = c.args.event in
    let old = c.args.self.now in
    let second = subst (λ (r : Row). (p t : ℕ) → row_of c.replicate.new.rows p t ≡ cond (nat_eq e.tid t && makes_process p e.what) (copied r (row_of c.mark.new.rows p t)) (row_of c.mark.new.rows p t)) c.at-caller.ensures c.in_ok-replicate.ensures in
    let row = summary_own e events (row_of old.rows) (row_of c.mark.new.rows) (row_of c.replicate.new.rows) c.in_ok-mark.ensures second old.stacks (λ q u. (told.rows q u).summary) in
    let made = subst (λ r. IsOwnChange e.what r c.in_ok-next.next) c.at-row.ensures c.in_ok-next.ensures.marks in
    let threads =
    threads_told e events (row_of old.rows) (row_of c.mark.new.rows) (row_of c.replicate.new.rows) (row_of c.set.new.self) c.in_ok-next.next
    c.in_ok-mark.ensures second c.in_ok-set.ensures made
    old.stacks c.next_row.new.stacks c.in_ok-next.ensures.stacks told.rows
    (c.in_ok-next.ensures.row (summary_of e.pid e.tid events) (subst (λ r. IsRow old.stacks r (summary_of e.pid e.tid events)) (sym c.at-row.ensures) row)) in
    record {
      rows = threads;
      destroyed = λ p t q k. c.in_ok-add.ensures p t q k ∙ destroyed_told e events p t q k (is_destroyed old.destroyed p t q k) (told.destroyed p t q k);
      owners = processes_told e (λ k owner. owner_after k e.tid e.what owner) (λ q k. owner_of q k events) (value_in old.owners) (value_in c.fork_owners.new.owners) (value_in c.change_owners.new.owners)
          told.owners c.in_ok-fork_owners.ensures c.in_ok-change_owners.ensures;
      controls = processes_told e (λ k state. once_after k e.tid e.what state) (λ q k. once_of q k events) (state_in old.controls) (state_in c.fork.new.self) (state_in c.change.new.self)
          told.controls c.in_ok-fork.ensures c.in_ok-change.ensures;
      last = refl;
      some_slots = told.some_slots;
      holders = λ p s t.
          holders_told e (row_of old.rows) (row_of c.mark.new.rows) (row_of c.replicate.new.rows) (row_of c.set.new.self) c.in_ok-next.next c.in_ok-mark.ensures second c.in_ok-set.ensures made
          old.slots (holds old.holders) (holds c.refresh_own.new.holders) (holds c.refresh_named.new.holders) (holds c.refresh_replica.new.holders)
          (λ q r u. told.holders q r u ∙ ap (λ b. b && nat_eq (slot_of old.slots u) r) (sym (live_told old.stacks (row_of old.rows q u) q u events (told.rows q u))))
          c.in_ok-refresh_own.ensures c.in_ok-refresh_named.ensures c.in_ok-refresh_replica.ensures p s t
          ∙ ap (λ b. b && nat_eq (slot_of old.slots t) s) (live_told c.next_row.new.stacks (row_of c.set.new.self p t) p t (e ∷ events) (threads p t));
    }
