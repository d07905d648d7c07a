-- The threads that are listed of a state: those that hold a slot and have not ended, of the processes that have not ended.
use Rattle.pct_names.proofs.Names.{◌&&◌, ◌<◌, [], and_from, and_parts, ap, arith, Bool, by_slot, cond, Config, Contains, false, filter}
use Rattle.pct_names.proofs.Names.{find, has_ended, has_valid_id, holds_slot, is_ended_status, is_live_process, is_on, List, map, nat_eq}
use Rattle.pct_names.proofs.Names.{not, not-true, Process, range_with_len, refl, Script, slot_of, Some, subst, sym, Thread, true, with_id}
use Rattle.pct_names.proofs.Names.{World, ℕ, ◌≡◌}
use Rattle.std.proofs.Common.{eq-eqb}
use Rattle.pct_view_laws.specs.Listed.{ListedThread, is_unended, listed_of, listed_threads, unended_of}
use Rattle.pct_engine_laws.proofs.ThreadChanges.{slot_below}
use Rattle.pct_thread_invariants.proofs.lift.KeyedLists.{found_passes}
use Rattle.pct_thread_invariants.proofs.lift.MadeThreads.{process_is_made}
use Rattle.pct_thread_invariants.proofs.lift.ProcessIds.{HavePids, ids_of_made}
use Rattle.pct_thread_invariants.proofs.lift.ThreadIds.{HaveIds}
use Rattle.pct_view_laws.proofs.ContainedItems.{contained_found, found_contained, index_contained, joined_contained, joined_was}
use Rattle.pct_view_laws.proofs.ContainedItems.{mapped_contained, mapped_was, passed_contained, passed_was}

-- a thread of a process, neither of which has ended, that holds its slot
record IsUnended (p : Process) (t : Thread) : Type 0 where
  live : has_ended p ≡ false
  among : Contains p.threads t
  holds : holds_slot t ≡ true
  unended : is_ended_status t.status ≡ false

-- each of the threads of a process that have not ended is such a thread, and each such thread is among them
unended_was : (config : Config) (p : Process) (t : Thread) (ended : Bool) → has_ended p ≡ ended → Contains (cond ended [] (filter is_unended (by_slot config.slots p.threads))) t → IsUnended p t
unended_was config p t true ended among = absurd (omega (arith, among.1))
unended_was config p t false live among =
    let unended = passed_was is_unended (by_slot config.slots p.threads) t among in
    let of_slot = joined_was (λ s. filter (λ u. is_on config.slots s u && holds_slot u) p.threads) (range_with_len 0 config.slots) t unended.0 in
    let placed = passed_was (λ u. is_on config.slots of_slot.0 u && holds_slot u) p.threads t of_slot.2 in
    record {
      live = live;
      among = placed.0;
      holds = (and_parts (is_on config.slots of_slot.0 t) (holds_slot t) placed.1).1;
      unended = not-true (is_ended_status t.status) unended.1;
    }

is_unended_of : (config : Config) (p : Process) (t : Thread) → 0 < config.slots → IsUnended p t → Contains (unended_of config p) t
is_unended_of config p t some unended =
    let s : ℕ = slot_of config.slots t.id in
    let threads : List Thread = by_slot config.slots p.threads in
    let placed : Contains threads t =
    joined_contained (λ s. filter (λ u. is_on config.slots s u && holds_slot u) p.threads) (range_with_len 0 config.slots) s t (index_contained config.slots s (slot_below config.slots t.id some))
    (passed_contained (λ u. is_on config.slots s u && holds_slot u) p.threads t unended.among (and_from (is_on config.slots s t) (holds_slot t) (eq-eqb s s refl) unended.holds)) in
    subst (λ (ended : Bool). Contains (cond ended [] (filter is_unended threads)) t) (sym unended.live)
    (passed_contained is_unended threads t placed (ap not unended.unended))

-- a listed thread is this thread, of this process
pub record IsListed (script : Script) (config : Config) (w : World) (l : ListedThread) : Type 0 where
  pub process : Process
  pub thread : Thread
  pub same : listed_of script config w process thread ≡ l
  -- the process has not ended
  pub live : find (is_live_process process.pid) w.processes ≡ Some process
  -- the thread holds its slot, and has not ended
  pub holds : with_id thread.id process.threads ≡ Some thread
  pub unended : is_ended_status thread.status ≡ false

-- each thread that is listed is such a thread
pub listed_was : (script : Script) (config : Config) (w : World) → HavePids config.slots w → (l : ListedThread) → Contains (listed_threads script config w) l → IsListed script config w l
unfolding listed_threads
listed_was script config w pids l among =
    let of_process = joined_was (λ p. map (listed_of script config w p) (unended_of config p)) w.processes l among in
    let p : Process = of_process.0 in
    let of_thread = mapped_was (listed_of script config w p) (unended_of config p) l of_process.2 in
    let t : Thread = of_thread.0 in
    let unended = unended_was config p t (has_ended p) refl of_thread.1 in
    let live : find (is_live_process p.pid) w.processes ≡ Some p = contained_found (λ (q : Process). q.pid) (λ q. not (has_ended q)) w.processes p pids.distinct of_process.1 (ap not unended.live) in
    let ids : HaveIds config.slots p.threads = ids_of_made config.slots w pids p.pid p (process_is_made p.pid t.id w p pids.distinct live) in
    record {
      process = p;
      thread = t;
      same = of_thread.2;
      live = live;
      holds = contained_found (λ (u : Thread). u.id) holds_slot p.threads t ids.distinct unended.among unended.holds;
      unended = unended.unended;
    }

-- each such thread is listed, if a process has slots
pub is_listed : (script : Script) (config : Config) (w : World) (l : ListedThread) → 0 < config.slots → IsListed script config w l → Contains (listed_threads script config w) l
unfolding listed_threads
is_listed script config w l some listed =
    let p : Process = listed.process in
    let t : Thread = listed.thread in
    let live : (nat_eq p.pid p.pid ≡ true) × (not (has_ended p) ≡ true) = and_parts (nat_eq p.pid p.pid) (not (has_ended p)) (found_passes (is_live_process p.pid) w.processes p listed.live) in
    let holds : (nat_eq t.id t.id ≡ true) × (holds_slot t ≡ true) = and_parts (nat_eq t.id t.id) (holds_slot t) (found_passes (has_valid_id t.id) p.threads t listed.holds) in
    let unended : Contains (unended_of config p) t = is_unended_of config p t some (record { live = not-true (has_ended p) live.1; among = found_contained (has_valid_id t.id) p.threads t listed.holds; holds = holds.1; unended = listed.unended }) in
    subst (Contains (listed_threads script config w)) listed.same
    (joined_contained (λ p. map (listed_of script config w p) (unended_of config p)) w.processes p (listed_of script config w p t) (found_contained (is_live_process p.pid) w.processes p listed.live)
    (mapped_contained (listed_of script config w p) (unended_of config p) t unended))
