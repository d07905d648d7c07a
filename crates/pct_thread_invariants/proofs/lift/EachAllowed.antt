-- Tests of each event against those before it.
use Rattle.pct_names.proofs.Names.{◌&&◌, ◌++◌, [], and_from, and_parts, ap, Bool, Entry, Event, event_of, List, map, refl, true, What, ℕ}
use Rattle.pct_names.proofs.Names.{◌∙◌, ◌∷◌, ◌≡◌}
use Rattle.std.proofs.Common.{eq-eqb}
use Rattle.pct_laws.specs.Each.{each}
use Rattle.pct_thread_invariants.proofs.lift.ReportedBy.{reported_by, ThreadReading, of_thread, own_after, after_all, read_step}

-- events that pass two tests
pub each_both : (a b : Event → List Event → Bool) (events : List Event) → each a events ≡ true → each b events ≡ true → each (λ e earlier. a e earlier && b e earlier) events ≡ true
each_both a b [] first second = refl
each_both a b (e ∷ earlier) first second =
    let p = and_parts (a e earlier) (each a earlier) first in
    let q = and_parts (b e earlier) (each b earlier) second in
    and_from _ _ (and_from _ _ p.0 q.0) (each_both a b earlier p.1 q.1)

-- ---- laws by a reading of the thread of the event

module _ {T : Type 0} (g : ThreadReading T) (may : What → T → Bool) where
  -- each of some events of a thread, newest first, may come after those before it
  abbrev pub all_may : List What → T → Bool
  all_may [] k = true
  all_may (w ∷ added) k = may w (after_all g added k) && all_may added k

  -- the law after such events of an entry
  pub each_later : (told : ℕ → ℕ → List Event → T) → ((tid pid : ℕ) (events : List Event) → told pid tid events ≡ reported_by (of_thread g tid) pid events) → (e : Entry) (earlier : List Event) (added : List What)
      → all_may added (reported_by (of_thread g e.tid) e.pid earlier) ≡ true → each (λ x before. may x.what (told x.pid x.tid before)) earlier ≡ true → each (λ x before. may x.what (told x.pid x.tid before)) (map (event_of e) added ++ earlier) ≡ true
  each_later told reads e earlier [] may_all law = law
  each_later told reads e earlier (w ∷ added) may_all law =
      let k : T = reported_by (of_thread g e.tid) e.pid earlier in
      let parts = and_parts (may w (after_all g added k)) (all_may added k) may_all in
      let same : told e.pid e.tid (map (event_of e) added ++ earlier) ≡ after_all g added k = reads e.tid e.pid (map (event_of e) added ++ earlier) ∙ own_after (of_thread g e.tid) e earlier added ∙ read_step g e e.tid true (eq-eqb e.tid e.tid refl) added k in
      and_from _ _ (ap (may w) same ∙ parts.0) (each_later told reads e earlier added parts.1 law)
