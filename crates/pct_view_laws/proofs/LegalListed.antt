-- The entries that are listed of a state are the legal ones with worker 1.
use Rattle.pct_names.proofs.Names.{[], Alt, and_parts, ap, arith, body_at, choices_of, Config, Contains, Contains-from_any, Entry}
use Rattle.pct_names.proofs.Names.{environment_of, false≢true, find, has_ended, has_valid_id, holds_slot, if◌then◌else◌, is_live_process}
use Rattle.pct_names.proofs.Names.{is_none, Legal, List, list_any_at, map, nat_eq, next_of, None, not, offers, Option, Process, refl}
use Rattle.pct_names.proofs.Names.{same_choice, Script, Some, subst, sym, Thread, true, Why, with_id, World, ℕ, ◌∙◌, ◌≡◌}
use Rattle.std.proofs.Common.{eqb-true, eq-eqb}
use Rattle.pct_model.specs.declared.schedule.Alt.TheVariants as alt
use Rattle.pct_view_laws.specs.Listed.{ListedThread, ListsLegalEntries, entries_of, entry_by, listed_entries, listed_of, listed_threads}
use Rattle.pct_transition_cases.proofs.OfferedChoices.{offered_alive, offered_of}
use Rattle.pct_thread_invariants.proofs.lift.KeyedLists.{found_passes}
use Rattle.pct_thread_invariants.proofs.lift.ProcessIds.{HavePids, have_pids}
use Rattle.pct_view_laws.proofs.ContainedItems.{joined_contained, joined_was, mapped_contained, mapped_was}
use Rattle.pct_view_laws.proofs.ListedThreads.{IsListed, is_listed, listed_was}

-- ---- choices

-- a choice compares as the same as itself, and choices that compare as the same are equal
same_choice-self : (c : Alt) → same_choice c c ≡ true
same_choice-self alt.Go = refl
same_choice-self (alt.Act n) = eq-eqb n n refl
same_choice-self (alt.New n) = eq-eqb n n refl
same_choice-self (alt.Pick n) = eq-eqb n n refl
same_choice-self (alt.Dtor n) = eq-eqb n n refl
same_choice-self alt.Expire = refl

same_choice-is : (a b : Alt) → same_choice a b ≡ true → a ≡ b
same_choice-is alt.Go alt.Go same = refl
same_choice-is (alt.Act n) (alt.Act m) same = ap (λ (k : ℕ). alt.Act k) (eqb-true n m same)
same_choice-is (alt.New n) (alt.New m) same = ap (λ (k : ℕ). alt.New k) (eqb-true n m same)
same_choice-is (alt.Pick n) (alt.Pick m) same = ap (λ (k : ℕ). alt.Pick k) (eqb-true n m same)
same_choice-is (alt.Dtor n) (alt.Dtor m) same = ap (λ (k : ℕ). alt.Dtor k) (eqb-true n m same)
same_choice-is alt.Expire alt.Expire same = refl
same_choice-is _ _ same = absurd (false≢true same)

-- a choice of a list is offered, and one that is offered is of the list
contained_offered : (choices : List Alt) (c : Alt) → Contains choices c → offers choices c ≡ true
contained_offered choices c among = list_any_at (same_choice c) choices among.0 c among.1 (ap (same_choice c) among.2 ∙ same_choice-self c)

offered_contained : (choices : List Alt) (c : Alt) → offers choices c ≡ true → Contains choices c
offered_contained choices c offered = Contains-from_any same_choice-is c choices offered

-- ---- entries

-- where entries are listed, the run was not stopped
entries_were : (stop : Option Why) (entries : List Entry) (e : Entry) → Contains (if is_none stop then entries else []) e → (stop ≡ None) × Contains entries e
entries_were None entries e among = (refl, among)
entries_were (Some why) entries e among = absurd (omega (arith, among.1))

module _ (script : Script) (config : Config) (w : World) (pids : HavePids config.slots w) (e : Entry) where
  -- a listed entry is a legal one with worker 1
  listed_legal : Contains (listed_entries script config w) e → (e.worker ≡ 1) × Legal script config w e
  unfolding entries_of
  listed_legal among =
      let of_thread = joined_was (entries_of w) (listed_threads script config w) e among in
      let l : ListedThread = of_thread.0 in
      let listed : IsListed script config w l = listed_was script config w pids l of_thread.1 in
      let by_choice : (w.stop ≡ None) × Contains (map (entry_by l) l.choices) e = entries_were w.stop (map (entry_by l) l.choices) e of_thread.2 in
      let its = mapped_was (entry_by l) l.choices e by_choice.1 in
      let offered : offers (choices_of script config w listed.process listed.thread) its.0 ≡ true = contained_offered (choices_of script config w listed.process listed.thread) its.0 (subst (λ (x : ListedThread). Contains x.choices its.0) (sym listed.same) its.1) in
      let legal : Legal script config w (entry_by (listed_of script config w listed.process listed.thread) its.0) =
      record { process = listed.process; thread = listed.thread; running = by_choice.0; worker = omega arith; live = listed.live; holds = listed.holds; offered = offered } in
      subst (λ (x : Entry). (x.worker ≡ 1) × Legal script config w x) (ap (λ (x : ListedThread). entry_by x its.0) listed.same ∙ its.2) (refl, legal)

  -- a legal entry with worker 1 is listed
  legal_listed : (e.worker ≡ 1) × Legal script config w e → Contains (listed_entries script config w) e
  unfolding entries_of
  legal_listed (first, legal) =
      let p : Process = legal.process in
      let t : Thread = legal.thread in
      let l : ListedThread = listed_of script config w p t in
      let live : (nat_eq p.pid e.pid ≡ true) × (not (has_ended p) ≡ true) = and_parts (nat_eq p.pid e.pid) (not (has_ended p)) (found_passes (is_live_process e.pid) w.processes p legal.live) in
      let holds : (nat_eq t.id e.tid ≡ true) × (holds_slot t ≡ true) = and_parts (nat_eq t.id e.tid) (holds_slot t) (found_passes (has_valid_id e.tid) p.threads t legal.holds) in
      let pid : p.pid ≡ e.pid = eqb-true p.pid e.pid live.0 in
      let tid : t.id ≡ e.tid = eqb-true t.id e.tid holds.0 in
      let listed : IsListed script config w l = record {
        process = p;
        thread = t;
        same = refl;
        live = subst (λ (n : ℕ). find (is_live_process n) w.processes ≡ Some p) (sym pid) legal.live;
        holds = subst (λ (n : ℕ). with_id n p.threads ≡ Some t) (sym tid) legal.holds;
        unended = offered_alive (offered_of (body_at script t.frames) p.shared t (environment_of config w p t.id) e.alt (next_of script t.frames) t.status legal.offered);
      } in
      let same : entry_by l e.alt ≡ e = λ i. record { worker = sym first i; pid = pid i; tid = tid i; alt = e.alt } in
      joined_contained (entries_of w) (listed_threads script config w) l e (is_listed script config w l pids.some listed)
      (subst (λ (stop : Option Why). Contains (if is_none stop then map (entry_by l) l.choices else []) e) (sym legal.running)
      (subst (Contains (map (entry_by l) l.choices)) same (mapped_contained (entry_by l) l.choices e.alt (offered_contained l.choices e.alt legal.offered))))

-- so it is after every run
pub legal_entries_listed : ListsLegalEntries
legal_entries_listed script config entries after is e =
    let pids : HavePids config.slots after.world = have_pids script config entries after is in
    (listed_legal script config after.world pids e, legal_listed script config after.world pids e)
