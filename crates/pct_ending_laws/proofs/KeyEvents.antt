-- After every run the keys of a process are those that its events report, and a destructor is called with a value that is not NULL, for a
-- key that was made and not deleted.
use Rattle.pct_names.proofs.Names.{◌&&◌, ◌+◌, ◌++◌, ◌<◌, [], and_from, ap, arith, body_at, Bool, changed, child_of, cond, Config, Entry}
use Rattle.pct_names.proofs.Names.{Environment, environment_of, eqb-false, Event, event_of, false, false≢true, if_number, is_none, is_some}
use Rattle.pct_names.proofs.Names.{Key, key_at, key_place, key_with, KeyPlace, length, List, list_any, map, MAX_KEYS, nat_eq, new_keys}
use Rattle.pct_names.proofs.Names.{next_key, next_of, NextStatement, no_keys, None, none-some, not, Option, option_and_then, option_map_or}
use Rattle.pct_names.proofs.Names.{Process, refl, replicate, reverse, Script, set, shared_after, shared_moved, SharedState, slice_get}
use Rattle.pct_names.proofs.Names.{slice_get-get_or, slice_get_within, Some, Status, Stmt, subst, suc, sym, Thread, Transition}
use Rattle.pct_names.proofs.Names.{transition_by, true, value_at, value_of, What, with_key, without_key, World, zero, ◌||◌, ℕ, ◌∙◌, ◌∷◌}
use Rattle.pct_names.proofs.Names.{◌≡◌, ◌≢◌}
use mathlib.Core.Bool.{or-false}
use Rattle.std.proofs.Common.{eqb-true, ne_eqb}
use Rattle.std.proofs.lemmas.Bool.{true≢false}
use Rattle.pct_laws.specs.Each.{each}
use Rattle.pct_laws.specs.KeysLaw.{allows}
use Rattle.pct_laws.specs.Kept.{EachProcess, KeysKept}
use Rattle.pct_laws.specs.KeyEvents.{key_after, has_key}
use Rattle.pct_transition_cases.proofs.CaseOfTransition.{case_of}
use Rattle.pct_transition_cases.proofs.TransitionCases.{TransitionCase, fork_handler_called, key_made, key_deleted, destructor_called}
use Rattle.pct_thread_invariants.proofs.keys.KeyPlaces.{place_of_next}
use Rattle.pct_thread_invariants.proofs.keys.KeysOfProcesses.{KeysFit, keys_of_run}
use Rattle.pct_thread_invariants.proofs.keys.LeftKeys.{left_has_value}
use Rattle.pct_thread_invariants.proofs.lift.ChangedThreads.{changed_shared, other_shared}
use Rattle.pct_thread_invariants.proofs.lift.EveryProcess.{process_taken, moves_in, AllFit, of_made, IsProcessRule, every_process}
use Rattle.pct_thread_invariants.proofs.lift.HandlerEvents.{of_each_phase}
use Rattle.pct_thread_invariants.proofs.lift.OfferedNumbers.{IsNumberOf, new_key_of, left_key_of}
use Rattle.pct_thread_invariants.proofs.lift.ReportedBy.{Reading, reported_by, is_reading, after_own}
use Rattle.pct_thread_invariants.proofs.lift.TakenSteps.{AfterEveryRun, every_run}
use Rattle.pct_thread_invariants.proofs.lift.ThreadsAfter.{Moves}

-- ---- what is reported

-- whether there is a key with a number: a process begins with the keys of the process that forked
abbrev has : ℕ → Reading Bool
has key = record { start = λ initial. false; next = λ e k. key_after key e.what k; inherits = λ e. true; born = λ parent k. parent }

-- the keys that events report are those of the reading
has_reading : (key pid : ℕ) (events : List Event) → has_key pid key events ≡ reported_by (has key) pid events
has_reading key = is_reading (has key) (λ pid events. has_key pid key events) (λ pid. refl) (λ pid e earlier. refl)

-- the keys of a process are those that are reported
abbrev AreReported : List KeyPlace → (ℕ → Bool) → Type 0
AreReported keys reported = (n : ℕ) → is_some (key_with n keys) ≡ reported n

-- ---- one place

-- the key on a place that changed, and on another one
key_set_same : (keys : List KeyPlace) (i : ℕ) (q : KeyPlace) → i < length keys → key_at (set keys i q) i ≡ q.key
key_set_same [] i q within = absurd (omega (arith, within))
key_set_same (p ∷ keys) zero q within = refl
key_set_same (p ∷ keys) (suc i) q within = key_set_same keys i q (omega (arith, within))

pub key_set_other : (keys : List KeyPlace) (i j : ℕ) (q : KeyPlace) → i ≢ j → key_at (set keys i q) j ≡ key_at keys j
key_set_other [] i j q differs = refl
key_set_other (p ∷ keys) zero zero q differs = absurd (differs refl)
key_set_other (p ∷ keys) zero (suc j) q differs = refl
key_set_other (p ∷ keys) (suc i) zero q differs = refl
key_set_other (p ∷ keys) (suc i) (suc j) q differs = key_set_other keys i j q (λ same. differs (ap suc same))

-- the key on any place, after one place changed
key_set : (keys : List KeyPlace) (i j : ℕ) (q : KeyPlace) → i < length keys → key_at (set keys i q) j ≡ cond (nat_eq i j) q.key (key_at keys j)
key_set keys i j q within = by_place (nat_eq i j) refl
  where
    by_place : (same : Bool) → nat_eq i j ≡ same → key_at (set keys i q) j ≡ cond same q.key (key_at keys j)
    by_place true same = subst (λ (k : ℕ). key_at (set keys i q) k ≡ q.key) (eqb-true i j same) (key_set_same keys i q within)
    by_place false differs = key_set_other keys i j q (eqb-false i j differs)

-- after a key was made on a place
pub key_made_at : (keys : List KeyPlace) (i k : ℕ) (destructor : Option ℕ) (j : ℕ) → i < length keys → key_at (with_key i k destructor keys) j ≡ cond (nat_eq i j) (Some (record { number = k; destructor = destructor })) (key_at keys j)
key_made_at keys i k destructor j within = by_found (slice_get keys i) refl
  where
    by_found : (found : Option KeyPlace) → slice_get keys i ≡ found → key_at (option_map_or (λ p. set keys i (record { made = p.made + 1; key = Some (record { number = k; destructor = destructor }) })) found keys) j ≡ cond (nat_eq i j) (Some (record { number = k; destructor = destructor })) (key_at keys j)
    by_found None is = absurd (none-some _ (sym is ∙ slice_get-get_or keys i (record { made = 0; key = None }) within))
    by_found (Some p) is = key_set keys i j (record { made = p.made + 1; key = Some (record { number = k; destructor = destructor }) }) within

-- after the key on a place was deleted, if there was one
pub key_deleted_at : (keys : List KeyPlace) (i j : ℕ) (key : Key) → key_at keys i ≡ Some key → key_at (without_key i keys) j ≡ cond (nat_eq i j) None (key_at keys j)
key_deleted_at keys i j key at = by_found (slice_get keys i) refl at
  where
    by_found : (found : Option KeyPlace) → slice_get keys i ≡ found → option_and_then (λ (p : KeyPlace). p.key) found ≡ Some key → key_at (option_map_or (λ p. set keys i (record p { key = None })) found keys) j ≡ cond (nat_eq i j) None (key_at keys j)
    by_found None is on = absurd (none-some key on)
    by_found (Some p) is on = key_set keys i j (record p { key = None }) (slice_get_within keys i p is)

-- ---- a new key

module _ (script : Script) (keys : List KeyPlace) (kept : KeysKept script keys) (k : ℕ) (among : list_any (nat_eq k) (new_keys keys) ≡ true) where
  -- the number is that of the next key on a place without a key
  abbrev of : IsNumberOf (next_key keys) (λ place. is_none (key_at keys place)) MAX_KEYS k
  of = new_key_of keys k among

  -- this place is that of the number
  new_place : key_place k ≡ of.item
  new_place = ap key_place of.is ∙ place_of_next of.item (option_map_or (λ p. p.made) (slice_get keys of.item) 0) of.low

  -- no key is on it
  pub new_place_free : is_none (key_at keys (key_place k)) ≡ true
  new_place_free = ap (λ (i : ℕ). is_none (key_at keys i)) new_place ∙ of.passes

  -- it is one of the places
  pub new_place_within : key_place k < length keys
  new_place_within = subst (λ (i : ℕ). i < length keys) (sym new_place) (subst (λ (m : ℕ). of.item < m) (sym kept.places) of.low)

-- ---- one number

-- a key is found by its number
by_number : (n : ℕ) (key : Key) → is_some (if_number n (Some key)) ≡ nat_eq key.number n
by_number n key = by_test (nat_eq key.number n)
  where
    by_test : (same : Bool) → is_some (cond same (Some key) None) ≡ same
    by_test true = refl
    by_test false = refl

-- where a key is found by a number, it is on its place
pub found_on : (n : ℕ) (found : Option Key) → is_none (if_number n found) ≡ false → (key : Key) × (found ≡ Some key) × (key.number ≡ n)
found_on n None some = absurd (true≢false some)
found_on n (Some key) some = by_test (nat_eq key.number n) refl some
  where
    by_test : (same : Bool) → nat_eq key.number n ≡ same → is_none (cond same (Some key) None) ≡ false → (found : Key) × (Some key ≡ Some found) × (found.number ≡ n)
    by_test true same some = (key, refl, eqb-true key.number n same)
    by_test false differs some = absurd (true≢false some)

-- a number, after a key was made on a place where none was
number_made : (k n : ℕ) (destructor : Option ℕ) (found : Option Key) (same : Bool) → (same ≡ true → is_none found ≡ true) → (same ≡ false → nat_eq k n ≡ false)
    → is_some (if_number n (cond same (Some (record { number = k; destructor = destructor })) found)) ≡ (nat_eq k n || is_some (if_number n found))
number_made k n destructor None true none differs = by_number n (record { number = k; destructor = destructor }) ∙ sym (or-false (nat_eq k n))
number_made k n destructor (Some key) true none differs = absurd (false≢true (none refl))
number_made k n destructor found false none differs = ap (λ (b : Bool). b || is_some (if_number n found)) (sym (differs refl))

-- a number, after the key with another one was deleted
number_deleted : (k n : ℕ) (found : Option Key) (same : Bool) → (same ≡ true → (key : Key) × (found ≡ Some key) × (key.number ≡ k)) → (same ≡ false → nat_eq k n ≡ false)
    → is_some (if_number n (cond same None found)) ≡ (not (nat_eq k n) && is_some (if_number n found))
number_deleted k n found true on differs =
    let key = on refl in
    sym (ap (λ (o : Option Key). not (nat_eq k n) && is_some (if_number n o)) key.1 ∙ ap (λ (b : Bool). not (nat_eq k n) && b) (by_number n key.0 ∙ ap (λ (m : ℕ). nat_eq m n) key.2) ∙ not_both (nat_eq k n))
  where
    not_both : (b : Bool) → (not b && b) ≡ false
    not_both true = refl
    not_both false = refl
number_deleted k n found false on differs = ap (λ (b : Bool). not b && is_some (if_number n found)) (sym (differs refl))

-- keys on other places have other numbers
other_number : (k n : ℕ) → nat_eq (key_place k) (key_place n) ≡ false → nat_eq k n ≡ false
other_number k n differs = ne_eqb k n (λ same. eqb-false (key_place k) (key_place n) differs (ap key_place same))

-- ---- the tables

module _ (keys : List KeyPlace) (reported : ℕ → Bool) (fits : AreReported keys reported) where
  -- a key was made, with a number that is offered
  made_reported : (script : Script) → KeysKept script keys → (k : ℕ) (destructor : Option ℕ) → list_any (nat_eq k) (new_keys keys) ≡ true → AreReported (with_key (key_place k) k destructor keys) (λ n. nat_eq k n || reported n)
  unfolding key_with
  made_reported script kept k destructor among n =
      ap (λ (o : Option Key). is_some (if_number n o)) (key_made_at keys (key_place k) k destructor (key_place n) (new_place_within script keys kept k among))
      ∙ number_made k n destructor (key_at keys (key_place n)) (nat_eq (key_place k) (key_place n))
      (λ same. ap (λ (i : ℕ). is_none (key_at keys i)) (sym (eqb-true (key_place k) (key_place n) same)) ∙ new_place_free script keys kept k among) (other_number k n)
      ∙ ap (λ (b : Bool). nat_eq k n || b) (fits n)

  -- a key was deleted
  deleted_reported : (k : ℕ) → is_none (key_with k keys) ≡ false → AreReported (without_key (key_place k) keys) (λ n. not (nat_eq k n) && reported n)
  unfolding key_with
  deleted_reported k some n =
      let on = found_on k (key_at keys (key_place k)) some in
      ap (λ (o : Option Key). is_some (if_number n o)) (key_deleted_at keys (key_place k) (key_place n) on.0 on.1)
      ∙ number_deleted k n (key_at keys (key_place n)) (nat_eq (key_place k) (key_place n)) (λ same. (on.0, ap (key_at keys) (sym (eqb-true (key_place k) (key_place n) same)) ∙ on.1, on.2)) (other_number k n)
      ∙ ap (λ (b : Bool). not (nat_eq k n) && b) (fits n)

module _ (script : Script) (passes : ℕ) (body : List Stmt) (shared : SharedState) (t : Thread) (environment : Environment) (kept : KeysKept script shared.keys) (e : Entry) where
  -- the keys after a transition
  case_reported : (reported : ℕ → Bool) → AreReported shared.keys reported → {next : NextStatement} {s : Status} {o : Transition} → TransitionCase passes body shared t environment true next s o
      → AreReported (shared_moved e.tid o shared).keys (λ n. after_own (has n) (map (event_of e) (reverse o.events)) (reported n))
  unfolding shared_after
  case_reported reported fits (key_made frame result key destructor k among) = made_reported shared.keys reported fits script kept k destructor (among refl)
  case_reported reported fits (key_deleted frame key some) = deleted_reported shared.keys reported fits (value_of shared.globals frame key) some
  case_reported reported fits (fork_handler_called next at call is) = of_each_phase (λ (w : What). AreReported shared.keys (λ n. key_after n w (reported n))) call.func fits fits fits at.phase
  case_reported reported fits _ = fits

  -- the law after the events of a transition
  case_lawful : (earlier : List Event) → AreReported shared.keys (λ n. has_key e.pid n earlier) → {next : NextStatement} {s : Status} {o : Transition} → TransitionCase passes body shared t environment true next s o
      → each allows earlier ≡ true → each allows (map (event_of e) (reverse o.events) ++ earlier) ≡ true
  case_lawful earlier fits (destructor_called next k f key none found named left) law =
      let not_null : nat_eq (value_at (key_place k) t.specific) 0 ≡ false = left_has_value script shared.keys kept t.specific k (left_key_of shared.keys t.specific k (left refl)) in
      and_from _ _ (and_from _ _ (ap not not_null) (sym (fits k) ∙ ap is_some found)) law
  case_lawful earlier fits (fork_handler_called next at call is) law = of_each_phase (λ (w : What). each allows (event_of e w ∷ earlier) ≡ true) call.func law law law at.phase
  case_lawful earlier fits _ law = assumption

-- ---- runs

-- a process without keys
no_key_on : (places place : ℕ) → key_at (replicate places (record { made = 0; key = None })) place ≡ None
no_key_on zero place = refl
no_key_on (suc places) zero = refl
no_key_on (suc places) (suc place) = no_key_on places place

-- no event reports a key of it
none_reported : AreReported no_keys (λ n. false)
unfolding key_with
none_reported n = ap (λ (o : Option Key). is_some (if_number n o)) (no_key_on MAX_KEYS (key_place n))

module _ (script : Script) (config : Config) where
  -- the keys of a process
  abbrev Fit : Process → (ℕ → Bool) → Type 0
  Fit p reported = AreReported p.shared.keys reported

  -- the keys of the process of the entry are kept, and the entry moves its thread
  abbrev MovesIn : World → Process → Entry → Thread → Type 0
  MovesIn w p e t = KeysFit script p × Moves script config w p e t

  module _ (w : World) (p : Process) (e : Entry) (t : Thread) (known : MovesIn w p e t) where
    abbrev o : Transition
    o = transition_by script config w p t e.alt

    abbrev environment : Environment
    environment = environment_of config w p t.id

    -- the case of its transition
    its_case : TransitionCase config.passes (body_at script t.frames) p.shared t environment true (next_of script t.frames) t.status o
    its_case = case_of config.passes (body_at script t.frames) p.shared t environment true e.alt (next_of script t.frames) t.status (λ offered. known.1.offered)

    -- its keys after the transition
    fit_after : (reported : ℕ → Bool) → Fit p reported → Fit (changed e.tid o p) (λ n. after_own (has n) (map (event_of e) (reverse o.events)) (reported n))
    fit_after reported fits =
        subst (λ (s : SharedState). AreReported s.keys (λ n. after_own (has n) (map (event_of e) (reverse o.events)) (reported n))) (sym (changed_shared e.tid o p))
        (case_reported script config.passes (body_at script t.frames) p.shared t environment known.0.keys e reported fits its_case)

    -- the law after the transition
    lawful_after : (earlier : List Event) → Fit p (λ n. has_key e.pid n earlier) → each allows earlier ≡ true → each allows (map (event_of e) (reverse o.events) ++ earlier) ≡ true
    lawful_after earlier fits = case_lawful script config.passes (body_at script t.frames) p.shared t environment known.0.keys e earlier fits its_case

  -- each step keeps it that the keys of a process are those that are reported
  keys_rule : IsProcessRule has Fit script config MovesIn
  unfolding child_of
  keys_rule = record {
    initial = none_reported;
    own = λ w p e t k known fits. fit_after w p e t known k fits;
    born = λ w p e t k new known fork fits. fits;
    other = λ pid o p k fits. subst (λ (s : SharedState). AreReported s.keys k) (sym (other_shared pid o p)) fits;
  }

  -- after every run they are
  keys_fit : AfterEveryRun script config (AllFit has Fit)
  keys_fit = every_process has Fit script config MovesIn keys_rule (moves_in script config (KeysFit script) (keys_of_run script config))

  -- after every run, the keys of each process are those that were made and not deleted
  pub key_events_of_run : AfterEveryRun script config (λ r. EachProcess r.world (λ pid p. (key : ℕ) → is_some (key_with key p.shared.keys) ≡ has_key pid key r.events))
  key_events_of_run entries r is pid p made key = of_made has Fit r (keys_fit entries r is) pid p made key ∙ sym (has_reading key pid r.events)

  -- after every run, each destructor was called with a value that is not NULL, for a key that was made and not deleted
  pub keys_law_of_run : AfterEveryRun script config (λ r. each allows r.events ≡ true)
  keys_law_of_run = every_run script config (λ r. each allows r.events ≡ true) (λ before r is e p t taken.
      lawful_after r.world p e t (moves_in script config (KeysFit script) (keys_of_run script config) before r is e p t taken) r.events (key_events_of_run before r is e.pid p (process_taken script config before r is e p t taken))) (λ some. refl)
