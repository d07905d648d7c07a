-- The threads of several processes that are ready: the verdict, and the choice of the scheduler.
use Rattle.pct_names.proofs.Names.{add-one, eqb-false, filter, slice_get_past, subst, Thread}
use Rattle.std.proofs.lemmas.Bool.{eqb-true}
use Rattle.pct_names.proofs.Names.{◌%◌, ◌+◌, ◌++◌, ◌-◌, [], Alt, ap, arith, Bool, Candidate, cond, Config, Entry, entry_for, false, Family}
use Rattle.pct_names.proofs.Names.{flat_map, has_timeouts, IfSome, is_some, item_at, length, length-map, List, list_all, list_any, map}
use Rattle.pct_names.proofs.Names.{nat_eq, None, none-some, not, Option, option_and_then, option_map, refl, same_Some, Script, slice_get}
use Rattle.pct_names.proofs.Names.{slice_get-map, Some, suc, sym, true, Verdict, Why, ◌||◌, ℕ, ◌∙◌, ◌∷◌, ◌≡◌, ◌≤◌}
use Rattle.std.proofs.Math.Nat.{zero-add}
use Rattle.pct_model.specs.declared.stop.Verdict.TheVariants as verdict
use Rattle.pct_engine_laws.specs.Seen.{SeenProcess, Seen, threads_on, family_in}
use Rattle.pct_engine_laws.specs.SeenSteps.{is_ready_in, ready_in, candidate_in, has_ready_in, seen_candidates, seen_chosen, seen_transition, seen_verdict, seen_verdict_by}
use Rattle.pct_process.specs.ProcessViews.{thread_on_slot}
use Rattle.pct_place.proofs.ReadySlots.{as_many, ready_at}
use Rattle.pct_machine.specs.declared.scheduler.Pick.{Pick}
use Rattle.pct_machine.specs.declared.scheduler.Pick.TheVariants as pick
use Rattle.pct_machine.specs.declared.scheduler.Seat.{Seat}
use Rattle.pct_machine.specs.ProcessSteps.{AllCanStep}
use Rattle.pct_machine.specs.MachineSteps.{legal_transition}
use Rattle.pct_machine.specs.Candidates.{Picked, Here, Before, candidates_of, candidates_among, candidate_on, pick_after, picked, IfHere, IsSeat}
use Rattle.pct_machine.proofs.LegalEntries.{admitted}
use Rattle.pct_machine.proofs.Picks.{among, none_here, one_before}

-- ---- one process

module _ (script : Script) (timeouts : Bool) (family : Family) (p : SeenProcess) (set : List ℕ) (are : map (thread_on_slot p.slots) set ≡ map (λ t. Some t) (ready_in script timeouts (length p.slots) family p)) where
  -- it has as many candidates as slots whose threads are ready
  pub count_is : length set ≡ length (candidates_of script timeouts family p)
  count_is = as_many p.slots set (ready_in script timeouts (length p.slots) family p) are ∙ sym (length-map (ready_in script timeouts (length p.slots) family p) (candidate_in script timeouts (length p.slots) family p))

  -- the candidate at an index
  pub candidate_at : (j : ℕ) (slot : Option ℕ) → slot ≡ slice_get set j → slice_get (candidates_of script timeouts family p) j ≡ option_map (candidate_in script timeouts (length p.slots) family p) (option_and_then (thread_on_slot p.slots) slot)
  candidate_at j slot at =
      slice_get-map (candidate_in script timeouts (length p.slots) family p) (ready_in script timeouts (length p.slots) family p) j
      ∙ ap (option_map (candidate_in script timeouts (length p.slots) family p)) (sym (ready_at p.slots set (ready_in script timeouts (length p.slots) family p) are j slot at).0)

  -- a thread holds its slot
  pub slot_held : (j slot : ℕ) → Some slot ≡ slice_get set j → is_some (thread_on_slot p.slots slot) ≡ true
  slot_held j slot at = (ready_at p.slots set (ready_in script timeouts (length p.slots) family p) are j (Some slot) at).1

  -- and the process has not ended
  pub has_not_ended : (j slot : ℕ) → Some slot ≡ slice_get set j → is_some p.ended ≡ false
  has_not_ended j slot at = by (is_some p.ended) refl where
    by : (b : Bool) → is_some p.ended ≡ b → b ≡ false
    by false is = refl
    by true is =
        let none : length set ≡ 0 = as_many p.slots set (ready_in script timeouts (length p.slots) family p) are ∙ ap (λ (b : Bool). length (cond b [] (filter (is_ready_in script timeouts (length p.slots) family p) (threads_on p.slots)))) is in
        absurd (none-some slot (sym (slice_get_past set j (omega (arith, none))) ∙ sym at))

-- ---- without processes

-- what a number chooses, where there is no process
module _ (before number : ℕ) (p : Pick) (is : p ≡ cond (nat_eq before 0) pick.Nobody (pick.Before (number % before))) where
  pub picked_before : (script : Script) (timeouts : Bool) (seen_by : ℕ → Family) (ps : List SeenProcess) → picked script timeouts seen_by ps p ≡ pick_after before number []
  picked_before script timeouts seen_by ps = ap (picked script timeouts seen_by ps) is ∙ by (nat_eq before 0) refl where
    by : (b : Bool) → nat_eq before 0 ≡ b → picked script timeouts seen_by ps (cond b pick.Nobody (pick.Before (number % before))) ≡ pick_after before number []
    by true none = none_here before number (eqb-true before 0 none)
    by false some = one_before before number (omega (arith, eqb-false before 0 some))

  -- it is no seat
  pub seated_before : (P : Seat → Type 0) → IfHere p P
  seated_before P = subst (λ (q : Pick). IfHere q P) (sym is) (by (nat_eq before 0)) where
    by : (b : Bool) → IfHere (cond b pick.Nobody (pick.Before (number % before))) P
    by true = tt
    by false = tt

-- ---- seats

-- the thread on a seat, as a candidate
pub candidate_is : (script : Script) (timeouts : Bool) (seen_by : ℕ → Family) (ps : List SeenProcess) (seat : Seat) (p : SeenProcess) (t : Thread) → slice_get ps seat.place ≡ Some p → thread_on_slot p.slots seat.slot ≡ Some t
    → candidate_on script timeouts seen_by ps seat ≡ Some (candidate_in script timeouts (length p.slots) (seen_by p.pid) p t)
candidate_is script timeouts seen_by ps seat p t here on =
    ap (option_and_then (λ q. option_map (candidate_in script timeouts (length q.slots) (seen_by q.pid) q) (thread_on_slot q.slots seat.slot))) here
    ∙ ap (option_map (candidate_in script timeouts (length p.slots) (seen_by p.pid) p)) on

-- the same of the processes after the first one
pub later_seat : (script : Script) (timeouts : Bool) (seen_by : ℕ → Family) (p : SeenProcess) (ps : List SeenProcess) (place slot : ℕ)
    → candidate_on script timeouts seen_by ps (record { place = place; slot = slot }) ≡ candidate_on script timeouts seen_by (p ∷ ps) (record { place = place + 1; slot = slot })
later_seat script timeouts seen_by p ps place slot = ap (λ (n : ℕ). candidate_on script timeouts seen_by (p ∷ ps) (record { place = n; slot = slot })) (sym (add-one place))

-- a seat among them
pub is_later_seat : (p : SeenProcess) (ps : List SeenProcess) (place slot : ℕ) → IsSeat ps (record { place = place; slot = slot }) → IsSeat (p ∷ ps) (record { place = place + 1; slot = slot })
is_later_seat p ps place slot seat = record { process = seat.process; here = ap (slice_get (p ∷ ps)) (add-one place) ∙ seat.here; live = seat.live; held = seat.held }

-- ---- their slots

abbrev pub AllSized : ℕ → List SeenProcess → Type 0
AllSized n ps = (i : ℕ) (p : SeenProcess) → slice_get ps i ≡ Some p → length p.slots ≡ n

module _ (script : Script) (timeouts : Bool) (n : ℕ) (seen_by : ℕ → Family) where
  any_sized : (ps : List SeenProcess) → AllSized n ps → list_any (λ p. has_ready_in script timeouts (length p.slots) (seen_by p.pid) p) ps ≡ list_any (λ p. has_ready_in script timeouts n (seen_by p.pid) p) ps
  any_sized [] sized = refl
  any_sized (p ∷ ps) sized =
      ap (λ k. has_ready_in script timeouts k (seen_by p.pid) p || list_any (λ q. has_ready_in script timeouts (length q.slots) (seen_by q.pid) q) ps) (sized 0 p refl)
      ∙ ap (λ b. has_ready_in script timeouts n (seen_by p.pid) p || b) (any_sized ps (λ i q at. sized (suc i) q at))

  among_sized : (ps : List SeenProcess) → AllSized n ps → candidates_among script timeouts seen_by ps ≡ flat_map (λ p. map (candidate_in script timeouts n (seen_by p.pid) p) (ready_in script timeouts n (seen_by p.pid) p)) ps
  among_sized [] sized = refl
  among_sized (p ∷ ps) sized =
      ap (λ k. map (candidate_in script timeouts k (seen_by p.pid) p) (ready_in script timeouts k (seen_by p.pid) p) ++ candidates_among script timeouts seen_by ps) (sized 0 p refl)
      ∙ ap (λ cs. map (candidate_in script timeouts n (seen_by p.pid) p) (ready_in script timeouts n (seen_by p.pid) p) ++ cs) (among_sized ps (λ i q at. sized (suc i) q at))

-- ---- the verdict

-- the verdict by the stop, by whether all processes have ended, by whether a thread is ready, and by whether the budget is used up
abbrev pub verdict_of : Option Why → Bool → Bool → Bool → Verdict
verdict_of (Some why) ended ready full = verdict.Undefined why
verdict_of None ended ready full = cond ended verdict.Complete (cond (not ready) verdict.Deadlock (cond full verdict.Budget verdict.Open))

module _ (script : Script) (config : Config) (v : Seen) (n : ℕ) (can : AllCanStep config.slots v.processes v.made) where
  by_stop : (o : Option Why) → verdict_of o (list_all (λ p. is_some p.ended) v.processes) (list_any (λ p. has_ready_in script (has_timeouts config.format) config.slots (family_in v p.pid) p) v.processes) (nat_eq n config.budget) ≡ seen_verdict_by o script config v n
  by_stop None = refl
  by_stop (Some why) = refl

  pub verdict_is : (o : Option Why) (ended ready full : Bool) → o ≡ v.stop → ended ≡ list_all (λ p. is_some p.ended) v.processes → ready ≡ list_any (λ p. has_ready_in script (has_timeouts config.format) (length p.slots) (family_in v p.pid) p) v.processes → full ≡ nat_eq n config.budget
      → verdict_of o ended ready full ≡ seen_verdict script config v n
  unfolding seen_verdict
  verdict_is o ended ready full at_stop at_end at_ready at_count =
      (λ i. verdict_of (at_stop i) (at_end i) ((at_ready ∙ any_sized script (has_timeouts config.format) config.slots (family_in v) v.processes (λ j p at. (can.each j p at).all)) i) (at_count i))
      ∙ by_stop v.stop

-- ---- the choice

sub_zero : (n : ℕ) → n - 0 ≡ n
sub_zero n = omega (arith)

entry_worker : (worker b : ℕ) (o : Option Candidate) (e : Entry) → option_and_then (entry_for worker b) o ≡ Some e → e.worker ≡ worker
entry_worker worker b None e is = absurd (none-some e is)
entry_worker worker b (Some c) e is = by_choice (item_at c.choices b) is where
  by_choice : (o : Option Alt) → option_map (λ choice. record { worker = worker; pid = c.pid; tid = c.tid; alt = choice }) o ≡ Some e → e.worker ≡ worker
  by_choice None is = absurd (none-some e is)
  by_choice (Some choice) is = sym (ap (λ (x : Entry). x.worker) (same_Some (record { worker = worker; pid = c.pid; tid = c.tid; alt = choice }) e is))

module _ (script : Script) (config : Config) (v : Seen) (number : ℕ) (can : AllCanStep config.slots v.processes v.made) (running : is_some v.stop ≡ false) where
  abbrev all : List Candidate
  all = candidates_among script (has_timeouts config.format) (family_in v) v.processes

  whole : (answer : Picked) → answer ≡ pick_after 0 number all → answer ≡ Here (item_at all number)
  unfolding pick_after
  whole answer is =
      is
      ∙ among 0 (number % (0 + length all)) all (omega (arith))
      ∙ ap (λ (k : ℕ). Here (slice_get all k)) (sub_zero (number % (0 + length all)))
      ∙ ap (λ (n : ℕ). Here (slice_get all (number % n))) (zero-add (length all))

  -- the entry that is chosen
  pub chosen_among : (worker choice : ℕ) → option_and_then (entry_for worker choice) (item_at all number) ≡ seen_chosen script config v worker number choice
  unfolding seen_candidates
  chosen_among worker choice =
      ap (λ (cs : List Candidate). option_and_then (entry_for worker choice) (item_at cs number)) (among_sized script (has_timeouts config.format) config.slots (family_in v) v.processes (λ i p at. (can.each i p at).all))
      ∙ sym (ap (λ b. cond (not b) (option_and_then (entry_for worker choice) (item_at (seen_candidates script config v) number)) None) running)

  pub chosen_is : (c : Option Candidate) (worker choice : ℕ) → Here c ≡ pick_after 0 number all → option_and_then (entry_for worker choice) c ≡ seen_chosen script config v worker number choice
  chosen_is c worker choice is =
      let same : c ≡ item_at all number = cc (whole (Here c) is) in
      ap (option_and_then (entry_for worker choice)) same ∙ chosen_among worker choice

  -- it is one of the candidates
  pub never_before : (i : ℕ) → Before i ≡ pick_after 0 number all → ⊥
  never_before i is = cc (whole (Before i) is)

-- the entry of a candidate is legal for a worker within the limit, if its process takes it
pub chosen_is_legal : (script : Script) (config : Config) (v : Seen) (worker choice : ℕ) → is_some v.stop ≡ false → worker ≤ 16 → (c : Option Candidate) (entry : Option Entry) → entry ≡ option_and_then (entry_for worker choice) c
    → IfSome entry (λ e. is_some (seen_transition script config v e) ≡ true) → IfSome entry (λ e. is_some (legal_transition script config v e) ≡ true)
chosen_is_legal script config v worker choice running small c None is taken = tt
chosen_is_legal script config v worker choice running small c (Some e) is taken =
    let by : e.worker ≡ worker = entry_worker worker choice c e (sym is) in
    ap is_some (admitted script config v e running (omega (arith, by, small))) ∙ taken
