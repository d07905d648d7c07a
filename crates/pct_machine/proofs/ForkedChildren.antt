-- The change of the list of processes that a transition makes can be made: a child has the next id, there is room for it, and the thread
-- that forks holds its slot.
use Rattle.pct_names.proofs.Names.{◌&&◌, ◌<◌, [], acts, and_parts, ap, body_at, Bool, cond, cond_some, Config, Entry, Environment, false}
use Rattle.pct_names.proofs.Names.{Family, family_among, find, has_timeouts, has_valid_id, holds_slot, IfSome, is_ended_status, length}
use Rattle.pct_names.proofs.Names.{length-map, List, map, moved, named_after, nat_eq, nat_lt, next_of, NextStatement, None, not, offers}
use Rattle.pct_names.proofs.Names.{Option, option_and_then, option_and_then_some, option_map, own_after, Parent, pid_after, position}
use Rattle.pct_names.proofs.Names.{ProcessAction, refl, Relative, Script, SharedState, slice_get, slice_get-map, slot_of, Some, Status}
use Rattle.pct_names.proofs.Names.{Stmt, subst, suc, sym, Thread, thread_at, thread_moved, Transition, true, ◌||◌, ℕ, ◌∙◌, ◌∷◌, ◌≡◌}
use Rattle.std.proofs.lemmas.Bool.{ltb-true}
use Rattle.pct_model.specs.declared.event.What.TheVariants as what
use Rattle.pct_model.specs.declared.state.Status.TheVariants as status
use Rattle.pct_model.specs.declared.transition.OwnAction.TheVariants as own_action
use Rattle.pct_model.specs.declared.transition.ProcessAction.TheVariants as process_action
use Rattle.pct_transition_cases.proofs.CaseOfTransition.{case_of}
use Rattle.pct_transition_cases.proofs.TransitionCases.{TransitionCase, process_forked}
use Rattle.pct_engine_laws.specs.Seen.{SeenSlot, SeenProcess, relative_in, slot_after, slots_moved, process_seen, is_live_seen}
use Rattle.pct_engine_laws.specs.SeenSteps.{thread_on, thread_with, environment_in, choices_in, transition_in, if_offered_in}
use Rattle.pct_engine_laws.proofs.ListFacts.{find_agree, find-map, then-map}
use Rattle.pct_engine_laws.proofs.ProcessNumbers.{new_pid_is_next}
use Rattle.pct_engine_laws.proofs.ThreadChanges.{transition_keeps}
use Rattle.pct_actions.specs.ProcessParts.{on_threads}
use Rattle.pct_actions.proofs.ChangedSlots.{on_slots_kept, none_leaves}
use Rattle.pct_place.specs.ProcessSteps.{CanStep, HasThread, taken_in}
use Rattle.pct_machine.specs.Places.{ProcessList, families}
use Rattle.pct_machine.specs.ProcessSteps.{AllCanStep}
use Rattle.pct_machine.specs.ListChanges.{taken_among, list_moved, process_moved, ChangeFits, ChildFits}
use Rattle.pct_machine.proofs.LegalEntries.{found_at, test_passes}

-- the transition that makes a child with an id, by a fork with this number of fork handlers
abbrev fork_of : ℕ → ℕ → Transition
fork_of count child = record (acts (what.Forked child ∷ [])) { own = Some (own_action.SetStatus (status.Forking (record { phase = Parent; next = 0; length = count; answer = child }))); process = Some (process_action.Make child) }

-- a transition that makes a child is that of fork, and the child has the id of a new process
abbrev MakesBy : Family → Transition → Option ProcessAction → Type 0
MakesBy family o (Some (process_action.Make child)) = (count : ℕ) × (family.new_pid ≡ Some child) × (o ≡ fork_of count child)
MakesBy family o _ = Unit {0}

module _ (passes : ℕ) (body : List Stmt) (shared : SharedState) (t : Thread) (environment : Environment) where
  by_case : {next : NextStatement} {s : Status} {o : Transition} → TransitionCase passes body shared t environment true next s o → MakesBy environment.family o o.process
  by_case (process_forked next at child prepares is) = (at.length, is, refl)
  by_case _ = tt

-- ---- the thread that forks

module _ (tid count child : ℕ) where
  abbrev moves : Thread → Thread
  moves t = thread_moved tid (fork_of count child) t

  -- it holds its slot afterwards, as do the others
  holds_if : (t : Thread) (live : Bool) → has_valid_id tid t ≡ live → holds_slot (cond live (moved (fork_of count child) t) t) ≡ holds_slot t
  unfolding own_after thread_at
  holds_if t true live =
      let holds : holds_slot t ≡ true = (and_parts (nat_eq t.id tid) (holds_slot t) live).1 in
      let here : not t.gone ≡ true = (and_parts (not t.gone) (not (is_ended_status t.status && (t.joined || t.detached))) holds).0 in
      ap (λ (b : Bool). b && true) here ∙ sym holds
  holds_if t false other = refl

  same_holders : (t : Thread) → holds_slot (moves t) ≡ holds_slot t
  unfolding named_after
  same_holders t = holds_if t (has_valid_id tid t) refl

  module _ (slots : List SeenSlot) (has : HasThread tid slots) where
    abbrev after : List SeenSlot
    after = slots_moved (length slots) tid (fork_of count child) slots

    thread_after_fork : (s : SeenSlot) → thread_on tid (on_threads moves s) ≡ option_map moves (thread_on tid s)
    thread_after_fork s =
        find-map (λ t. nat_eq t.id tid) moves s.here
        ∙ ap (option_map moves) (find_agree (λ t. nat_eq (moves t).id tid) (λ t. nat_eq t.id tid) (λ t. ap (λ (id : ℕ). nat_eq id tid) ((transition_keeps tid (fork_of count child)).same_id t)) s.here)

    -- the threads on each slot hold it afterwards, and it is among them
    pub has_after : HasThread tid after
    has_after =
        let rows : map (on_threads moves) slots ≡ after = none_leaves slots has.on_slots moves same_holders in
        let k : ℕ = slot_of (length slots) tid in
        record {
          on_slots = on_slots_kept slots has.on_slots moves (transition_keeps tid (fork_of count child));
          thread = moves has.thread;
          here =
              ap (λ (n : ℕ). thread_with n tid after) (length-map slots (slot_after tid (fork_of count child)))
              ∙ ap (thread_with (length slots) tid) (sym rows)
              ∙ ap (option_and_then (thread_on tid)) (slice_get-map (on_threads moves) slots k)
              ∙ then-map (thread_on tid) (on_threads moves) (slice_get slots k)
              ∙ option_and_then_some (thread_on tid) (slice_get slots k) has.thread has.here (λ s at found.
              ap (option_and_then (λ (s : SeenSlot). thread_on tid (on_threads moves s))) at ∙ thread_after_fork s ∙ ap (option_map moves) found);
        }

-- ---- a transition that an entry takes

-- the thread that takes it holds its slot
pub record IsTaken (slots tid : ℕ) (family : Family) (p : SeenProcess) (o : Transition) : Type 0 where
  pub thread : Thread
  pub holds : thread_with slots tid p.slots ≡ Some thread
  pub makes : MakesBy family o o.process

is_taken : (script : Script) (config : Config) (family : Family) (p : SeenProcess) (e : Entry) (o : Transition) → taken_in script config family p e ≡ Some o → IsTaken config.slots e.tid family p o
unfolding environment_in
is_taken script config family p e o taken =
    option_and_then_some (if_offered_in script (has_timeouts config.format) config.slots config.passes family p e) (thread_with config.slots e.tid p.slots) o taken (λ t holds may.
    let parts = cond_some (offers (choices_in script (has_timeouts config.format) config.slots family p t) e.alt) (transition_in script (has_timeouts config.format) config.slots config.passes family p t e.alt) o may in
    let body : List Stmt = body_at script t.frames in
    let environment : Environment = environment_in (has_timeouts config.format) config.slots family p.slots t.id in
    record {
      thread = t;
      holds = holds;
      makes = subst (λ (x : Transition). MakesBy family x x.process) parts.1 (by_case config.passes body p.shared t environment (case_of config.passes body p.shared t environment true e.alt (next_of script t.frames) t.status (λ known. parts.0)));
    })

-- there is room for a new process
room_for : (made child : ℕ) (relatives : List Relative) → pid_after made relatives ≡ Some child → length relatives < 8
room_for made child relatives is = ltb-true (length relatives) 8 (cond_some (nat_lt (length relatives) 8) (suc made) child is).0

module _ (script : Script) (config : Config) (list : ProcessList) (e : Entry) (o : Transition) (can : AllCanStep config.slots list.processes list.made) where
  abbrev next : SeenProcess → SeenProcess
  next p = process_moved config.slots e.pid e.tid o p

  same_live : (p : SeenProcess) (live : Bool) → is_live_seen e.pid (cond live (process_seen config.slots e.tid o p) p) ≡ is_live_seen e.pid p
  same_live p true = refl
  same_live p false = refl

  module _ (p : SeenProcess) (found : find (is_live_seen e.pid) list.processes ≡ Some p) (taken : IsTaken config.slots e.tid (families list p.pid) p o) where
    steps : CanStep config.slots p
    steps =
        option_and_then_some (slice_get list.processes) (position (is_live_seen e.pid) list.processes) p (sym (found_at (is_live_seen e.pid) list.processes) ∙ found) (λ i is at. can.each i p at)

    child_fits : (count child : ℕ) → (families list p.pid).new_pid ≡ Some child → o ≡ fork_of count child → ChildFits e.pid e.tid child (list_moved config.slots e.pid e.tid o list)
    unfolding family_among
    child_fits count child new is =
        let has : HasThread e.tid p.slots = record { on_slots = steps.on_slots; thread = taken.thread; here = ap (λ (n : ℕ). thread_with n e.tid p.slots) steps.all ∙ taken.holds } in
        let after : HasThread e.tid (slots_moved config.slots e.tid o p.slots) =
        subst (λ (x : Transition). HasThread e.tid (slots_moved config.slots e.tid x p.slots)) (sym is)
        (subst (λ (n : ℕ). HasThread e.tid (slots_moved n e.tid (fork_of count child) p.slots)) steps.all (has_after e.tid count child p.slots has)) in
        let live : is_live_seen e.pid p ≡ true = test_passes (is_live_seen e.pid) p list.processes found in
        let room : length (map relative_in list.processes) < 8 = room_for list.made child (map relative_in list.processes) new in
        record {
          next = new_pid_is_next list.made child (map relative_in list.processes) new;
          room = subst (λ (n : ℕ). n < 8) (length-map list.processes relative_in ∙ sym (length-map list.processes next)) room;
          parent = next p;
          live =
              find-map (is_live_seen e.pid) next list.processes
              ∙ ap (option_map next) (find_agree (λ q. is_live_seen e.pid (next q)) (is_live_seen e.pid) (λ q. same_live q (is_live_seen e.pid q)) list.processes ∙ found);
          thread = subst (λ (b : Bool). HasThread e.tid (cond b (process_seen config.slots e.tid o p) p).slots) (sym live) after;
        }

    change_fits : (made : Option ProcessAction) → MakesBy (families list p.pid) o made → IfSome made (λ c. ChangeFits e.pid e.tid c (list_moved config.slots e.pid e.tid o list))
    change_fits None makes = tt
    change_fits (Some (process_action.Make child)) makes = child_fits makes.0 child makes.1 makes.2
    change_fits (Some c) makes = tt

  -- the change that a transition of an entry makes can be made
  pub made_fits : taken_among script config list e ≡ Some o → IfSome o.process (λ c. ChangeFits e.pid e.tid c (list_moved config.slots e.pid e.tid o list))
  made_fits taken =
      option_and_then_some (λ p. taken_in script config (families list p.pid) p e) (find (is_live_seen e.pid) list.processes) o taken (λ p found takes.
      let it : IsTaken config.slots e.tid (families list p.pid) p o = is_taken script config (families list p.pid) p e o takes in
      change_fits p found it o.process it.makes)
