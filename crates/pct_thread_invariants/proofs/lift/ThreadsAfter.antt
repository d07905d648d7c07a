-- The threads of a process after a transition of one of them: those that were made before it, and the one that it creates.
use Rattle.pct_names.proofs.Names.{◌&&◌, ◌<◌, and_left, and_parts, ap, Bool, changed, choices_of, cond, Config, Entry, false}
use Rattle.pct_names.proofs.Names.{false_from_ne_true, find, has_valid_id, holds_slot, length, main_of, names_of, nat_eq, new_frame}
use Rattle.pct_names.proofs.Names.{new_thread, NewThread, None, none-some, offers, Option, option_map, option_map_or, option_or, Process}
use Rattle.pct_names.proofs.Names.{refl, same_Some, Script, Some, subst, sym, Thread, thread_created, thread_moved, thread_with, Transition}
use Rattle.pct_names.proofs.Names.{transition_by, true, with_id, World, ℕ, ◌∙◌, ◌≡◌, ◌≤◌}
use Rattle.std.proofs.Common.{eqb-true}
use Rattle.pct_model.specs.declared.state.FrameKind.TheVariants as kind
use Rattle.pct_thread_invariants.proofs.lift.KeyedLists.{found_passes, not_found}
use Rattle.pct_thread_invariants.proofs.lift.ChangedThreads.{thread_moved_keeps}
use Rattle.pct_thread_invariants.proofs.lift.CreatedThreads.{creates_with_next_id}
use Rattle.pct_thread_invariants.proofs.lift.MadeThreads.{own_thread_with, HasValidId, with_valid_id}
use Rattle.pct_thread_invariants.proofs.lift.ThreadIds.{HaveIds, is_next_id, is_fresh}

-- the initial thread of a script
abbrev pub initial_thread : Script → Thread
initial_thread script = new_thread 1 false (new_frame (main_of (names_of script.funcs)) 0 kind.Main)

-- a thread as it is created
abbrev pub created_thread : NewThread → Thread
created_thread new = new_thread new.id new.detached (new_frame new.func new.arg kind.Start)

module _ (script : Script) (config : Config) (w : World) (p : Process) (e : Entry) (t : Thread) where
  -- the entry moves thread t of the process, whose threads have ids
  pub record Moves : Type 0 where
    pub is_thread : with_id e.tid p.threads ≡ Some t
    pub offered : offers (choices_of script config w p t) e.alt ≡ true
    pub some : 0 < config.slots
    pub ids : HaveIds config.slots p.threads
    -- its process was made
    pub made : e.pid ≤ length w.processes

  module _ (moves : Moves) where
    abbrev o : Transition
    o = transition_by script config w p t e.alt

    -- ---- the thread that moves

    pub mover : HasValidId p e.tid t
    mover = with_valid_id e.tid p t moves.ids.distinct moves.is_thread

    -- a thread that is live with its id is that one
    pub is_mover : (id : ℕ) (u : Thread) → thread_with id p ≡ Some u → has_valid_id e.tid u ≡ true → (u ≡ t) × (id ≡ e.tid)
    is_mover id u is live =
        let named : u.id ≡ id = eqb-true u.id id (found_passes (λ (x : Thread). nat_eq x.id id) p.threads u is) in
        let same : id ≡ e.tid = sym named ∙ eqb-true u.id e.tid (and_parts (nat_eq u.id e.tid) (holds_slot u) live).0 in
        (same_Some u t (sym is ∙ ap (λ (n : ℕ). thread_with n p) same ∙ mover.found), same)

    -- ---- the threads after the transition

    -- the transition creates no thread with an id
    abbrev pub CreatesNone : ℕ → Type 0
    CreatesNone id = (test : NewThread → Bool) → option_map_or (λ new. nat_eq new.id id && test new) o.created false ≡ false

    -- the thread with an id, if there is one
    pub data After (id : ℕ) : Option Thread → Type 0 where
      was_made : (u : Thread) → thread_with id p ≡ Some u → CreatesNone id → After id (Some (thread_moved e.tid o u))
      is_new : (new : NewThread) → thread_with id p ≡ None → o.created ≡ Some new → nat_eq new.id id ≡ true → After id (Some (created_thread new))
      is_absent : thread_with id p ≡ None → CreatesNone id → After id None

    -- the id of a thread that was made is not that of the one that is created
    not_created : (id : ℕ) (u : Thread) → thread_with id p ≡ Some u → (new : Option NewThread) → o.created ≡ new → (test : NewThread → Bool) → option_map_or (λ n. nat_eq n.id id && test n) new false ≡ false
    not_created id u is None makes test = refl
    not_created id u is (Some new) makes test = and_left (nat_eq new.id id) (test new) (false_from_ne_true (nat_eq new.id id) (λ same.
        let next = is_next_id config.slots p.threads new.id (creates_with_next_id script config w p t e.alt moves.offered new makes) in
        let none : thread_with new.id p ≡ None = not_found (λ (x : Thread). x.id) new.id p.threads (is_fresh config.slots p.threads moves.ids (created_thread new) next moves.some) in
        none-some u (sym none ∙ ap (λ (n : ℕ). thread_with n p) (eqb-true new.id id same) ∙ is)))

    new_by : (id : ℕ) → thread_with id p ≡ None → (new : Option NewThread) → o.created ≡ new → After id (find (λ u. nat_eq u.id id) (thread_created new))
    new_by id is None makes = is_absent is (λ test. ap (λ (new : Option NewThread). option_map_or (λ (n : NewThread). nat_eq n.id id && test n) new false) makes)
    new_by id is (Some new) makes = by_id (nat_eq new.id id) refl
      where
        by_id : (same : Bool) → nat_eq new.id id ≡ same → After id (cond same (Some (created_thread new)) None)
        by_id true same = is_new new is makes same
        by_id false differs = is_absent is (λ test. ap (λ (n : Option NewThread). option_map_or (λ (x : NewThread). nat_eq x.id id && test x) n false) makes ∙ and_left (nat_eq new.id id) (test new) differs)

    after_by : (id : ℕ) (before : Option Thread) → thread_with id p ≡ before → After id (option_or (option_map (thread_moved e.tid o) before) (find (λ u. nat_eq u.id id) (thread_created o.created)))
    after_by id (Some u) is = was_made u is (not_created id u is o.created refl)
    after_by id None is = new_by id is o.created refl

    pub after : (id : ℕ) → After id (thread_with id (changed e.tid o p))
    after id = subst (After id) (sym (own_thread_with p.pid e.tid o p id)) (after_by id (thread_with id p) refl)

    -- what holds of each thread that was made before, once it is moved, and of a new one, holds of each thread after the transition
    pub each_after : (P : ℕ → Thread → Type 0) → ((id : ℕ) (u : Thread) → thread_with id p ≡ Some u → P id (thread_moved e.tid o u)) → ((id : ℕ) (new : NewThread) → o.created ≡ Some new → P id (created_thread new))
        → (id : ℕ) (w : Thread) → thread_with id (changed e.tid o p) ≡ Some w → P id w
    each_after P old new id w is = by_origin (after id) is
      where
        by_origin : {found : Option Thread} → After id found → found ≡ Some w → P id w
        by_origin (was_made u is none) same = subst (P id) (same_Some (thread_moved e.tid o u) w same) (old id u is)
        by_origin (is_new n is makes named) same = subst (P id) (same_Some (created_thread n) w same) (new id n makes)
        by_origin (is_absent is none) same = absurd (none-some w same)

-- a transition keeps whether a thread is gone
pub same_gone : (tid : ℕ) (o : Transition) (t : Thread) → (thread_moved tid o t).gone ≡ t.gone
same_gone tid o t = ap (λ (i : ℕ × Bool). i.1) (thread_moved_keeps tid o t)
