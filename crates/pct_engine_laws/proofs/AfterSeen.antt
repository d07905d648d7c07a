-- What is kept of a state after a transition depends only on what was kept before it.
use Rattle.pct_names.proofs.Names.{◌&&◌, ◌+◌, ◌++◌, ◌<◌, [], after_transition, ap, arith, as_reaped, Bool, changed, child_by, child_of}
use Rattle.pct_names.proofs.Names.{cond, false, filter, filter-append, flat_map, flat_map-map, inherited, is_last, is_live_process, is_some}
use Rattle.pct_names.proofs.Names.{is_unreaped, length, length-map, List, map, map-append, moved, nat_eq, None, not, Option, orphaned}
use Rattle.pct_names.proofs.Names.{other_process_after, Process, process_after, process_made, process_moved, ProcessAction, ProcessEnd}
use Rattle.pct_names.proofs.Names.{refl, shared_moved, SharedState, Some, stop_after, sym, threads_moved, Transition, true, was_reaped}
use Rattle.pct_names.proofs.Names.{World, ℕ, ◌∙◌, ◌∷◌, ◌≡◌}
use Rattle.std.proofs.Common.{append-nil, length-append, true≢false}
use mathlib.Core.Bool.{and-false}
use Rattle.pct_model.specs.declared.transition.ProcessAction.TheVariants as process_action
use Rattle.pct_engine_laws.specs.Seen.{SeenSlot, SeenProcess, seen_slot, seen_process, seen, is_last_in, own_kept, other_kept, process_seen, own_process_seen, other_process_seen, is_live_seen, slot_inherited, child_seen, child_seen_by, children_seen, processes_kept, seen_after}
use Rattle.pct_engine_laws.proofs.ListFacts.{flat_map_agree, flat_map-flat_map, map-flat_map, filter-flat_map, flat_map-cond, map-filter}
use Rattle.pct_engine_laws.proofs.IndexedLists.{by_index}
use Rattle.pct_engine_laws.proofs.ThreadChanges.{slots_after, slots_of_child}
use Rattle.pct_engine_laws.proofs.AnswerSeen.{last_seen}
use Rattle.pct_engine_laws.proofs.TransitionSeen.{not_ended}

-- ---- one action

-- what is kept of a process
abbrev pub kept : ℕ → Process → List SeenProcess
kept slots p = cond (not (was_reaped p.ended)) (seen_process slots p ∷ []) []

-- what is kept of a process that is not reaped
pub kept_whole : (slots : ℕ) (p : Process) → was_reaped p.ended ≡ false → kept slots p ≡ seen_process slots p ∷ []
kept_whole slots p e = ap (λ (reaped : Bool). cond (not reaped) (seen_process slots p ∷ []) []) e

-- what holds of a process that has not ended, of one that was reaped, and of one that has ended and was not reaped, holds of every process
by_end : (P : Option ProcessEnd → Type 0) → P None → ((n : ℕ) → P (Some (record { status = n; reaped = true }))) → ((n : ℕ) → P (Some (record { status = n; reaped = false }))) → (end : Option ProcessEnd) → P end
by_end P live gone left None = live
by_end P live gone left (Some end) = by_flag end.status end.reaped
  where
    by_flag : (n : ℕ) (reaped : Bool) → P (Some (record { status = n; reaped = reaped }))
    by_flag n true = gone n
    by_flag n false = left n

each_alone : (ps : List SeenProcess) → ps ≡ flat_map (λ p. p ∷ []) ps
each_alone [] = refl
each_alone (p ∷ ps) = ap (λ (rest : List SeenProcess). p ∷ rest) (each_alone ps)

end_by : (f : SeenProcess → List SeenProcess) (p after : SeenProcess) (reaped orphan : Bool) → f p ≡ cond orphan [] (after ∷ []) → (reaped ≡ true → orphan ≡ true) → cond (not orphan) (after ∷ []) [] ≡ flat_map f (cond (not reaped) (p ∷ []) [])
end_by f p after true true e left = refl
end_by f p after true false e left = absurd (true≢false (sym (left refl)))
end_by f p after false true e left = sym (ap (λ (ps : List SeenProcess). ps ++ []) e)
end_by f p after false false e left = sym (ap (λ (ps : List SeenProcess). ps ++ []) e)

-- what is kept of the process of the thread after an action; a process that is reaped has no parent
pub own_action_kept : (slots : ℕ) (a : Option ProcessAction) (p : Process) → (was_reaped p.ended ≡ true → nat_eq p.parent 0 ≡ true) → kept slots (process_after a p) ≡ flat_map (own_kept a) (kept slots p)
unfolding process_after own_kept
own_action_kept slots (Some (process_action.End n)) p orphan =
    end_by (own_kept (Some (process_action.End n))) (seen_process slots p) (record (seen_process slots p) { ended = Some n }) (was_reaped p.ended) (nat_eq p.parent 0) refl orphan
own_action_kept slots _ p orphan = each_alone (kept slots p)

kept_if_child : (slots : ℕ) (child : Bool) (x y : Process) (xs ys : List SeenProcess) → kept slots x ≡ xs → kept slots y ≡ ys → kept slots (cond child x y) ≡ cond child xs ys ++ []
kept_if_child slots true x y xs ys first second = first ∙ sym (append-nil xs)
kept_if_child slots false x y xs ys first second = second ∙ sym (append-nil ys)

gone_if_child : (slots : ℕ) (child : Bool) (x y : Process) → kept slots x ≡ [] → kept slots y ≡ [] → kept slots (cond child x y) ≡ []
gone_if_child slots true x y first second = first
gone_if_child slots false x y first second = second

-- what is kept of a process whose parent waits for it, if it is the one
reaped_if : (slots : ℕ) (p : Process) (named : Bool) → kept slots (cond named (record p { ended = as_reaped p.ended }) p) ≡ cond (not (was_reaped p.ended)) (cond (named && is_some (seen_process slots p).ended) [] (seen_process slots p ∷ [])) []
reaped_if slots p true =
    let with_end : Option ProcessEnd → Process = λ end. record p { ended = end } in
    by_end (λ end. kept slots (with_end (as_reaped end)) ≡ cond (not (was_reaped end)) (cond (is_some (seen_process slots (with_end end)).ended) [] (seen_process slots (with_end end) ∷ [])) []) refl (λ n. refl) (λ n. refl) p.ended
reaped_if slots p false = refl

-- what is kept of another process after an action
pub other_action_kept : (slots pid : ℕ) (a : Option ProcessAction) (p : Process) → kept slots (other_process_after pid a p) ≡ flat_map (other_kept pid a) (kept slots p)
unfolding other_process_after other_kept
other_action_kept slots pid (Some (process_action.End n)) p =
    let child : Bool = nat_eq p.parent pid in
    let with_end : Option ProcessEnd → Process = λ end. record p { ended = end } in
    let own : Option ProcessEnd → List SeenProcess = λ end. seen_process slots (with_end end) ∷ [] in
    by_end (λ end. kept slots (other_process_after pid (Some (process_action.End n)) (with_end end)) ≡ flat_map (other_kept pid (Some (process_action.End n))) (kept slots (with_end end)))
    (kept_if_child slots child (record p { parent = 0; ended = None }) (with_end None) (seen_process slots (record p { parent = 0; ended = None }) ∷ []) (own None) refl refl)
    (λ m. let end : Option ProcessEnd = Some (record { status = m; reaped = true }) in gone_if_child slots child (orphaned end p) (with_end end) refl refl)
    (λ m. let end : Option ProcessEnd = Some (record { status = m; reaped = false }) in kept_if_child slots child (orphaned end p) (with_end end) [] (own end) refl refl)
    p.ended
other_action_kept slots pid (Some (process_action.Reap id)) p =
    reaped_if slots p (nat_eq p.pid id) ∙ sym (flat_map-cond (other_kept pid (Some (process_action.Reap id))) (seen_process slots p) (not (was_reaped p.ended)))
other_action_kept slots pid _ p = each_alone (kept slots p)

-- ---- a process

-- a process with these slots and this shared state
abbrev with_slots : SeenProcess → SharedState → List SeenSlot → SeenProcess
with_slots p shared slots = record p { slots = slots; shared = shared }

-- the process of the thread, before the actions of its own
abbrev with_thread : ℕ → Transition → Process → Process
with_thread tid o p = record p { threads = threads_moved tid o p.threads; shared = shared_moved tid o p.shared }

-- the process of the thread after the transition
pub own_kept_after : (slots tid : ℕ) (o : Transition) (p : Process) → 0 < slots → was_reaped p.ended ≡ false → kept slots (changed tid o p) ≡ own_process_seen slots tid o (seen_process slots p)
own_kept_after slots tid o p some e =
    own_action_kept slots o.process (with_thread tid o p) (λ reaped. absurd (true≢false (sym reaped ∙ e)))
    ∙ ap (flat_map (own_kept o.process)) (kept_whole slots (with_thread tid o p) e)
    ∙ append-nil (own_kept o.process (seen_process slots (with_thread tid o p)))
    ∙ ap (λ (rows : List SeenSlot). own_kept o.process (with_slots (seen_process slots p) (shared_moved tid o p.shared) rows)) (slots_after slots tid o p.threads some)

-- another process, which is not reaped, after the transition
pub other_kept_after : (slots pid : ℕ) (o : Transition) (p : Process) → was_reaped p.ended ≡ false → kept slots (other_process_after pid o.process p) ≡ other_process_seen pid o (seen_process slots p)
other_kept_after slots pid o p e =
    other_action_kept slots pid o.process p ∙ ap (flat_map (other_kept pid o.process)) (kept_whole slots p e) ∙ append-nil (other_kept pid o.process (seen_process slots p))

-- what is kept of any process after the transition
abbrev pub any_seen_after : ℕ → ℕ → ℕ → Transition → SeenProcess → List SeenProcess
any_seen_after slots pid tid o p = cond (is_live_seen pid p) (own_process_seen slots tid o p) (other_process_seen pid o p)

kept_if : (slots pid tid : ℕ) (o : Transition) (p : Process) (own : Bool) → 0 < slots → was_reaped p.ended ≡ false → kept slots (cond own (changed tid o p) (other_process_after pid o.process p)) ≡ cond own (own_process_seen slots tid o (seen_process slots p)) (other_process_seen pid o (seen_process slots p))
kept_if slots pid tid o p true some e = own_kept_after slots tid o p some e
kept_if slots pid tid o p false some e = other_kept_after slots pid o p e

-- what is kept of a process after a transition
pub kept_after : (slots pid tid : ℕ) (o : Transition) (p : Process) → 0 < slots → kept slots (process_moved pid tid o p) ≡ flat_map (any_seen_after slots pid tid o) (kept slots p)
kept_after slots pid tid o p some =
    let with_end : Option ProcessEnd → Process = λ end. record p { ended = end } in
    by_end (λ end. kept slots (process_moved pid tid o (with_end end)) ≡ flat_map (any_seen_after slots pid tid o) (kept slots (with_end end)))
    (kept_if slots pid tid o (with_end None) (nat_eq p.pid pid && true) some refl ∙ sym (append-nil (any_seen_after slots pid tid o (seen_process slots (with_end None)))))
    (λ n.
    let gone : Process = with_end (Some (record { status = n; reaped = true })) in
    ap (λ (own : Bool). kept slots (cond own (changed tid o gone) (other_process_after pid o.process gone))) (and-false (nat_eq p.pid pid))
    ∙ other_action_kept slots pid o.process gone)
    (λ n.
    let left : Process = with_end (Some (record { status = n; reaped = false })) in
    kept_if slots pid tid o left (nat_eq p.pid pid && false) some refl ∙ sym (append-nil (any_seen_after slots pid tid o (seen_process slots left))))
    p.ended

-- ---- the processes that the transition makes

-- the child of a fork
pub child_is_seen : (slots tid pid : ℕ) (p : Process) → 0 < slots → seen_process slots (child_of tid pid p) ≡ child_seen tid pid (seen_process slots p)
unfolding child_of
child_is_seen slots tid pid p some =
    let last : is_last tid p.threads ≡ is_last_in tid (seen_process slots p).slots = last_seen slots tid p.threads some in
    let rows : by_index (seen_slot slots (map (inherited tid) p.threads)) slots ≡ map (slot_inherited tid) (seen_process slots p).slots = slots_of_child slots tid p.threads in
    λ i. record { pid = pid; parent = p.pid; ended = None; slots = rows i; shared = record p.shared { exit_value = None; restricted = not (last i) } }

-- the end of a process does not change its child
same_child : (tid pid : ℕ) (a : Option ProcessAction) (p : Process) → child_of tid pid (process_after a p) ≡ child_of tid pid p
unfolding child_of process_after
same_child tid pid (Some (process_action.End n)) p = refl
same_child tid pid _ p = refl

module _ (slots pid tid : ℕ) (o : Transition) where
  -- the child of a process after the transition
  child_after : (child : ℕ) (p : Process) → 0 < slots → seen_process slots (child_of tid child (changed tid o p)) ≡ child_seen tid child (process_seen slots tid o (seen_process slots p))
  child_after child p some =
      ap (seen_process slots) (same_child tid child o.process (with_thread tid o p))
      ∙ child_is_seen slots tid child (with_thread tid o p) some
      ∙ ap (λ (rows : List SeenSlot). child_seen tid child (with_slots (seen_process slots p) (shared_moved tid o p.shared) rows)) (slots_after slots tid o p.threads some)

  child_by_action : (p : Process) (a : Option ProcessAction) → 0 < slots → map (seen_process slots) (child_by tid (changed tid o p) a) ≡ child_seen_by tid (process_seen slots tid o (seen_process slots p)) a
  unfolding child_by child_seen_by
  child_by_action p (Some (process_action.Make child)) some = ap (λ (q : SeenProcess). q ∷ []) (child_after child p some)
  child_by_action p _ some = refl

  -- what is kept of the processes that are made of one that is kept
  abbrev made_seen : SeenProcess → List SeenProcess
  made_seen p = cond (is_live_seen pid p) (child_seen_by tid (process_seen slots tid o p) o.process) []

  made_if : (live : Bool) (made : List Process) (seen_made : List SeenProcess) → map (seen_process slots) made ≡ seen_made → map (seen_process slots) (cond live made []) ≡ cond live seen_made []
  made_if true made seen_made e = e
  made_if false made seen_made e = refl

  cond_both : (kept live : Bool) (made : List SeenProcess) → cond (kept && live) made [] ≡ cond kept (cond live made []) []
  cond_both true live made = refl
  cond_both false live made = refl

  made_of : (p : Process) → 0 < slots → map (seen_process slots) (process_made pid tid o p) ≡ flat_map made_seen (kept slots p)
  made_of p some =
      let made : List SeenProcess = child_seen_by tid (process_seen slots tid o (seen_process slots p)) o.process in
      made_if (is_live_process pid p) (child_by tid (changed tid o p) o.process) made (child_by_action p o.process some)
      ∙ ap (λ (live : Bool). cond live made []) (sym (not_ended (nat_eq p.pid pid) p.ended))
      ∙ cond_both (not (was_reaped p.ended)) (is_live_seen pid (seen_process slots p)) made
      ∙ sym (flat_map-cond made_seen (seen_process slots p) (not (was_reaped p.ended)))

  -- none of them is reaped
  unreaped_by : (p : Process) (a : Option ProcessAction) → filter is_unreaped (child_by tid p a) ≡ child_by tid p a
  unfolding child_by child_of
  unreaped_by p (Some (process_action.Make child)) = refl
  unreaped_by p _ = refl

  unreaped_if : (live : Bool) (made : List Process) → filter is_unreaped made ≡ made → filter is_unreaped (cond live made []) ≡ cond live made []
  unreaped_if true made e = e
  unreaped_if false made e = refl

  unreaped_made : (p : Process) → filter is_unreaped (process_made pid tid o p) ≡ process_made pid tid o p
  unreaped_made p = unreaped_if (is_live_process pid p) (child_by tid (changed tid o p) o.process) (unreaped_by (changed tid o p) o.process)

-- ---- all processes

-- what is kept of processes is joined of what is kept of each
pub kept_all : (slots : ℕ) (ps : List Process) → map (seen_process slots) (filter is_unreaped ps) ≡ flat_map (kept slots) ps
kept_all slots ps = map-filter (seen_process slots) is_unreaped ps

-- what is kept of the processes after a transition
pub processes_after : (slots pid tid : ℕ) (o : Transition) (ps : List Process) → 0 < slots → map (seen_process slots) (filter is_unreaped (map (process_moved pid tid o) ps)) ≡ processes_kept slots pid tid o (map (seen_process slots) (filter is_unreaped ps))
processes_after slots pid tid o ps some =
    kept_all slots (map (process_moved pid tid o) ps)
    ∙ flat_map-map (kept slots) (process_moved pid tid o) ps
    ∙ flat_map_agree (λ p. kept slots (process_moved pid tid o p)) (λ p. flat_map (any_seen_after slots pid tid o) (kept slots p)) (λ p. kept_after slots pid tid o p some) ps
    ∙ sym (flat_map-flat_map (any_seen_after slots pid tid o) (kept slots) ps)
    ∙ sym (ap (flat_map (any_seen_after slots pid tid o)) (kept_all slots ps))

-- what is kept of the processes that a transition makes
pub children_are_seen : (slots pid tid : ℕ) (o : Transition) (ps : List Process) → 0 < slots → map (seen_process slots) (flat_map (process_made pid tid o) ps) ≡ children_seen slots pid tid o (map (seen_process slots) (filter is_unreaped ps))
children_are_seen slots pid tid o ps some =
    map-flat_map (seen_process slots) (process_made pid tid o) ps
    ∙ flat_map_agree (λ p. map (seen_process slots) (process_made pid tid o p)) (λ p. flat_map (made_seen slots pid tid o) (kept slots p)) (λ p. made_of slots pid tid o p some) ps
    ∙ sym (flat_map-flat_map (made_seen slots pid tid o) (kept slots) ps)
    ∙ sym (ap (flat_map (made_seen slots pid tid o)) (kept_all slots ps))

-- the state after a transition
pub after_is_seen : (slots pid tid : ℕ) (w : World) (o : Transition) → 0 < slots → seen slots (after_transition pid tid o w) ≡ seen_after slots pid tid o (seen slots w)
unfolding after_transition seen_after
after_is_seen slots pid tid w o some =
    let moved : List Process = map (process_moved pid tid o) w.processes in
    let made : List Process = flat_map (process_made pid tid o) w.processes in
    let before : List SeenProcess = (seen slots w).processes in
    let children : List SeenProcess = children_seen slots pid tid o before in
    let are : map (seen_process slots) made ≡ children = children_are_seen slots pid tid o w.processes some in
    let processes : map (seen_process slots) (filter is_unreaped (moved ++ made)) ≡ processes_kept slots pid tid o before ++ children =
    ap (map (seen_process slots)) (filter-append is_unreaped moved made ∙ ap (λ (rest : List Process). filter is_unreaped moved ++ rest) (filter-flat_map is_unreaped (process_made pid tid o) (unreaped_made slots pid tid o) w.processes))
    ∙ map-append (seen_process slots) (filter is_unreaped moved) made
    ∙ ap (λ (first : List SeenProcess). first ++ map (seen_process slots) made) (processes_after slots pid tid o w.processes some)
    ∙ ap (λ (rest : List SeenProcess). processes_kept slots pid tid o before ++ rest) are in
    let number : length (moved ++ made) ≡ length w.processes + length children = omega (arith, length-append moved made, length-map w.processes (process_moved pid tid o), length-map made (seen_process slots), ap length are) in
    λ i. record { processes = processes i; made = number i; stop = stop_after o.stop w.stop }
