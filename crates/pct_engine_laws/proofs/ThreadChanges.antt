-- The slots of a process after a transition of one of its threads.
use Rattle.pct_names.proofs.Names.{◌&&◌, ◌+◌, ◌++◌, ◌-◌, ◌<◌, [], and_right, ap, arith, Bool, Broadcast, Cause, cond, count_by, Ended}
use Rattle.pct_names.proofs.Names.{false, false≢true, filter, filter-append, fold_push, has_valid_id, holds_slot, in_child, inherited}
use Rattle.pct_names.proofs.Names.{is_ended_status, is_on, is_waiting_on, List, map, moved, named_after, NamedAction, nat_eq, new_frame}
use Rattle.pct_names.proofs.Names.{new_thread, NewThread, None, not, Option, option_map_or, own_after, OwnAction, range_with_len, refl}
use Rattle.pct_names.proofs.Names.{replica_of, Signalled, slice_set, slot_of, Some, Start, Status, sym, Thread, thread_at, thread_created}
use Rattle.pct_names.proofs.Names.{thread_moved, threads_moved, Transition, true, unblocked, Waiting, ◌||◌, ℕ, ◌∙◌, ◌∷◌, ◌≡◌}
use Rattle.std.proofs.Common.{mod-lt, ne_eqb, eq-eqb, append-nil}
use Rattle.std.proofs.Math.Path.{fun_ext}
use Rattle.pct_model.specs.declared.transition.NamedAction.TheVariants as named_action
use Rattle.pct_model.specs.declared.transition.OwnAction.TheVariants as own_action
use Rattle.pct_engine_laws.specs.Seen.{SeenSlot, seen_slot, slot_with, on_slot, with_created, slots_moved, slot_inherited}
use Rattle.pct_engine_laws.proofs.ListFacts.{count_agree, count-map, filter_changed, map-map}
use Rattle.pct_engine_laws.proofs.IndexedLists.{by_index, item_by_index, changed_by_index}

-- ---- any change

-- a change of threads: it keeps ids, and lets no reclaimed thread hold a slot again
pub record KeepsSlots (change : Thread → Thread) : Type 0 where
  pub same_id : (t : Thread) → (change t).id ≡ t.id
  pub reclaimed : (t : Thread) → holds_slot t ≡ false → holds_slot (change t) ≡ false

-- a slot after a change of its threads; a thread that is reclaimed holds it no longer
abbrev pub with_change : (Thread → Thread) → SeenSlot → SeenSlot
with_change change s = record s { here = filter holds_slot (map change s.here) }

module _ (slots : ℕ) (change : Thread → Thread) (keeps : KeepsSlots change) where
  same_slot : (s : ℕ) (t : Thread) → is_on slots s (change t) ≡ is_on slots s t
  same_slot s t = ap (λ (id : ℕ). nat_eq (slot_of slots id) s) (keeps.same_id t)

  -- a slot after the change
  pub slot_changed : (threads : List Thread) (s : ℕ) → seen_slot slots (map change threads) s ≡ with_change change (seen_slot slots threads s)
  slot_changed threads s =
      let made : count_by (is_on slots s) (map change threads) ≡ count_by (is_on slots s) threads = count-map (is_on slots s) change threads ∙ count_agree (λ t. is_on slots s (change t)) (is_on slots s) (same_slot s) threads in
      let here : filter (λ t. is_on slots s t && holds_slot t) (map change threads) ≡ filter holds_slot (map change (filter (λ t. is_on slots s t && holds_slot t) threads)) = filter_changed (is_on slots s) holds_slot change (same_slot s) keeps.reclaimed threads in
      λ j. record { made = made j; here = here j }

  -- all slots after the change
  pub slots_changed : (threads : List Thread) → by_index (seen_slot slots (map change threads)) slots ≡ map (with_change change) (by_index (seen_slot slots threads) slots)
  slots_changed threads =
      ap (λ (f : ℕ → SeenSlot). by_index f slots) (fun_ext (slot_changed threads))
      ∙ sym (map-map (with_change change) (seen_slot slots threads) (range_with_len 0 slots))

-- ---- a change of the thread with an id

-- a thread of the process after a change of the one with an id
abbrev pub on_thread : ℕ → (Thread → Thread) → Thread → Thread
on_thread tid change t = cond (has_valid_id tid t) (change t) t

module _ (tid : ℕ) (change : Thread → Thread) (same_id : (t : Thread) → (change t).id ≡ t.id) where
  id_if : (t : Thread) (test : Bool) → (cond test (change t) t).id ≡ t.id
  id_if t true = same_id t
  id_if t false = refl

  reclaimed_if : (t : Thread) → holds_slot t ≡ false → holds_slot (on_thread tid change t) ≡ false
  reclaimed_if t gone =
      ap (λ (test : Bool). holds_slot (cond test (change t) t)) (and_right (nat_eq t.id tid) (holds_slot t) gone) ∙ gone

  -- a change of the thread with an id that keeps the id
  pub on_thread_keeps : KeepsSlots (on_thread tid change)
  on_thread_keeps = record { same_id = λ t. id_if t (has_valid_id tid t); reclaimed = reclaimed_if }

-- a change of the threads that pass a test
passing_keeps : (test : Thread → Bool) (change : Thread → Thread) → KeepsSlots change → KeepsSlots (λ t. cond (test t) (change t) t)
passing_keeps test change keeps = record { same_id = λ t. id_by t (test t); reclaimed = λ t gone. gone_by t gone (test t) } where
  id_by : (t : Thread) (passes : Bool) → (cond passes (change t) t).id ≡ t.id
  id_by t true = keeps.same_id t
  id_by t false = refl

  gone_by : (t : Thread) → holds_slot t ≡ false → (passes : Bool) → holds_slot (cond passes (change t) t) ≡ false
  gone_by t gone true = keeps.reclaimed t gone
  gone_by t gone false = gone

-- one change after another
pub then_keeps : (f g : Thread → Thread) → KeepsSlots f → KeepsSlots g → KeepsSlots (λ t. g (f t))
then_keeps f g first second = record {
  same_id = λ t. second.same_id (f t) ∙ first.same_id t;
  reclaimed = λ t gone. second.reclaimed (f t) (first.reclaimed t gone);
}

-- ---- a transition of a thread

-- an action keeps the id of its thread
pub action_keeps_id : (a : Option OwnAction) (t : Thread) → (own_after a t).id ≡ t.id
unfolding own_after
action_keeps_id (Some own_action.PopHandler) t = refl
action_keeps_id _ t = refl

going_on_keeps_id : (next : Option ℕ) (t : Thread) → (thread_at next t).id ≡ t.id
unfolding thread_at
going_on_keeps_id None t = refl
going_on_keeps_id (Some pc) t = refl

-- a transition keeps the id of its thread
pub transition_keeps_id : (o : Transition) (t : Thread) → (moved o t).id ≡ t.id
transition_keeps_id o t = action_keeps_id o.own _ ∙ going_on_keeps_id o.next t

-- the status after an unblocking is that of an ended thread exactly if the one before is
pub unblocked_ended : (why : Cause) (s : Status) → is_ended_status (unblocked why s) ≡ is_ended_status s
unblocked_ended why (Waiting c m) = refl
unblocked_ended why s = refl

-- an action on the threads that it names
pub named_keeps : (a : Option NamedAction) → KeepsSlots (named_after a)
unfolding named_after
named_keeps (Some (named_action.EndJoin id)) = on_thread_keeps id (λ t. record t { joined = true }) (λ t. refl)
named_keeps (Some (named_action.Request id)) = passing_keeps (λ t. has_valid_id id t && not t.ended) (λ t. record t { pending = true }) (record { same_id = λ t. refl; reclaimed = λ t gone. gone })
named_keeps (Some (named_action.Detach id)) = on_thread_keeps id (λ t. record t { detached = true }) (λ t. refl)
named_keeps (Some (named_action.Wake id)) = on_thread_keeps id (λ t. record t { status = unblocked Signalled t.status }) (λ t. refl)
named_keeps (Some (named_action.WakeAll c)) = passing_keeps (λ t. is_waiting_on c t.status) (λ t. record t { status = unblocked Broadcast t.status }) (record {
  same_id = λ t. refl;
  reclaimed = λ t gone. ap (λ (ended : Bool). not t.gone && not (ended && (t.joined || t.detached))) (unblocked_ended Broadcast t.status) ∙ gone;
})
named_keeps (Some (named_action.ForgetKey k)) = record { same_id = λ t. refl; reclaimed = λ t gone. gone }
named_keeps None = record { same_id = λ t. refl; reclaimed = λ t gone. gone }

-- a transition of the thread with an id
pub transition_keeps : (tid : ℕ) (o : Transition) → KeepsSlots (thread_moved tid o)
transition_keeps tid o = then_keeps (on_thread tid (moved o)) (named_after o.named) (on_thread_keeps tid (moved o) (transition_keeps_id o)) (named_keeps o.named)

-- ---- a new thread

-- a thread's slot is one of the process's
pub slot_below : (slots tid : ℕ) → 0 < slots → slot_of slots tid < slots
slot_below slots tid some = mod-lt (tid - 1) some

module _ (slots : ℕ) (threads : List Thread) (new : NewThread) where
  -- the new thread
  abbrev made_thread : List Thread
  made_thread = thread_created (Some new)

  count_with : (s : ℕ) (on : Bool) → nat_eq (slot_of slots new.id) s ≡ on → count_by (is_on slots s) (threads ++ made_thread) ≡ count_by (is_on slots s) threads + cond on 1 0
  count_with s on e =
      fold_push (λ (n : ℕ) (t : Thread). n + cond (is_on slots s t) 1 0) 0 threads (new_thread new.id new.detached (new_frame new.func new.arg Start))
      ∙ ap (λ (b : Bool). count_by (is_on slots s) threads + cond b 1 0) e

  holders_with : (s : ℕ) (on : Bool) → nat_eq (slot_of slots new.id) s ≡ on → filter (λ t. is_on slots s t && holds_slot t) (threads ++ made_thread) ≡ filter (λ t. is_on slots s t && holds_slot t) threads ++ cond (on && true) made_thread []
  holders_with s on e =
      filter-append (λ t. is_on slots s t && holds_slot t) threads made_thread
      ∙ ap (λ (b : Bool). filter (λ t. is_on slots s t && holds_slot t) threads ++ cond (b && true) made_thread []) e

  slot_on : (s : ℕ) (on : Bool) → nat_eq (slot_of slots new.id) s ≡ on → seen_slot slots (threads ++ made_thread) s ≡ cond on (slot_with new (seen_slot slots threads s)) (seen_slot slots threads s)
  slot_on s true e = λ j. record { made = count_with s true e j; here = holders_with s true e j }
  slot_on s false e =
      let same : count_by (is_on slots s) threads + 0 ≡ count_by (is_on slots s) threads = omega arith in
      let made : count_by (is_on slots s) (threads ++ made_thread) ≡ count_by (is_on slots s) threads = count_with s false e ∙ same in
      let here : filter (λ t. is_on slots s t && holds_slot t) (threads ++ made_thread) ≡ filter (λ t. is_on slots s t && holds_slot t) threads = holders_with s false e ∙ append-nil (filter (λ t. is_on slots s t && holds_slot t) threads) in
      λ j. record { made = made j; here = here j }

  -- all slots with the new thread
  pub slots_created : 0 < slots → by_index (seen_slot slots (threads ++ made_thread)) slots ≡ on_slot (slot_of slots new.id) (slot_with new) (by_index (seen_slot slots threads) slots)
  slots_created some =
      let i : ℕ = slot_of slots new.id in
      let rows : List SeenSlot = by_index (seen_slot slots threads) slots in
      let low : i < slots = slot_below slots new.id some in
      changed_by_index (seen_slot slots threads) (seen_slot slots (threads ++ made_thread)) slots i low (λ s other. slot_on s false (ne_eqb i s (λ e. other (sym e))))
      ∙ ap (λ (s : SeenSlot). slice_set rows i s) (slot_on i true (eq-eqb i i refl))
      ∙ sym (ap (λ (o : Option SeenSlot). option_map_or (λ (s : SeenSlot). slice_set rows i (slot_with new s)) o rows) (item_by_index (seen_slot slots threads) slots i low))

-- the slots with the thread that a transition creates, if it does
pub slots_with_created : (slots : ℕ) (threads : List Thread) (created : Option NewThread) → 0 < slots → by_index (seen_slot slots (threads ++ thread_created created)) slots ≡ with_created slots created (by_index (seen_slot slots threads) slots)
slots_with_created slots threads None some = ap (λ (ts : List Thread). by_index (seen_slot slots ts) slots) (append-nil threads)
slots_with_created slots threads (Some new) some = slots_created slots threads new some

-- the slots after a transition of a thread
pub slots_after : (slots tid : ℕ) (o : Transition) (threads : List Thread) → 0 < slots → by_index (seen_slot slots (threads_moved tid o threads)) slots ≡ slots_moved slots tid o (by_index (seen_slot slots threads) slots)
slots_after slots tid o threads some =
    slots_with_created slots (map (thread_moved tid o) threads) o.created some
    ∙ ap (with_created slots o.created) (slots_changed slots (thread_moved tid o) (transition_keeps tid o) threads)

-- ---- the slots of a child process

-- a thread, as a child has it, if the child inherits it and if not
abbrev heir : Thread → Bool → Thread
heir t inherits = cond inherits (replica_of t) (record t { gone = true })

heir_id : (t : Thread) (inherits : Bool) → (heir t inherits).id ≡ t.id
heir_id t true = refl
heir_id t false = refl

-- a child keeps the ids of threads
pub inherited_id : (tid : ℕ) (t : Thread) → (inherited tid t).id ≡ t.id
unfolding inherited
inherited_id tid t = heir_id t (has_valid_id tid t)

-- a replica of a thread that holds its slot holds it too: a thread that has ended and holds its slot is not detached
replica_holds : (s : Status) (gone joined detached : Bool) → (not gone && not (is_ended_status s && (joined || detached))) ≡ true → not (is_ended_status (in_child s) && (false || detached)) ≡ true
replica_holds (Ended v) true joined detached holds = absurd (false≢true holds)
replica_holds (Ended v) false true detached holds = absurd (false≢true holds)
replica_holds (Ended v) false false detached holds = holds
replica_holds _ gone joined detached holds = refl

module _ (slots tid : ℕ) where
  heir_on : (s : ℕ) (t : Thread) → is_on slots s (inherited tid t) ≡ is_on slots s t
  heir_on s t = ap (λ (id : ℕ). nat_eq (slot_of slots id) s) (inherited_id tid t)

  heirs_cons : (t : Thread) (on named holds : Bool) (left kept : List Thread) → nat_eq t.id tid ≡ named → holds_slot t ≡ holds → left ≡ map replica_of (filter (λ u. nat_eq u.id tid) kept)
      → cond (on && holds_slot (heir t (named && holds))) (heir t (named && holds) ∷ left) left ≡ map replica_of (filter (λ u. nat_eq u.id tid) (cond (on && holds) (t ∷ kept) kept))
  heirs_cons t true true true left kept named held e =
      ap (λ (b : Bool). cond b (replica_of t ∷ left) left) (replica_holds t.status t.gone t.joined t.detached held)
      ∙ ap (λ (rest : List Thread). replica_of t ∷ rest) e
      ∙ sym (ap (λ (b : Bool). map replica_of (cond b (t ∷ filter (λ u. nat_eq u.id tid) kept) (filter (λ u. nat_eq u.id tid) kept))) named)
  heirs_cons t true false true left kept named held e =
      e ∙ sym (ap (λ (b : Bool). map replica_of (cond b (t ∷ filter (λ u. nat_eq u.id tid) kept) (filter (λ u. nat_eq u.id tid) kept))) named)
  heirs_cons t true true false left kept named held e = e
  heirs_cons t true false false left kept named held e = e
  heirs_cons t false named holds left kept is held e = e

  heirs_on : (s : ℕ) (threads : List Thread) → filter (λ t. is_on slots s t && holds_slot t) (map (inherited tid) threads) ≡ map replica_of (filter (λ t. nat_eq t.id tid) (filter (λ t. is_on slots s t && holds_slot t) threads))
  unfolding inherited
  heirs_on s [] = refl
  heirs_on s (t ∷ threads) =
      let left : List Thread = filter (λ u. is_on slots s u && holds_slot u) (map (inherited tid) threads) in
      ap (λ (on : Bool). cond (on && holds_slot (inherited tid t)) (inherited tid t ∷ left) left) (heir_on s t)
      ∙ heirs_cons t (is_on slots s t) (nat_eq t.id tid) (holds_slot t) left (filter (λ u. is_on slots s u && holds_slot u) threads) refl refl (heirs_on s threads)

  slot_of_child : (threads : List Thread) (s : ℕ) → seen_slot slots (map (inherited tid) threads) s ≡ slot_inherited tid (seen_slot slots threads s)
  slot_of_child threads s =
      let made : count_by (is_on slots s) (map (inherited tid) threads) ≡ count_by (is_on slots s) threads = count-map (is_on slots s) (inherited tid) threads ∙ count_agree (λ t. is_on slots s (inherited tid t)) (is_on slots s) (heir_on s) threads in
      λ j. record { made = made j; here = heirs_on s threads j }

  -- all slots of a child
  pub slots_of_child : (threads : List Thread) → by_index (seen_slot slots (map (inherited tid) threads)) slots ≡ map (slot_inherited tid) (by_index (seen_slot slots threads) slots)
  slots_of_child threads =
      ap (λ (f : ℕ → SeenSlot). by_index f slots) (fun_ext (slot_of_child threads))
      ∙ sym (map-map (slot_inherited tid) (seen_slot slots threads) (range_with_len 0 slots))
