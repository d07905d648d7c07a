-- The slots of a process after a change of the threads that are named, and after a key was deleted.
use Rattle.pct_names.proofs.Names.{◌&&◌, ◌-◌, ◌<◌, [], All, All-head, and_from, ap, arith, Bool, Broadcast, cases_lt, cond, false}
use Rattle.pct_names.proofs.Names.{false≢true, filter, has_valid_id, holds_slot, IfSome, inl, inr, is_ended_status, is_some, is_waiting_on}
use Rattle.pct_names.proofs.Names.{key_place, KeyValues, length, List, map, map-id, named_after, NamedAction, nat_eq, None, not, Option}
use Rattle.pct_names.proofs.Names.{option_and_then, option_map, option_map_or, refl, set-get_or, Signalled, slot_of, Some, subst, sym}
use Rattle.pct_names.proofs.Names.{Thread, true, unblocked, without_value, ◌||◌, ℕ, ◌∙◌, ◌∷◌, ◌≡◌, ◌≤◌}
use Rattle.std.proofs.Common.{mod-lt}
use Rattle.pct_model.specs.declared.transition.NamedAction.TheVariants as named_action
use Rattle.pct_threads.specs.Slots.{Held, Slot, unused, has_id, is_reclaimable, after_detach, after_change, with_change, freed}
use Rattle.pct_threads.specs.Tables.{slot_at, slot_named, held_at, is_reclaimable_at, on_slot}
use Rattle.pct_threads.proofs.TableLemmas.{within-occupied, occupied-test}
use Rattle.pct_keys.specs.Tables.{Table, row_at}
use Rattle.pct_engine_laws.specs.Seen.{SeenSlot}
use Rattle.pct_engine_laws.specs.SeenSteps.{thread_with}
use Rattle.pct_engine_laws.proofs.ThreadChanges.{unblocked_ended}
use Rattle.pct_process.specs.ThreadViews.{thread_of, threads_of, slot_view, with_specific}
use Rattle.pct_process.specs.ProcessViews.{with_row, slots_of, ProcessData}
use Rattle.pct_process.proofs.ViewedSlots.{own, length-slots_of, slot_here, thread_on_slot-is, thread_with-is}
use Rattle.pct_actions.specs.ProcessChanges.{IsOnSlot, AreOnSlots, JoinFits, NamedFits, forgotten_key}
use Rattle.pct_actions.specs.ProcessParts.{on_threads, slot_changed}
use Rattle.pct_actions.specs.SharedChanges.{forgotten, on_named, requested, woken_by, woken_from, named_on, NameFits}
use Rattle.pct_actions.proofs.ChangedSlots.{none_changed, none_leaves, one_changed}
use Rattle.pct_actions.proofs.TableSlots.{seen_at, changed_thread}

-- ---- a change of all threads

-- the slots after a change of each slot and of each row
all_with : (to : KeyValues → KeyValues) (change : Slot → Slot) (f : Thread → Thread)
    → ((row : KeyValues) (s : Slot) → with_row (to row) (slot_view (change s)) ≡ on_threads f (with_row row (slot_view s)))
    → (rows : List KeyValues) (threads : List Slot) → length rows ≡ length threads → slots_of (map to rows) (map change threads) ≡ map (on_threads f) (slots_of rows threads)
all_with to change f same rows [] fit = refl
all_with to change f same [] (s ∷ threads) fit = absurd (omega (arith, fit))
all_with to change f same (row ∷ rows) (s ∷ threads) fit =
    ap (λ (x : SeenSlot). x ∷ slots_of (map to rows) (map change threads)) (same row s)
    ∙ ap (λ (rest : List SeenSlot). on_threads f (with_row row (slot_view s)) ∷ rest) (all_with to change f same rows threads (omega (arith, fit)))

-- a slot where no thread keeps its value of a key that is deleted
forgotten_here : (place : ℕ) (row : KeyValues) (made : ℕ) (o : Option Held) → with_row (without_value place row) (record { made = made; here = threads_of o }) ≡ on_threads (λ t. record t { specific = without_value place t.specific }) (with_row row (record { made = made; here = threads_of o }))
forgotten_here place row made None = refl
forgotten_here place row made (Some h) = refl

-- all slots
pub key_forgotten : (k : ℕ) (rows : List KeyValues) (threads : List Slot) → length rows ≡ length threads → slots_of (map (without_value (key_place k)) rows) threads ≡ forgotten (Some k) (slots_of rows threads)
key_forgotten k rows threads fit =
    let place : ℕ = key_place k in
    ap (slots_of (map (without_value place) rows)) (sym (map-id threads))
    ∙ all_with (without_value place) (λ s. s) (λ t. record t { specific = without_value place t.specific }) (λ row s. forgotten_here place row s.made s.here) rows threads fit

-- a slot whose thread is unblocked by a broadcast, if it waits on a condition variable
broadcast_here : (c : ℕ) (row : KeyValues) (made : ℕ) (o : Option Held)
    → with_row row (record { made = made; here = threads_of (option_map (woken_from c) o) }) ≡ on_threads (named_after (Some (named_action.WakeAll c))) (with_row row (record { made = made; here = threads_of o }))
unfolding named_after
broadcast_here c row made None = refl
broadcast_here c row made (Some h) = λ i. record { made = made; here = by (is_waiting_on c h.thread.status) i } where
  by : (b : Bool) → with_specific row (thread_of (cond b (woken_by Broadcast h) h)) ∷ [] ≡ cond b (with_specific row (thread_of (woken_by Broadcast h))) (with_specific row (thread_of h)) ∷ []
  by true = refl
  by false = refl

-- a thread keeps its slot after it was unblocked
still_holds : (c : ℕ) (t : Thread) → holds_slot (named_after (Some (named_action.WakeAll c)) t) ≡ holds_slot t
unfolding named_after
still_holds c t = by (is_waiting_on c t.status) where
  by : (b : Bool) → holds_slot (cond b (record t { status = unblocked Broadcast t.status }) t) ≡ holds_slot t
  by true = ap (λ (e : Bool). not t.gone && not (e && (t.joined || t.detached))) (unblocked_ended Broadcast t.status)
  by false = refl

-- ---- a thread that is named

-- a thread that holds its slot, after an action that names it: it was joined, became detached, has a request pending, or was unblocked
module _ (row : KeyValues) (id : ℕ) (h : Held) (named : nat_eq h.id id ≡ true) (holds : holds_slot (thread_of h) ≡ true) where
  abbrev t : Thread
  t = with_specific row (thread_of h)

  live : has_valid_id id t ≡ true
  live = and_from (nat_eq h.id id) (holds_slot t) named holds

  joined_here : is_ended_status h.thread.status ≡ true → [] ≡ filter holds_slot (named_after (Some (named_action.EndJoin id)) t ∷ [])
  unfolding named_after
  joined_here ended =
      sym (ap (λ (b : Bool). filter holds_slot (cond b (record t { joined = true }) t ∷ [])) live ∙ ap (λ (e : Bool). cond (not (e && true)) (record t { joined = true } ∷ []) []) ended)

  detached_here : map (with_specific row) (threads_of (after_detach h)) ≡ filter holds_slot (named_after (Some (named_action.Detach id)) t ∷ [])
  unfolding named_after
  detached_here = by (is_ended_status h.thread.status) ∙ sym (ap (λ (b : Bool). filter holds_slot (cond b (record t { detached = true }) t ∷ [])) live) where
    by : (e : Bool) → map (with_specific row) (threads_of (cond e None (Some (record h { detached = true })))) ≡ cond (not (e && true)) (record t { detached = true } ∷ []) []
    by true = refl
    by false = refl

  requested_here : map (with_specific row) (thread_of (requested h) ∷ []) ≡ filter holds_slot (named_after (Some (named_action.Request id)) t ∷ [])
  unfolding named_after
  requested_here = by h.thread.ended ∙ sym (ap (λ (b : Bool). filter holds_slot (cond (b && not h.thread.ended) (record t { pending = true }) t ∷ [])) live) where
    by : (e : Bool) → map (with_specific row) (thread_of (cond e h (record h { thread = record h.thread { cancel = record h.thread.cancel { pending = true } } })) ∷ []) ≡ filter holds_slot (cond (not e) (record t { pending = true }) t ∷ [])
    by true = sym (ap (λ (b : Bool). cond b (t ∷ []) []) holds)
    by false = sym (ap (λ (b : Bool). cond b (record t { pending = true } ∷ []) []) holds)

  woken_here : map (with_specific row) (thread_of (woken_by Signalled h) ∷ []) ≡ filter holds_slot (named_after (Some (named_action.Wake id)) t ∷ [])
  unfolding named_after
  woken_here =
      sym (ap (λ (b : Bool). filter holds_slot (cond b (record t { status = unblocked Signalled t.status }) t ∷ [])) live
      ∙ ap (λ (e : Bool). cond (not (e && h.detached)) (record t { status = unblocked Signalled t.status } ∷ []) []) (unblocked_ended Signalled h.thread.status)
      ∙ ap (λ (b : Bool). cond b (record t { status = unblocked Signalled t.status } ∷ []) []) holds)

-- a table has the slot of each id, if it has a slot
no_slots : (id : ℕ) (rows : List KeyValues) (f : SeenSlot → SeenSlot) (threads : List Slot) → length threads ≤ slot_of (length threads) id → slots_of rows threads ≡ map f (slots_of rows threads)
no_slots id rows f [] past = refl
no_slots id rows f (s ∷ threads) past = let low : slot_of (length (s ∷ threads)) id < length (s ∷ threads) = mod-lt (id - 1) (omega arith) in absurd (omega (arith, past, low))

module _ (keys : Table) (threads : List Slot) (fit : length keys.rows ≡ length threads) (on : AreOnSlots (slots_of keys.rows threads)) where
  abbrev slots : List SeenSlot
  slots = slots_of keys.rows threads

  holds_here : (k : ℕ) (h : Held) → held_at threads k ≡ Some h → holds_slot (thread_of h) ≡ true
  holds_here k h here =
      let inside : k < length threads = within-occupied threads k (ap is_some here) in
      (All-head (IsOnSlot (length slots) k) (own keys threads fit k h) [] (subst (λ (ts : List Thread). All (IsOnSlot (length slots) k) ts) (ap (λ (o : Option Held). map (with_specific (row_at keys k)) (threads_of o)) here) (on k (seen_at keys threads fit k) (slot_here keys threads fit k inside)))).holds

  module _ (id : ℕ) where
    abbrev place : ℕ
    place = slot_of (length threads) id

    -- what a change makes of the thread with the id is what another makes of its data
    abbrev Named : (Slot → Slot) → (Thread → Thread) → Type 0
    Named change f = (h : Held) → held_at threads place ≡ Some h → nat_eq h.id id ≡ true → holds_slot (thread_of h) ≡ true → map (with_specific (row_at keys place)) (threads_of (change (slot_at threads place)).here) ≡ filter holds_slot (f (own keys threads fit place h) ∷ [])

    module _ (change : Slot → Slot) (f : Thread → Thread) (made : (change (slot_at threads place)).made ≡ (slot_at threads place).made) (others : (t : Thread) → nat_eq t.id id ≡ false → f t ≡ t) (named : Named change f) where
      here_is : (b : Bool) (o : Option Held) → held_at threads place ≡ o → option_map_or (λ h. nat_eq h.id id) o false ≡ b
          → map (with_specific (row_at keys place)) (threads_of (cond b (change (slot_at threads place)) (slot_at threads place)).here) ≡ filter holds_slot (map f (map (with_specific (row_at keys place)) (threads_of o)))
      here_is true None at has = absurd (false≢true has)
      here_is false None at has = ap (λ (o : Option Held). map (with_specific (row_at keys place)) (threads_of o)) at
      here_is true (Some h) at has = named h at has (holds_here place h at)
      here_is false (Some h) at has =
          let t : Thread = own keys threads fit place h in
          ap (λ (o : Option Held). map (with_specific (row_at keys place)) (threads_of o)) at
          ∙ sym (ap (λ (x : Thread). filter holds_slot (x ∷ [])) (others t has) ∙ ap (λ (b : Bool). cond b (t ∷ []) []) (holds_here place h at))

      made_is : (b : Bool) → (cond b (change (slot_at threads place)) (slot_at threads place)).made ≡ (slot_at threads place).made
      made_is true = made
      made_is false = refl

      -- the slots after the change, if a thread has the id
      changed_by : (b : Bool) → place < length threads → has_id id (slot_at threads place) ≡ b → slots_of keys.rows (on_slot place (λ s. cond b (change s) s) threads) ≡ map (slot_changed f) slots
      changed_by b inside has =
          changed_thread keys threads fit place (λ s. cond b (change s) s) (slot_changed f) inside (λ i. record { made = made_is b i; here = here_is b (held_at threads place) refl has i })
          ∙ one_changed slots on f id others place (seen_at keys threads fit place) (ap (λ (n : ℕ). slot_of n id) (sym (length-slots_of keys threads fit))) (slot_here keys threads fit place inside)

      by : (b : Bool) → has_id id (slot_at threads place) ≡ b → slots_of keys.rows (option_map_or (λ target. on_slot target change threads) (cond b (Some place) None) threads) ≡ map (slot_changed f) slots
      by true has = changed_by true (within-occupied threads place (occupied-test (λ h. nat_eq h.id id) (held_at threads place) has)) has
      by false has =
          elim (cases_lt place (length threads)) [
            | inl inside ↦ ap (slots_of keys.rows) (sym (set-get_or threads place unused)) ∙ changed_by false inside has
            | inr past ↦ no_slots id keys.rows (slot_changed f) threads past
          ]

      on_named_is : slots_of keys.rows (on_named id change threads) ≡ map (slot_changed f) slots
      on_named_is = by (has_id id (slot_at threads place)) refl

    -- a thread that was joined has ended
    ended_here : (tid : ℕ) → JoinFits tid id slots → (h : Held) → held_at threads place ≡ Some h → nat_eq h.id id ≡ true → is_ended_status h.thread.status ≡ true
    ended_here tid fits h here named =
        let inside : place < length threads = within-occupied threads place (ap is_some here) in
        let at : slot_named id threads ≡ Some place = ap (λ (b : Bool). cond b (Some place) None) (ap (λ (o : Option Held). option_map_or (λ x. nat_eq x.id id) o false) here ∙ named) in
        let found : thread_with (length slots) id slots ≡ Some (own keys threads fit place h) = thread_with-is keys threads fit id (Some place) (sym at) (omega (arith, inside))
        ∙ thread_on_slot-is keys threads fit place
        ∙ ap (option_map (own keys threads fit place)) here in
        subst (λ (o : Option Thread). IfSome o (λ t. is_ended_status t.status ≡ true)) found fits.1

    reclaimable_here : (tid : ℕ) → JoinFits tid id slots → IfSome (slot_named id threads) (λ target. is_reclaimable_at threads target ≡ true)
    reclaimable_here tid fits = by_has (has_id id (slot_at threads place)) refl where
      not_detached : (e d : Bool) → e ≡ true → not (e && d) ≡ true → not d ≡ true
      not_detached true d ended holds = holds
      not_detached false d ended holds = absurd (false≢true ended)

      ready : (o : Option Held) → held_at threads place ≡ o → option_map_or (λ h. nat_eq h.id id) o false ≡ true → option_map_or is_reclaimable o false ≡ true
      ready None at has = absurd (false≢true has)
      ready (Some h) at has =
          let ended = ended_here tid fits h at has in
          and_from (is_ended_status h.thread.status) (not h.detached) ended (not_detached (is_ended_status h.thread.status) h.detached ended (holds_here place h at))

      by_has : (b : Bool) → has_id id (slot_at threads place) ≡ b → IfSome (cond b (Some place) None) (λ target. is_reclaimable_at threads target ≡ true)
      by_has true has = ready (held_at threads place) refl has
      by_has false has = tt

-- ---- the action, where the table has forgotten the key that is deleted

module _ (keys : Table) (threads : List Slot) (fit : length keys.rows ≡ length threads) (tid : ℕ) (p : ProcessData) (before : AreOnSlots p.slots) where
  abbrev on : slots_of keys.rows threads ≡ p.slots → AreOnSlots (slots_of keys.rows threads)
  on same = subst AreOnSlots (sym same) before

  -- the action fits the table, if it fits the data
  pub name_fits : (a : Option NamedAction) → slots_of keys.rows threads ≡ forgotten (forgotten_key a) p.slots → NamedFits tid a p.slots → NameFits a threads
  name_fits (Some (named_action.EndJoin id)) same fits = reclaimable_here keys threads fit (on same) id tid (subst (JoinFits tid id) (sym same) fits)
  name_fits _ same fits = tt

  -- the slots after it
  pub named_is : (a : Option NamedAction) → slots_of keys.rows threads ≡ forgotten (forgotten_key a) p.slots → NamedFits tid a p.slots → slots_of keys.rows (named_on a threads) ≡ map (slot_changed (named_after a)) p.slots
  unfolding named_on named_after
  named_is (Some (named_action.EndJoin id)) same fits =
      on_named_is keys threads fit (on same) id freed (named_after (Some (named_action.EndJoin id))) refl
      (λ x other. ap (λ (b : Bool). cond (b && holds_slot x) (record x { joined = true }) x) other)
      (λ h here named holds. joined_here (row_at keys (slot_of (length threads) id)) id h named holds (ended_here keys threads fit (on same) id tid (subst (JoinFits tid id) (sym same) fits) h here named))
      ∙ ap (map (slot_changed (named_after (Some (named_action.EndJoin id))))) same
  named_is (Some (named_action.Request id)) same fits =
      let row : KeyValues = row_at keys (slot_of (length threads) id) in
      on_named_is keys threads fit (on same) id (with_change requested) (named_after (Some (named_action.Request id))) refl
      (λ x other. ap (λ (b : Bool). cond ((b && holds_slot x) && not x.ended) (record x { pending = true }) x) other)
      (λ h here named holds. ap (λ (o : Option Held). map (with_specific row) (threads_of (option_map requested o))) here ∙ requested_here row id h named holds)
      ∙ ap (map (slot_changed (named_after (Some (named_action.Request id))))) same
  named_is (Some (named_action.Detach id)) same fits =
      let row : KeyValues = row_at keys (slot_of (length threads) id) in
      on_named_is keys threads fit (on same) id (after_change after_detach) (named_after (Some (named_action.Detach id))) refl
      (λ x other. ap (λ (b : Bool). cond (b && holds_slot x) (record x { detached = true }) x) other)
      (λ h here named holds. ap (λ (o : Option Held). map (with_specific row) (threads_of (option_and_then after_detach o))) here ∙ detached_here row id h named holds)
      ∙ ap (map (slot_changed (named_after (Some (named_action.Detach id))))) same
  named_is (Some (named_action.Wake id)) same fits =
      let row : KeyValues = row_at keys (slot_of (length threads) id) in
      on_named_is keys threads fit (on same) id (with_change (woken_by Signalled)) (named_after (Some (named_action.Wake id))) refl
      (λ x other. ap (λ (b : Bool). cond (b && holds_slot x) (record x { status = unblocked Signalled x.status }) x) other)
      (λ h here named holds. ap (λ (o : Option Held). map (with_specific row) (threads_of (option_map (woken_by Signalled) o))) here ∙ woken_here row id h named holds)
      ∙ ap (map (slot_changed (named_after (Some (named_action.Wake id))))) same
  named_is (Some (named_action.WakeAll c)) same fits =
      ap (λ (rows : List KeyValues). slots_of rows (map (with_change (woken_from c)) threads)) (sym (map-id keys.rows))
      ∙ all_with (λ row. row) (with_change (woken_from c)) (named_after (Some (named_action.WakeAll c))) (λ row s. broadcast_here c row s.made s.here) keys.rows threads fit
      ∙ ap (map (on_threads (named_after (Some (named_action.WakeAll c))))) same
      ∙ none_leaves p.slots before (named_after (Some (named_action.WakeAll c))) (still_holds c)
  named_is (Some (named_action.ForgetKey k)) same fits = same ∙ none_leaves p.slots before (named_after (Some (named_action.ForgetKey k))) (λ t. refl)
  named_is _ same fits = same ∙ sym (none_changed p.slots before (λ t. t) (λ t. refl))
