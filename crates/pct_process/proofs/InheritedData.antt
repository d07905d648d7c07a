-- The data of a child process, from the tables of its parent.
use Rattle.pct_names.proofs.Names.{◌<◌, [], ap, arith, Bool, cases_eq, cond, get_or_from_slice_get, inl, inr, KeyValues, length, length-map}
use Rattle.pct_names.proofs.Names.{length-replicate, List, map, no_values, None, none-some, Option, option_map, refl, replica_of, replicate}
use Rattle.pct_names.proofs.Names.{cases_lt, false≢true, get_or_past, is_some, not, subst}
use Rattle.pct_names.proofs.Names.{same_lists, same_Some, Some, sym, Thread, true, ℕ, ◌∙◌, ◌∷◌, ◌≡◌}
use Rattle.std.proofs.Common.{length-set}
use Rattle.std.proofs.lemmas.Bool.{eq-eqb, ne_eqb}
use Rattle.std.proofs.lemmas.List.{get_or-map, get_or-set_same, get_or-set_other}
use Rattle.pct_threads.specs.declared.record.Thread.{Thread as Record}
use Rattle.pct_threads.specs.Slots.{Held, Slot, unused, is_occupied, freed, with_record, with_change}
use Rattle.pct_threads.specs.Tables.{slot_at, held_at, is_occupied_at, thread_at, on_held, replica_of as threads_copied}
use Rattle.pct_threads.proofs.TableLemmas.{within-occupied, length-on_slot, on_slot-then}
use Rattle.pct_keys.specs.Tables.{Table, row_at, no_row, replica_of as keys_copied}
use Rattle.pct_engine_laws.specs.Seen.{SeenSlot, slot_inherited}
use Rattle.pct_process.specs.ThreadViews.{thread_of, threads_of, slot_view, with_specific, record_inherited}
use Rattle.pct_process.specs.ProcessViews.{with_row, slots_of, thread_on_slot, HoldsOneSlot}
use Rattle.pct_process.specs.Standings.{standing_of, standing_on, is_unfinished, AreStandings, no_standings, with_standing}
use Rattle.pct_process.proofs.StandingsKept.{standings_none, standings_put-on_slot}
use Rattle.pct_process.proofs.ViewedSlots.{length-slots_of, slot_here, thread_on_slot-is}

-- ---- one slot

module _ (tid made : ℕ) (row : KeyValues) where
  abbrev with_threads : List Thread → SeenSlot
  with_threads threads = record { made = made; here = threads }

  abbrev id_of : Option Held → Option ℕ
  id_of o = option_map (λ (t : Thread). t.id) (option_map (λ (h : Held). with_specific row (thread_of h)) o)

  -- the slot of the thread with the id
  own_slot : (o : Option Held) (thread after : Record) → id_of o ≡ Some tid → option_map (λ h. h.thread) o ≡ Some thread → after ≡ record_inherited thread
      → with_row (record row { in_pass = no_values.in_pass }) (with_threads (threads_of (option_map (with_record after) o))) ≡ slot_inherited tid (with_row row (with_threads (threads_of o)))
  own_slot None thread after here record_is after_is = absurd (none-some tid here)
  own_slot (Some h) thread after here record_is after_is =
      let inherited : after ≡ record_inherited h.thread = after_is ∙ ap record_inherited (sym (same_Some h.thread thread record_is)) in
      ap (λ (r : Record). with_threads (with_specific (record row { in_pass = no_values.in_pass }) (thread_of (with_record r h)) ∷ [])) inherited
      ∙ sym (ap (λ (b : Bool). with_threads (map replica_of (cond b (with_specific row (thread_of h) ∷ []) []))) (eq-eqb h.id tid (same_Some h.id tid here)))

  -- another slot
  other_slot : (any : KeyValues) (o : Option Held) → (id_of o ≡ Some tid → ⊥) → with_row any (with_threads []) ≡ slot_inherited tid (with_row row (with_threads (threads_of o)))
  other_slot any None other = refl
  other_slot any (Some h) other =
      sym (ap (λ (b : Bool). with_threads (map replica_of (cond b (with_specific row (thread_of h) ∷ []) []))) (ne_eqb h.id tid (λ same. other (ap (λ (id : ℕ). Some id) same))))

-- ---- all slots

module _ (keys : Table) (threads : List Slot) (fit : length keys.rows ≡ length threads) (slot : ℕ) (occupied : is_occupied_at threads slot ≡ true) where
  abbrev copied : List Slot
  copied = threads_copied slot threads

  inside : slot < length threads
  inside = within-occupied threads slot occupied

  inside_freed : slot < length (map freed threads)
  inside_freed = omega (arith, inside, length-map threads freed)

  -- the slot has the thread of the parent
  copied_here : slot_at copied slot ≡ slot_at threads slot
  copied_here = get_or-set_same (map freed threads) slot (slot_at threads slot) unused inside_freed

  -- no other slot has a thread
  copied_other : (j : ℕ) → (j ≡ slot → ⊥) → j < length threads → slot_at copied j ≡ freed (slot_at threads j)
  copied_other j other low = get_or-set_other (map freed threads) slot j (slot_at threads slot) unused other ∙ get_or-map freed threads j unused unused low

  length-copied : length copied ≡ length threads
  length-copied = length-set (map freed threads) slot (slot_at threads slot) ∙ length-map threads freed

  pub is_occupied-copied : is_occupied_at copied slot ≡ true
  is_occupied-copied = ap is_occupied copied_here ∙ occupied

  module _ (after : Record) where
    abbrev child : List Slot
    child = on_held slot (with_record after) copied

    abbrev child_keys : Table
    child_keys = keys_copied slot keys

    length-child : length child ≡ length threads
    length-child = length-on_slot slot (with_change (with_record after)) copied ∙ length-copied

    rows : length child_keys.rows ≡ length keys.rows
    rows = length-set (replicate (length keys.rows) no_values) slot (record (row_at keys slot) { in_pass = no_values.in_pass }) ∙ length-replicate (length keys.rows) no_values

    -- each slot has a row
    pub child_fits : length child_keys.rows ≡ length child
    child_fits = rows ∙ fit ∙ sym length-child

    module _ (tid : ℕ) (own : HoldsOneSlot tid slot (slots_of keys.rows threads)) (thread : Record) (was : thread_at copied slot ≡ Some thread) (is : after ≡ record_inherited thread) where
      id_on : (j : ℕ) → option_map (λ (t : Thread). t.id) (thread_on_slot (slots_of keys.rows threads) j) ≡ id_of tid (slot_at threads j).made (row_at keys j) (held_at threads j)
      id_on j = ap (option_map (λ (t : Thread). t.id)) (thread_on_slot-is keys threads fit j)

      own_here : with_row (row_at child_keys slot) (slot_view (slot_at child slot)) ≡ slot_inherited tid (with_row (row_at keys slot) (slot_view (slot_at threads slot)))
      own_here =
          let row : row_at child_keys slot ≡ record (row_at keys slot) { in_pass = no_values.in_pass } = get_or-set_same (replicate (length keys.rows) no_values) slot (record (row_at keys slot) { in_pass = no_values.in_pass }) no_row (omega (arith, inside, fit, length-replicate (length keys.rows) no_values)) in
          let here : slot_at child slot ≡ with_change (with_record after) (slot_at threads slot) =
          get_or-set_same copied slot (with_change (with_record after) (slot_at copied slot)) unused (omega (arith, inside, length-copied)) ∙ ap (with_change (with_record after)) copied_here in
          (λ i. with_row (row i) (slot_view (here i)))
          ∙ own_slot tid (slot_at threads slot).made (row_at keys slot) (held_at threads slot) thread after (sym (id_on slot) ∙ own.here) (sym (ap (λ (s : Slot). option_map (λ h. h.thread) s.here) copied_here) ∙ was) is

      other_here : (j : ℕ) → (j ≡ slot → ⊥) → j < length threads → with_row (row_at child_keys j) (slot_view (slot_at child j)) ≡ slot_inherited tid (with_row (row_at keys j) (slot_view (slot_at threads j)))
      other_here j other low =
          let here : slot_at child j ≡ freed (slot_at threads j) = get_or-set_other copied slot j (with_change (with_record after) (slot_at copied slot)) unused other ∙ copied_other j other low in
          ap (λ (s : Slot). with_row (row_at child_keys j) (slot_view s)) here
          ∙ other_slot tid (slot_at threads j).made (row_at keys j) (row_at child_keys j) (held_at threads j) (λ same. other (own.alone j (id_on j ∙ same)))

      -- the slots of the child are those of its parent, as it inherits them
      pub slots-inherited : slots_of child_keys.rows child ≡ map (slot_inherited tid) (slots_of keys.rows threads)
      slots-inherited =
          let seen : List SeenSlot = slots_of keys.rows threads in
          let few : length (slots_of child_keys.rows child) ≡ length threads = length-slots_of child_keys child child_fits ∙ length-child in
          same_lists _ _ (few ∙ sym (length-slots_of keys threads fit) ∙ sym (length-map seen (slot_inherited tid)))
          (λ j d low.
          let inside_j : j < length threads = omega (arith, low, few) in
          let of_parent = get_or-map (slot_inherited tid) seen j d d (omega (arith, inside_j, length-slots_of keys threads fit)) ∙ ap (slot_inherited tid) (get_or_from_slice_get seen j _ d (slot_here keys threads fit j inside_j)) in
          get_or_from_slice_get (slots_of child_keys.rows child) j _ d (slot_here child_keys child child_fits j (omega (arith, inside_j, length-child)))
          ∙ elim (cases_eq j slot) [
            | inl same ↦ rw same own_here
            | inr other ↦ other_here j other inside_j
          ]
          ∙ sym of_parent)

-- how the thread of the child stands: it has not ended
module _ (threads : List Slot) (slot : ℕ) (occupied : is_occupied_at threads slot ≡ true) (thread after : Record) (was : thread_at (threads_copied slot threads) slot ≡ Some thread) (is : after ≡ record_inherited thread) where
  abbrev replica : Slot → Slot
  replica s = with_change (with_record after) (slot_at threads slot)

  freed_here : (k : ℕ) → held_at (map freed threads) k ≡ None
  freed_here k = elim (cases_lt k (length threads)) [
    | inl low ↦ ap (λ (s : Slot). s.here) (get_or-map freed threads k unused unused low)
    | inr past ↦ ap (λ (s : Slot). s.here) (get_or_past (map freed threads) k unused (omega (arith, past, length-map threads freed)))
  ]

  replica_stands : (o : Option Held) → is_some o ≡ true → standing_of after.status ≡ standing_on (option_map (with_record after) o)
  replica_stands None some = absurd (false≢true some)
  replica_stands (Some h) some = refl

  replica_left : (o : Option Held) → is_some o ≡ true → true ≡ is_unfinished (option_map (with_record after) o)
  replica_left None some = absurd (false≢true some)
  replica_left (Some h) some = sym (ap (λ (r : Record). not r.ended) is)

  pub standings-inherited : slot < 64 → AreStandings (with_standing slot (standing_of after.status) true no_standings) (on_held slot (with_record after) (threads_copied slot threads))
  standings-inherited small =
      let low : slot < length (map freed threads) = omega (arith, within-occupied threads slot occupied, length-map threads freed) in
      subst (λ (table : List Slot). AreStandings (with_standing slot (standing_of after.status) true no_standings) table)
      (sym (on_slot-then slot (λ s. slot_at threads slot) (with_change (with_record after)) (map freed threads)))
      (standings_put-on_slot no_standings (map freed threads) (standings_none (map freed threads) (λ k inside. freed_here k)) slot low replica small (standing_of after.status) true (replica_stands (held_at threads slot) occupied) (replica_left (held_at threads slot) occupied))
