-- The threads that are ready, slot by slot.
use Rattle.pct_names.proofs.Names.{◌+◌, ◌++◌, ◌<◌, [], All, ap, arith, Bool, cases_lt, cond, drop, drop_all, drop_more, false, false≢true}
use Rattle.pct_names.proofs.Names.{filter, get_or_past, inl, inr, is_some, length, List, map, None, Option, option_map_or, range_with_len}
use Rattle.pct_names.proofs.Names.{refl, slice_get, Some, suc, sym, Thread, true, zero, ℕ, ◌∙◌, ◌∷◌, ◌≡◌, ◌≤◌}
use Rattle.std.specs.Option.{option_to_list}
use Rattle.pct_set.specs.Slots.{slots_where, with_slot, without_slot}
use Rattle.pct_set.proofs.SlotScans.{Scans, scan_ended, scan_more, scan_there}
use Rattle.pct_engine_laws.specs.Seen.{SeenSlot, threads_on}
use Rattle.pct_process.specs.ProcessViews.{first_of, thread_on_slot}

-- an item of an option passes by what is known of it
pub passes_by : (b : Bool) (ready : Thread → Bool) (o : Option Thread) → is_some o ≡ true → ((t : Thread) → o ≡ Some t → b ≡ ready t) → b ≡ option_map_or ready o false
passes_by b ready None some is = absurd (false≢true some)
passes_by b ready (Some t) some is = is t refl

-- one that passes is there
pub some_by : (ready : Thread → Bool) (o : Option Thread) → option_map_or ready o false ≡ true → is_some o ≡ true
some_by ready None passes = absurd (false≢true passes)
some_by ready (Some t) passes = refl

module _ (ready : Thread → Bool) (slots : List SeenSlot) where
  -- the thread on a slot is ready; a free slot has no thread
  abbrev pub is_ready_on : ℕ → Bool
  is_ready_on k = option_map_or ready (thread_on_slot slots k) false

  -- a thread holds a slot
  abbrev pub is_held : ℕ → Bool
  is_held k = is_some (thread_on_slot slots k)

  -- no thread is on a slot past the last one
  none_past : (s : ℕ) → length slots ≤ s → is_ready_on s ≡ false
  none_past s past = ap (λ (row : SeenSlot). option_map_or ready (first_of row.here) false) (get_or_past slots s _ past)

  -- the threads on some slots
  abbrev on_slots : List ℕ → List (Option Thread)
  on_slots set = map (thread_on_slot slots) set

  -- one slot more, with the threads that are ready on the slots after it
  one_more : (s : ℕ) (rest : List ℕ) (o : Option Thread) (others : List Thread) → thread_on_slot slots s ≡ o → on_slots rest ≡ map (λ t. Some t) (filter ready others)
      → on_slots (cond (option_map_or ready o false) (s ∷ rest) rest) ≡ map (λ t. Some t) (filter ready (option_to_list o ++ others))
  one_more s rest None others here more = more
  one_more s rest (Some t) others here more = either (ready t) where
    either : (b : Bool) → on_slots (cond b (s ∷ rest) rest) ≡ map (λ t. Some t) (cond b (t ∷ filter ready others) (filter ready others))
    either true = ap (λ o. o ∷ on_slots rest) here ∙ ap (λ os. Some t ∷ os) more
    either false = more

  all_past : (s k : ℕ) → length slots ≤ s → on_slots (filter is_ready_on (range_with_len s k)) ≡ []
  all_past s zero past = refl
  all_past s (suc k) past =
      ap (λ b. on_slots (cond b (s ∷ filter is_ready_on (range_with_len (s + 1) k)) (filter is_ready_on (range_with_len (s + 1) k)))) (none_past s past)
      ∙ all_past (s + 1) k (omega (arith, past))

  one_listed : (here : List Thread) → length here ≤ 1 → option_to_list (first_of here) ≡ here
  one_listed [] few = refl
  one_listed (t ∷ []) few = refl
  one_listed (t ∷ u ∷ rest) few = absurd (omega (arith, few))

  module _ (single : All (λ (s : SeenSlot). length s.here ≤ 1) slots) where
    -- the threads on a slot and on those after it
    threads_from : (s : ℕ) → s < length slots → option_to_list (thread_on_slot slots s) ++ threads_on (drop (s + 1) slots) ≡ threads_on (drop s slots)
    threads_from s inside =
        ap (λ (ts : List Thread). ts ++ threads_on (drop (s + 1) slots)) (one_listed _ (single s _ inside))
        ∙ sym (ap threads_on (drop_more slots s _ inside))

    -- the threads that are ready on the slots from one on
    ready_from : (s k : ℕ) → length slots ≤ s + k → on_slots (filter is_ready_on (range_with_len s k)) ≡ map (λ t. Some t) (filter ready (threads_on (drop s slots)))
    ready_from s zero within = ap (λ (rows : List SeenSlot). map (λ t. Some t) (filter ready (threads_on rows))) (sym (drop_all s slots (omega (arith, within))))
    ready_from s (suc k) within =
        elim (cases_lt s (length slots)) [
          | inl inside ↦
              one_more s (filter is_ready_on (range_with_len (s + 1) k)) (thread_on_slot slots s) (threads_on (drop (s + 1) slots)) refl (ready_from (s + 1) k (omega (arith, within)))
              ∙ ap (λ (ts : List Thread). map (λ t. Some t) (filter ready ts)) (threads_from s inside)
          | inr past ↦ all_past s (suc k) past ∙ ap (λ (rows : List SeenSlot). map (λ t. Some t) (filter ready (threads_on rows))) (sym (drop_all s slots past))
        ]

    -- the threads on the slots whose threads are ready
    pub ready_on_slots : length slots ≤ 64 → on_slots (slots_where is_ready_on) ≡ map (λ t. Some t) (filter ready (threads_on slots))
    unfolding slots_where
    ready_on_slots few = ready_from 0 64 few

    -- a scan that asks the threads ends with those that are ready
    pub asking_ended : (rest taken : List ℕ) → length slots ≤ 64 → Scans is_ready_on is_held rest taken → None ≡ slice_get rest 0 → on_slots taken ≡ map (λ t. Some t) (filter ready (threads_on slots))
    asking_ended rest taken few scans none = ap on_slots (scan_ended is_ready_on is_held rest taken scans none) ∙ ready_on_slots few

  -- it goes on with the first slot, whose thread is asked
  pub asking_more : (rest taken : List ℕ) (scans : Scans is_ready_on is_held rest taken) (slot : ℕ) (first : Some slot ≡ slice_get rest 0) (small : slot < 64) (left : List ℕ) → left ≡ without_slot slot rest
      → (answer : Bool) → ((t : Thread) → thread_on_slot slots slot ≡ Some t → answer ≡ ready t) → (after : List ℕ) (b : Bool) → b ≡ answer → after ≡ cond b (with_slot slot taken) taken → Scans is_ready_on is_held left after
  asking_more rest taken scans slot first small left is answer asked after b same next =
      scan_more is_ready_on is_held rest taken scans slot first small left is after b
      (same ∙ passes_by answer ready (thread_on_slot slots slot) (scan_there is_ready_on is_held rest taken scans slot first small) asked) next
