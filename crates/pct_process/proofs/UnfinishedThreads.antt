-- Whether each thread but one has ended, by a scan of the slots whose threads have not ended.
use Rattle.pct_names.proofs.Names.{◌≡◌, ◌≤◌, ◌∙◌, [], ap, Bool, cases_Bool, false, false≢true, inl, inr, length, List, list_all, arith, nat_eq, None}
use Rattle.pct_names.proofs.Names.{none-some, not, Option, option_map, refl, same_Some, Some, sym, true, ℕ, ◌||◌, list_all_at}
use Rattle.std.proofs.lemmas.List.Sums.{list_all-from_AllPass}
use Rattle.std.proofs.lemmas.List.{get_or_default}
use Rattle.pct_set.specs.Slots.{slots_where, has_slot}
use Rattle.pct_set.proofs.SlotLemmas.{has_where}
use Rattle.pct_threads.specs.declared.record.Place.{Place}
use Rattle.pct_threads.specs.Slots.{Held, Slot, unused, place_of}
use Rattle.pct_threads.specs.Tables.{held_at, is_occupied_at}
use Rattle.pct_threads.proofs.TableLemmas.{occupied-test, within-occupied}
use Rattle.pct_process.specs.ThreadViews.{has_no_other}
use Rattle.pct_process.specs.Standings.{is_unfinished}

-- the thread on slot k has not ended, and has another id
abbrev pub is_another : ℕ → List Slot → ℕ → Bool
is_another tid threads k = not (has_no_other tid (held_at threads k))

-- the thread on slot k has not ended
abbrev pub is_left : List Slot → ℕ → Bool
is_left threads k = is_unfinished (held_at threads k)

module _ (tid : ℕ) where
  -- such a thread has not ended
  pub left_there : (o : Option Held) → not (has_no_other tid o) ≡ true → is_unfinished o ≡ true
  left_there None passes = passes
  left_there (Some h) passes = by h.thread.ended passes where
    by : (b : Bool) → not (b || nat_eq h.id tid) ≡ true → not b ≡ true
    by true passes = passes
    by false passes = refl

  -- whether one that has not ended is such a thread
  pub id_told : (o : Option Held) (place : Place) → option_map place_of o ≡ Some place → is_unfinished o ≡ true → nat_eq place.id tid ≡ has_no_other tid o
  id_told None place is left = absurd (none-some place is)
  id_told (Some h) place is left = ap (λ (p : Place). nat_eq p.id tid) (sym (same_Some (place_of h) place is)) ∙ by h.thread.ended left where
    by : (b : Bool) → not b ≡ true → nat_eq h.id tid ≡ (b || nat_eq h.id tid)
    by true left = absurd (false≢true left)
    by false left = refl

  module _ (threads : List Slot) where
    -- a thread that has not ended holds its slot
    pub left_held : (k : ℕ) → is_left threads k ≡ true → is_occupied_at threads k ≡ true
    left_held k left = occupied-test (λ h. not h.thread.ended) (held_at threads k) left

    -- there is such a thread
    pub not_last : (k : ℕ) → is_left threads k ≡ true → has_no_other tid (held_at threads k) ≡ false → false ≡ list_all (λ s. has_no_other tid s.here) threads
    not_last k left fails = sym (list_all_at (λ s. has_no_other tid s.here) threads k unused (within-occupied threads k (left_held k left)) fails)

    -- there is none
    pub last : length threads ≤ 64 → [] ≡ slots_where (is_another tid threads) → true ≡ list_all (λ s. has_no_other tid s.here) threads
    unfolding has_slot
    last few none =
        sym (list_all-from_AllPass (λ s. has_no_other tid s.here) threads (λ k d inside. elim (cases_Bool (has_no_other tid (held_at threads k))) [
          | inl passes ↦ ap (λ (s : Slot). has_no_other tid s.here) (get_or_default threads k d unused inside) ∙ passes
          | inr fails ↦ absurd (false≢true (ap (λ (set : List ℕ). has_slot set k) none ∙ has_where (is_another tid threads) k (omega (arith, inside, few)) ∙ ap not fails))
        ]))
