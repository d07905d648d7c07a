-- Whether each thread but one has ended, read from the tables of a process.
use Rattle.pct_names.proofs.Names.{◌&&◌, [], arith, Bool, KeyValues, length, List, list_all, list_all-append, map, nat_eq, None, Option}
use Rattle.pct_names.proofs.Names.{refl, Some, sym, Thread, ◌||◌, ℕ, ◌∙◌, ◌∷◌, ◌≡◌}
use mathlib.Core.Bool.{and-true}
use Rattle.pct_threads.specs.Slots.{Held, Slot}
use Rattle.pct_engine_laws.specs.Seen.{threads_on, is_last_in}
use Rattle.pct_process.specs.ThreadViews.{threads_of, with_specific, has_no_other}
use Rattle.pct_process.specs.ProcessViews.{slots_of}

module _ (tid : ℕ) where
  abbrev is_no_other : Thread → Bool
  is_no_other t = t.ended || nat_eq t.id tid

  no_other_here : (row : KeyValues) (o : Option Held) → list_all is_no_other (map (with_specific row) (threads_of o)) ≡ has_no_other tid o
  no_other_here row None = refl
  no_other_here row (Some h) = and-true (h.thread.ended || nat_eq h.id tid)

  -- each other thread has ended
  pub last_read : (rows : List KeyValues) (threads : List Slot) → length rows ≡ length threads → list_all (λ s. has_no_other tid s.here) threads ≡ is_last_in tid (slots_of rows threads)
  last_read rows [] fit = refl
  last_read [] (s ∷ threads) fit = absurd (omega (arith, fit))
  last_read (row ∷ rows) (s ∷ threads) fit =
      (λ i. sym (no_other_here row s.here) i && last_read rows threads (omega (arith, fit)) i)
      ∙ sym (list_all-append is_no_other (map (with_specific row) (threads_of s.here)) (threads_on (slots_of rows threads)))
