-- The entry of a thread by a choice that it has is legal.
use Rattle.pct_names.proofs.Names.{◌%◌, Alt, and_from, ap, cond, Config, Entry, false, Family, has_timeouts, is_some, item_at, length}
use Rattle.pct_names.proofs.Names.{List, nat_eq, None, not, option_and_then, refl}
use Rattle.pct_names.proofs.Names.{Script, slice_get, Some, sym, Thread, true, ℕ, ◌∙◌, ◌≡◌}
use Rattle.std.proofs.lemmas.Bool.{eq-eqb}
use Rattle.pct_engine_laws.specs.Seen.{SeenProcess, is_live_seen}
use Rattle.pct_engine_laws.specs.SeenSteps.{thread_with, choices_in, transition_in, if_offered_in}
use Rattle.pct_process.specs.ProcessViews.{thread_on_slot}
use Rattle.pct_transitions.proofs.NumberedChoices.{offers-item}
use Rattle.pct_place.specs.ProcessSteps.{CanStep, taken_in, takes_in}
use Rattle.pct_place.proofs.HeldSlots.{held_by}

module _ (script : Script) (config : Config) (family : Family) (p : SeenProcess) (k worker b : ℕ) (t : Thread) (can : CanStep config.slots p) (at : thread_on_slot p.slots k ≡ Some t) (live : is_some p.ended ≡ false) where
  abbrev choices : ℕ → List Alt
  choices slots = choices_in script (has_timeouts config.format) slots family p t

  -- its entry by a choice that it has
  abbrev entry_by : Alt → Entry
  entry_by c = record { worker = worker; pid = p.pid; tid = t.id; alt = c }

  by_item : (n : ℕ) (c : Alt) → slice_get (choices config.slots) n ≡ Some c → takes_in script config family (entry_by c) p ≡ true
  by_item n c item =
      and_from (is_live_seen p.pid p) (is_some (taken_in script config family p (entry_by c))) (and_from (nat_eq p.pid p.pid) (not (is_some p.ended)) (eq-eqb p.pid p.pid refl) (ap not live))
      (ap is_some (
      ap (option_and_then (if_offered_in script (has_timeouts config.format) config.slots config.passes family p (entry_by c))) (ap (λ (n : ℕ). thread_with n t.id p.slots) (sym can.all) ∙ (held_by p.slots can.on_slots k t at).1)
      ∙ ap (λ y. cond y (Some (transition_in script (has_timeouts config.format) config.slots config.passes family p t c)) None) (offers-item (choices config.slots) n c item)))

  -- the entry that a number chooses is taken
  pub chosen_is_taken : (c : Alt) → Some c ≡ item_at (choices (length p.slots)) b → takes_in script config family (entry_by c) p ≡ true
  chosen_is_taken c is = by_item (b % length (choices config.slots)) c (sym (is ∙ ap (λ (n : ℕ). item_at (choices n) b) can.all))
