-- How the slots of a table stand after a change of one of them, and the standings of a process after it.
use Rattle.pct_names.proofs.Names.{◌&&◌, ◌<◌, ap, Bool, cases_eq, cond, Frame, IfSome, inl, inr, false, false≢true, is_ended_status, is_some, length, List, None, none-some, not, Option, option_and_then, option_map, refl, Running, same_Some, set-get_or, slice_set}
use Rattle.pct_names.proofs.Names.{Some, Status, subst, sym, true, ℕ, ◌∙◌, ◌≡◌}
use Rattle.std.specs.Prelude.{IfNone}
use Rattle.std.proofs.lemmas.List.{get_or-set_same, get_or-set_other}
use Rattle.pct_model.specs.declared.state.Status.TheVariants as status
use Rattle.pct_threads.specs.declared.record.Thread.{Thread as Record}
use Rattle.pct_threads.specs.Records.{new_record}
use Rattle.pct_threads.specs.Slots.{Held, Slot, unused, after_change, after_detach, created, freed, unless_reclaimed, with_change, with_record}
use Rattle.pct_threads.specs.Tables.{slot_at, held_at, is_occupied_at, next_id_at, on_held, on_slot, thread_at, with_created, with_detach}
use Rattle.pct_threads.proofs.TableLemmas.{within-occupied}
use Rattle.pct_process.specs.declared.standings.Standing.{Standing}
use Rattle.pct_process.specs.declared.standings.Standing.TheVariants as standing
use Rattle.pct_process.specs.Standings.{standing_of, standing_on, with_standing, AreStandings, StandingsValue}
use Rattle.pct_process.proofs.StandingsKept.{changed_stands, same_stands, standings_kept, standings_kept-on_slot, standings_put, StandsAs}
use Rattle.pct_actions.specs.declared.stand.Stand.{Stand}
use Rattle.pct_actions.specs.OwnChanges.{on_frames}
use Rattle.pct_actions.specs.SharedChanges.{requested}
use Rattle.pct_actions.specs.Stands.{stand_at, stand_by, stand_of, with_stand, TellsStand}

-- a slot after a change
here_after : (slot : ℕ) (change : Slot → Slot) (old : List Slot) → slot < length old → held_at (on_slot slot change old) slot ≡ (change (slot_at old slot)).here
here_after slot change old inside = ap (λ (s : Slot). s.here) (get_or-set_same old slot (change (slot_at old slot)) unused inside)

-- one whose thread has another record
pub stand_recorded : (slot : ℕ) (kept : Record) (threads : List Slot) → is_occupied_at threads slot ≡ true → stand_by kept ≡ stand_at (on_held slot (with_record kept) threads) slot
stand_recorded slot kept threads occupied = by (held_at threads slot) occupied ∙ sym (ap stand_of (here_after slot (with_change (with_record kept)) threads (within-occupied threads slot occupied))) where
  by : (o : Option Held) → is_some o ≡ true → stand_by kept ≡ stand_of (option_map (with_record kept) o)
  by None some = absurd (false≢true some)
  by (Some h) some = refl

-- what is told of it: its thread ran, and runs with the other record, or how it stands
pub told_recorded : (slot : ℕ) (was kept : Record) (threads : List Slot) (ran : Bool) (told : Option Stand) → is_occupied_at threads slot ≡ true → thread_at threads slot ≡ Some was → (ran ≡ true → was.status ≡ Running) → (kept.status ≡ Running → kept.ended ≡ was.ended)
    → IfNone told ((ran ≡ true) × (kept.status ≡ Running)) → IfSome told (λ stand. stand ≡ stand_by kept) → TellsStand told (stand_at threads slot) (stand_at (on_held slot (with_record kept) threads) slot)
told_recorded slot was kept threads ran (Some stand) occupied here running ends none some = some ∙ stand_recorded slot kept threads occupied
told_recorded slot was kept threads ran None occupied here running ends none some =
    let now : stand_at (on_held slot (with_record kept) threads) slot ≡ stand_by kept = sym (stand_recorded slot kept threads occupied) in
    let same : stand_by kept ≡ stand_by was = λ i. record { standing = standing_of ((none.1 ∙ sym (running none.0)) i); unfinished = not (ends none.1 i) } in
    (now ∙ same ∙ sym (by (held_at threads slot) here), ap (λ (s : Stand). s.standing) now ∙ ap standing_of none.1)
  where
    by : (o : Option Held) → option_map (λ (h : Held). h.thread) o ≡ Some was → stand_of o ≡ stand_by was
    by None is = absurd (none-some was is)
    by (Some h) is = ap stand_by (same_Some h.thread was is)

-- one whose thread has other frames
pub stand_framed : (slot : ℕ) (change : List Frame → List Frame) (threads new : List Slot) → is_occupied_at threads slot ≡ true → new ≡ on_frames slot change threads → stand_at new slot ≡ stand_at threads slot
stand_framed slot change threads new occupied changed =
    ap (λ (slots : List Slot). stand_at slots slot) changed
    ∙ ap stand_of (here_after slot (with_change (λ h. record h { frames = change h.frames })) threads (within-occupied threads slot occupied))
    ∙ by (held_at threads slot)
  where
    by : (o : Option Held) → stand_of (option_map (λ (h : Held). record h { frames = change h.frames }) o) ≡ stand_of o
    by None = refl
    by (Some h) = refl

-- one whose thread stands in none of the ways is not given back
pub not_reclaimed : (slot : ℕ) (threads : List Slot) → (stand_at threads slot).standing ≡ standing.Other → threads ≡ on_slot slot (after_change unless_reclaimed) threads
not_reclaimed slot threads stands = sym (ap (λ (o : Option Held). slice_set threads slot (record (slot_at threads slot) { here = o })) (by (held_at threads slot) stands) ∙ set-get_or threads slot unused) where
  is_other : Standing → Bool
  is_other standing.Other = true
  is_other _ = false

  has_not_ended : (s : Status) → standing_of s ≡ standing.Other → is_ended_status s ≡ false
  has_not_ended (status.Ended value) is = absurd (false≢true (ap is_other is))
  has_not_ended _ is = refl

  by : (o : Option Held) → standing_on o ≡ standing.Other → option_and_then unless_reclaimed o ≡ o
  by None is = refl
  by (Some h) is = ap (λ (b : Bool). cond (b && h.detached) None (Some h)) (has_not_ended h.thread.status is)

-- a request changes nothing of how a thread stands
requested_status : (b : Bool) (h : Held) → (cond b h (record h { thread = record h.thread { cancel = record h.thread.cancel { pending = true } } })).thread.status ≡ h.thread.status
requested_status true h = refl
requested_status false h = refl

requested_ended : (b : Bool) (h : Held) → (cond b h (record h { thread = record h.thread { cancel = record h.thread.cancel { pending = true } } })).thread.ended ≡ h.thread.ended
requested_ended true h = refl
requested_ended false h = refl

module _ (v : StandingsValue) (old : List Slot) (were : AreStandings v old) (slot : ℕ) (new : List Slot) where
  elsewhere : (change : Slot → Slot) → new ≡ on_slot slot change old → (k : ℕ) → (k ≡ slot → ⊥) → held_at old k ≡ held_at new k
  elsewhere change changed k other = sym (ap (λ (threads : List Slot). held_at threads k) changed ∙ ap (λ (s : Slot). s.here) (get_or-set_other old slot k (change (slot_at old slot)) unused other))

  -- the standings after the change of a slot, once it was written how the slot stands
  pub standings_after : (change : Slot → Slot) (stand : Stand) → slot < 64 → new ≡ on_slot slot change old → stand ≡ stand_at new slot → (after : StandingsValue) → after ≡ with_standing slot stand.standing stand.unfinished v → AreStandings after new
  standings_after change stand small changed stands after put =
      subst (λ (x : StandingsValue). AreStandings x new) (sym put)
      (standings_put v old new were slot small
      (λ k low other. same_stands _ _ (elsewhere change changed k other))
      stand.standing stand.unfinished (ap (λ (s : Stand). s.standing) stands) (ap (λ (s : Stand). s.unfinished) stands))

  -- or once it was told how
  pub standings_told : (change : Slot → Slot) (told : Option Stand) → slot < 64 → new ≡ on_slot slot change old → TellsStand told (stand_at old slot) (stand_at new slot) → (after : StandingsValue) → after ≡ with_stand slot told v → AreStandings after new
  standings_told change (Some stand) small changed stands after put = standings_after change stand small changed stands after put
  standings_told change None small changed stands after put =
      subst (λ (x : StandingsValue). AreStandings x new) (sym put)
      (standings_kept v old new were (λ k low. elim (cases_eq k slot) [
        | inl at ↦
            subst (λ (j : ℕ). StandsAs (held_at old j) (held_at new j)) (sym at)
            (record { standing = ap (λ (s : Stand). s.standing) (sym stands.0); unfinished = ap (λ (s : Stand). s.unfinished) (sym stands.0) })
        | inr other ↦ same_stands _ _ (elsewhere change changed k other)
      ]))

  -- a slot that was given back
  pub standings_freed : (change : Slot → Slot) → slot < 64 → new ≡ on_slot slot change old → is_occupied_at new slot ≡ false → (after : StandingsValue) → after ≡ with_standing slot standing.Other false v → AreStandings after new
  standings_freed change small changed free = standings_after change (stand_of None) small changed (by (held_at new slot) free) where
    by : (o : Option Held) → is_some o ≡ false → stand_of None ≡ stand_of o
    by None none = refl
    by (Some h) none = absurd (false≢true (sym none))

  -- one that was reclaimed
  pub standings_reclaimed : slot < 64 → is_occupied_at old slot ≡ true → new ≡ on_slot slot freed old → (after : StandingsValue) → after ≡ with_standing slot standing.Other false v → AreStandings after new
  standings_reclaimed small occupied changed = standings_freed freed small changed (ap (λ (threads : List Slot). is_occupied_at threads slot) changed ∙ ap (λ (o : Option Held). is_some o) (here_after slot freed old (within-occupied old slot occupied)))

  -- one on which a thread was created
  pub standings_created : (func arg : ℕ) (detached : Bool) → slot < 64 → slot < length old → new ≡ with_created slot func arg detached old → (after : StandingsValue) → after ≡ with_standing slot standing.Other true v → AreStandings after new
  standings_created func arg detached small inside changed =
      let change : Slot → Slot = created (next_id_at old slot) func arg detached in
      standings_after change (stand_by new_record) small changed (sym (ap (λ (threads : List Slot). stand_at threads slot) changed ∙ ap stand_of (here_after slot change old inside)))

  -- a request
  pub standings_requested : is_occupied_at old slot ≡ true → new ≡ on_held slot requested old → AreStandings v new
  standings_requested occupied changed =
      subst (AreStandings v) (sym changed)
      (standings_kept-on_slot v old were slot (within-occupied old slot occupied) (with_change requested)
      (changed_stands requested (λ h. requested_status h.thread.ended h) (λ h. requested_ended h.thread.ended h) (held_at old slot)))

  -- a thread that was detached, and still holds its slot
  pub standings_detached : is_occupied_at old slot ≡ true → new ≡ with_detach slot old → is_occupied_at new slot ≡ true → AreStandings v new
  standings_detached occupied changed held =
      subst (AreStandings v) (sym changed) (standings_kept-on_slot v old were slot (within-occupied old slot occupied) (after_change after_detach) (by (held_at old slot) still))
    where
      still : is_some (option_and_then after_detach (held_at old slot)) ≡ true
      still = ap (λ (o : Option Held). is_some o) (sym (here_after slot (after_change after_detach) old (within-occupied old slot occupied))) ∙ ap (λ (threads : List Slot). is_occupied_at threads slot) (sym changed) ∙ held

      either : (b : Bool) (h : Held) → is_some (cond b None (Some (record h { detached = true }))) ≡ true → StandsAs (Some h) (cond b None (Some (record h { detached = true })))
      either true h some = absurd (false≢true some)
      either false h some = record { standing = refl; unfinished = refl }

      by : (o : Option Held) → is_some (option_and_then after_detach o) ≡ true → StandsAs o (option_and_then after_detach o)
      by None some = absurd (false≢true some)
      by (Some h) some = either (is_ended_status h.thread.status) h some
