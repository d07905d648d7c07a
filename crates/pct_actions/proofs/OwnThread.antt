-- The thread that makes a transition: what its tables have after the transition, and what it has room for.
use Rattle.pct_names.proofs.Names.{◌&&◌, ◌<◌, [], ap, at_pc, Bool, cond, false, false≢true, filter, frames_written, globals_written}
use Rattle.pct_names.proofs.Names.{holds_slot, if_number, is_ended_status, is_some, Key, key_at, key_place, key_with, KeyPlace, KeyValues}
use Rattle.pct_names.proofs.Names.{length, List, map, moved, None, not, onces_after, Option, option_and_then, own_after, OwnAction, refl, Running}
use Rattle.pct_names.proofs.Names.{same_Some, set-get_or, SharedState, slice_get, slice_set, Some, subst, sym, Thread, thread_at}
use Rattle.pct_names.proofs.Names.{Transition, true, written, ℕ, ◌∙◌, ◌∷◌, ◌≡◌}
use Rattle.pct_model.specs.declared.transition.OwnAction.TheVariants as own_action
use Rattle.pct_threads.specs.Slots.{Held, Slot, after_change, unless_reclaimed}
use Rattle.pct_threads.specs.Tables.{slot_at, held_at, is_occupied_at}
use Rattle.pct_threads.proofs.TableLemmas.{within-occupied}
use Rattle.pct_keys.specs.Tables.{Table, row_at, no_row}
use Rattle.pct_engine_laws.specs.Fitting.{Fits}
use Rattle.pct_process.specs.ThreadViews.{thread_of, threads_of, slot_view, with_specific}
use Rattle.pct_process.specs.ProcessViews.{with_row, slots_of, ProcessData}
use Rattle.pct_process.proofs.ViewedSlots.{own}
use Rattle.pct_actions.specs.OwnChanges.{held_of, own_moved, own_rows}
use Rattle.pct_actions.specs.ProcessChanges.{KeyFits}
use Rattle.pct_actions.specs.ProcessParts.{own_made, slot_changed, OwnFits}
use Rattle.pct_actions.proofs.TableSlots.{changed_slot, held_here}

-- ---- keys

-- a key with a number is on its place
pub key_here : (n : ℕ) (places : List KeyPlace) → is_some (key_with n places) ≡ true → is_some (key_at places (key_place n)) ≡ true
unfolding key_with
key_here n places some = by (key_at places (key_place n)) some where
  by : (o : Option Key) → is_some (if_number n o) ≡ true → is_some o ≡ true
  by None some = absurd (false≢true some)
  by (Some key) some = refl

-- the data of a thread after its action
abbrev own_row : Option OwnAction → Thread → KeyValues → KeyValues
own_row a t own = (own_after a (with_specific own t)).specific

-- the rows after it
rows_after : (slot : ℕ) (a : Option OwnAction) (t : Thread) (keys : Table) → own_rows slot a keys.rows ≡ slice_set keys.rows slot (own_row a t (row_at keys slot))
unfolding own_rows own_after
rows_after slot (Some (own_action.SetSpecific k v)) t keys = refl
rows_after slot (Some own_action.BeginPass) t keys = refl
rows_after slot (Some (own_action.RunDestructor k f v)) t keys = refl
rows_after slot _ t keys = sym (set-get_or keys.rows slot no_row)

-- ---- the thread on a slot

-- the thread after its action
acted_is : (a : Option OwnAction) (t : Thread) (own : KeyValues) (h : Held) → with_specific (own_row a t own) (thread_of (held_of (own_after a (thread_of h)))) ≡ own_after a (with_specific own (thread_of h))
unfolding own_after
acted_is (Some own_action.PopHandler) t own h = refl
acted_is _ t own h = refl

module _ (o : Transition) (t : Thread) (own : KeyValues) where
  -- and after its transition
  moved_is : (h : Held) → with_specific (own_row o.own t own) (thread_of (held_of (moved o (thread_of h)))) ≡ moved o (with_specific own (thread_of h))
  unfolding thread_at
  moved_is h = by o.next where
    by : (next : Option ℕ) → with_specific (own_row o.own t own) (thread_of (held_of (own_after o.own (record (thread_at next (thread_of h)) { frames = written frames_written o.writes (thread_at next (thread_of h)).frames }))))
        ≡ own_after o.own (record (thread_at next (with_specific own (thread_of h))) { frames = written frames_written o.writes (thread_at next (with_specific own (thread_of h))).frames })
    by None = acted_is o.own t own (record h { frames = written frames_written o.writes h.frames })
    by (Some pc) = acted_is o.own t own (record h { frames = written frames_written o.writes (at_pc pc h.frames); thread = record h.thread { status = Running } })

  -- a slot after the transition of its thread
  slot_moved : (s : Slot) → with_row (own_row o.own t own) (slot_view (after_change (λ h. unless_reclaimed (held_of (moved o (thread_of h)))) s)) ≡ slot_changed (moved o) (with_row own (slot_view s))
  slot_moved s i = record { made = s.made; here = by s.here i } where
    either : (b : Bool) (h : Held) → map (with_specific (own_row o.own t own)) (threads_of (cond b None (Some h))) ≡ cond (not b) (with_specific (own_row o.own t own) (thread_of h) ∷ []) []
    either true h = refl
    either false h = refl

    by : (here : Option Held) → map (with_specific (own_row o.own t own)) (threads_of (option_and_then (λ h. unless_reclaimed (held_of (moved o (thread_of h)))) here)) ≡ filter holds_slot (map (moved o) (map (with_specific own) (threads_of here)))
    by None = refl
    by (Some h) =
        let m : Held = held_of (moved o (thread_of h)) in
        either (is_ended_status m.thread.status && m.detached) m ∙ ap (λ (x : Thread). filter holds_slot (x ∷ [])) (moved_is h)

-- ---- the tables

module _ (keys : Table) (threads : List Slot) (fit : length keys.rows ≡ length threads) (shared : SharedState) (p : ProcessData) (view : record { slots = slots_of keys.rows threads; shared = shared } ≡ p)
    (slot : ℕ) (o : Transition) (w : OwnFits slot o p) where
  abbrev row : KeyValues
  row = row_at keys slot

  own_held : (h : Held) × (held_at threads slot ≡ Some h) × (own keys threads fit slot h ≡ w.thread)
  own_held = held_here keys threads fit slot (record { made = w.made; here = w.thread ∷ [] }) w.thread (ap (λ (d : ProcessData). slice_get d.slots slot) view ∙ w.here) refl

  pub occupied : is_occupied_at threads slot ≡ true
  occupied = ap is_some own_held.1

  pub inside : slot < length threads
  inside = within-occupied threads slot occupied

  pub room : (h : Held) → held_at threads slot ≡ Some h → Fits (length h.frames) (length h.thread.handlers) h.thread.pass o.own
  room h here =
      let same : own keys threads fit slot h ≡ w.thread = ap (own keys threads fit slot) (same_Some h own_held.0 (sym here ∙ own_held.1)) ∙ own_held.2 in
      subst (λ (t : Thread). Fits (length t.frames) (length t.handlers) t.pass o.own) (sym same) w.fits

  pub keys_fit : KeyFits o.own shared.keys
  keys_fit = subst (KeyFits o.own) (sym (ap (λ (d : ProcessData). d.shared.keys) view)) w.keys

  -- the process after the transition
  pub after_own : (tid : ℕ) (rows : List KeyValues) (new : List Slot) → rows ≡ own_rows slot o.own keys.rows → new ≡ own_moved slot o threads
      → record { slots = slots_of rows new; shared = record shared { globals = written globals_written o.writes shared.globals; onces = onces_after tid o.own shared.onces } } ≡ own_made tid slot o p
  after_own tid rows new kept changed =
      let after : KeyValues = own_row o.own w.thread row in
      (λ i. record {
        slots = (
            ap (λ (rs : List KeyValues). slots_of rs new) (kept ∙ rows_after slot o.own w.thread keys)
            ∙ ap (slots_of (slice_set keys.rows slot after)) changed
            ∙ changed_slot keys threads fit slot after (after_change (λ h. unless_reclaimed (held_of (moved o (thread_of h))))) (slot_changed (moved o)) inside (slot_moved o w.thread row (slot_at threads slot))
            ) i;
        shared = record shared { globals = written globals_written o.writes shared.globals; onces = onces_after tid o.own shared.onces };
      })
      ∙ ap (own_made tid slot o) view
