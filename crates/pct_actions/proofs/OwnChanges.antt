-- Changes of the thread on a slot, one after another, and the changes of a transition.
use Rattle.pct_names.proofs.Names.{[], ap, arith, at_pc, Bool, Dest, false, false≢true, Frame, frames_written, length, List, moved, None, none-some, Option}
use Rattle.pct_names.proofs.Names.{option_and_then, option_map, own_after, OwnAction, refl, Running, same_Some, set-get_or, slice_set, Some, Status, subst}
use Rattle.pct_names.proofs.Names.{sym, thread_at, Transition, true, written, ℕ, ◌∙◌, ◌∷◌, ◌≡◌}
use Rattle.std.proofs.lemmas.List.{get_or-set_same}
use Rattle.pct_model.specs.declared.statement.Dest.TheVariants as destination
use Rattle.pct_model.specs.declared.transition.OwnAction.TheVariants as own_action
use Rattle.pct_threads.specs.declared.record.Thread.{Thread as Record}
use Rattle.pct_threads.specs.Slots.{Held, Slot, unused, after_change, unless_reclaimed, with_change}
use Rattle.pct_threads.specs.Tables.{slot_at, held_at, is_occupied_at, on_held, on_slot}
use Rattle.pct_threads.proofs.TableLemmas.{on_slot-then, within-occupied}
use Rattle.pct_engine_laws.specs.Fitting.{Fits}
use Rattle.pct_process.specs.ThreadViews.{thread_of}
use Rattle.pct_actions.specs.OwnChanges.{frames_acted, frames_at, frames_moved, held_of, on_frames, on_record, own_moved, record_acted}
use Rattle.pct_actions.specs.OwnChanges.{record_moved, record_of, thread_from}

-- ---- one after another

map_map : {A B C : Type 0} (f : A → B) (g : B → C) (o : Option A) → option_map g (option_map f o) ≡ option_map (λ x. g (f x)) o
map_map f g None = refl
map_map f g (Some x) = refl

-- the table after both
pub then_held : (slot : ℕ) (f g : Held → Held) (old mid new : List Slot) → mid ≡ on_held slot f old → new ≡ on_held slot g mid → new ≡ on_held slot (λ h. g (f h)) old
then_held slot f g old mid new first second =
    second
    ∙ ap (on_held slot g) first
    ∙ on_slot-then slot (with_change f) (with_change g) old
    ∙ ap (λ (o : Option Held). slice_set old slot (record (slot_at old slot) { here = o })) (map_map f g (held_at old slot))

-- a change that keeps the frames keeps the table
pub frames_same : (slot : ℕ) (threads : List Slot) → threads ≡ on_frames slot (λ frames. frames) threads
frames_same slot threads = sym (ap (λ (o : Option Held). slice_set threads slot (record (slot_at threads slot) { here = o })) (by (held_at threads slot)) ∙ set-get_or threads slot unused) where
  by : (o : Option Held) → option_map (λ h. h) o ≡ o
  by None = refl
  by (Some h) = refl

-- the thread after a change
held_after : (slot : ℕ) (f : Held → Held) (old new : List Slot) → is_occupied_at old slot ≡ true → new ≡ on_held slot f old → held_at new slot ≡ option_map f (held_at old slot)
held_after slot f old new occupied changed =
    ap (λ (threads : List Slot). held_at threads slot) changed
    ∙ ap (λ (s : Slot). s.here) (get_or-set_same old slot (with_change f (slot_at old slot)) unused (within-occupied old slot occupied))

-- ---- writes

length-frames_written : (d : Dest) (v : ℕ) (frames : List Frame) → length (frames_written d v frames) ≡ length frames
length-frames_written (destination.Local i) v [] = refl
length-frames_written (destination.Local i) v (frame ∷ below) = refl
length-frames_written _ v frames = refl

length-written : (writes : List (Dest × ℕ)) (frames : List Frame) → length (written frames_written writes frames) ≡ length frames
length-written [] frames = refl
length-written ((d, v) ∷ writes) frames = length-written writes (frames_written d v frames) ∙ length-frames_written d v frames

-- ---- a transition

-- a thread after its own action, by its frames and its record
acted_parts : (a : Option OwnAction) (h : Held) → held_of (own_after a (thread_of h)) ≡ record h { frames = frames_acted a h.frames; thread = record_acted a h.thread }
unfolding own_after
acted_parts (Some own_action.PopHandler) h = refl
acted_parts _ h = refl

-- the frames of a thread count for nothing in its record
record_of_acted : (a : Option OwnAction) (frames : List Frame) (kept : Record) → record_of (own_after a (thread_from frames kept)) ≡ record_acted a kept
unfolding own_after
record_of_acted (Some own_action.PopHandler) frames kept = refl
record_of_acted _ frames kept = refl

module _ (o : Transition) where
  -- the record after the transition, where the thread went on or did not
  record_by : (next : Option ℕ) (kept : Record) → record_acted o.own (record_of (thread_at next (thread_from [] kept))) ≡ record_moved (record o { next = next }) kept
  unfolding thread_at
  record_by None kept = sym (record_of_acted o.own (written frames_written o.writes []) kept)
  record_by (Some pc) kept = sym (record_of_acted o.own (written frames_written o.writes []) (record kept { status = Running }))

  pub record_parts : (kept went : Record) → went ≡ record_of (thread_at o.next (thread_from [] kept)) → (new : Record) → new ≡ record_acted o.own went → new ≡ record_moved o kept
  record_parts kept went is new acted = acted ∙ ap (record_acted o.own) is ∙ record_by o.next kept

  -- a thread that runs after it has ended exactly if it had
  pub still_ended : (kept new : Record) → new ≡ record_moved o kept → new.status ≡ Running → new.ended ≡ kept.ended
  unfolding own_after thread_at
  still_ended kept new moves runs =
      ap (λ (r : Record). r.ended) (moves ∙ sym (record_by o.next kept)) ∙ by o.own (record_of (thread_at o.next (thread_from [] kept))) (ap (λ (r : Record). r.status) (record_by o.next kept ∙ sym moves) ∙ runs) ∙ went o.next
    where
      is_run : Status → Bool
      is_run Running = true
      is_run _ = false

      by : (a : Option OwnAction) (went : Record) → (record_acted a went).status ≡ Running → (record_acted a went).ended ≡ went.ended
      by (Some (own_action.EndThread v)) went is = absurd (false≢true (ap is_run is))
      by (Some own_action.EndLast) went is = absurd (false≢true (ap is_run is))
      by _ went is = refl

      went : (next : Option ℕ) → (record_of (thread_at next (thread_from [] kept))).ended ≡ kept.ended
      went None = refl
      went (Some pc) = refl

  -- the thread after it, by its frames and its record
  moved_by : (next : Option ℕ) (h : Held) → record h { frames = frames_moved (record o { next = next }) h.frames; thread = record_moved (record o { next = next }) h.thread } ≡ held_of (moved (record o { next = next }) (thread_of h))
  unfolding thread_at
  moved_by None h =
      let frames : List Frame = written frames_written o.writes h.frames in
      ap (λ (kept : Record). record h { frames = frames_acted o.own frames; thread = kept }) (sym (record_by None h.thread)) ∙ sym (acted_parts o.own (record h { frames = frames }))
  moved_by (Some pc) h =
      let frames : List Frame = written frames_written o.writes (at_pc pc h.frames) in
      ap (λ (kept : Record). record h { frames = frames_acted o.own frames; thread = kept }) (sym (record_by (Some pc) h.thread)) ∙ sym (acted_parts o.own (record h { frames = frames; thread = record h.thread { status = Running } }))

module _ (slot : ℕ) (o : Transition) (old : List Slot) where
  -- the table after both, once the thread left its slot if it was reclaimed
  pub own_parts : (framed recorded new : List Slot) → framed ≡ on_frames slot (frames_moved o) old → recorded ≡ on_record slot (record_moved o) framed → new ≡ on_slot slot (after_change unless_reclaimed) recorded → new ≡ own_moved slot o old
  own_parts framed recorded new first second last =
      let both : Held → Held = λ h. record h { frames = frames_moved o h.frames; thread = record_moved o h.thread } in
      last
      ∙ ap (on_slot slot (after_change unless_reclaimed)) (then_held slot _ _ old framed recorded first second)
      ∙ on_slot-then slot (with_change both) (after_change unless_reclaimed) old
      ∙ ap (λ (here : Option Held). slice_set old slot (record (slot_at old slot) { here = here })) (by (held_at old slot))
    where
      by : (here : Option Held) → option_and_then unless_reclaimed (option_map (λ (h : Held). record h { frames = frames_moved o h.frames; thread = record_moved o h.thread }) here) ≡ option_and_then (λ h. unless_reclaimed (held_of (moved o (thread_of h)))) here
      by None = refl
      by (Some h) = ap unless_reclaimed (moved_by o o.next h)

  -- the frames after each part
  pub frames_parts : (gone wrote new : List Slot) → gone ≡ on_frames slot (frames_at o.next) old → wrote ≡ on_frames slot (written frames_written o.writes) gone → new ≡ on_frames slot (frames_acted o.own) wrote → new ≡ on_frames slot (frames_moved o) old
  unfolding thread_at
  frames_parts gone wrote new first second third = then_held slot _ _ old wrote new (then_held slot _ _ old gone wrote first second) third ∙ by o.next where
    by : (next : Option ℕ) → on_frames slot (λ frames. frames_acted o.own (written frames_written o.writes (frames_at next frames))) old ≡ on_frames slot (frames_moved (record o { next = next })) old
    by None = refl
    by (Some pc) = refl

-- ---- room

-- how much a thread has, beside its number of frames
fits_any : (depth handlers pass : ℕ) (a : Option OwnAction) → Fits depth handlers pass a → Fits 0 handlers pass a
fits_any depth handlers pass (Some (own_action.Call f a kind)) fits = omega arith
fits_any depth handlers pass (Some (own_action.CallHandler f a)) fits = omega arith
fits_any depth handlers pass (Some (own_action.CallForkHandler at f)) fits = omega arith
fits_any depth handlers pass (Some own_action.PopHandler) fits = fits
fits_any depth handlers pass _ fits = fits

module _ (slot : ℕ) (a : Option OwnAction) (old : List Slot) (occupied : is_occupied_at old slot ≡ true)
    (room : (h : Held) → held_at old slot ≡ Some h → Fits (length h.frames) (length h.thread.handlers) h.thread.pass a) where
  -- a thread whose frames changed has room where it needs no frames
  pub room_of_record : (change : List Frame → List Frame) (new : List Slot) → new ≡ on_frames slot change old → (h : Held) → held_at new slot ≡ Some h → Fits 0 (length h.thread.handlers) h.thread.pass a
  room_of_record change new changed h here = by (held_at old slot) refl (sym (held_after slot (λ h. record h { frames = change h.frames }) old new occupied changed) ∙ here) where
    by : (before : Option Held) → held_at old slot ≡ before → option_map (λ (h : Held). record h { frames = change h.frames }) before ≡ Some h → Fits 0 (length h.thread.handlers) h.thread.pass a
    by None was is = absurd (none-some h is)
    by (Some b) was is = subst (λ (x : Held). Fits 0 (length x.thread.handlers) x.thread.pass a) (same_Some _ h is) (fits_any (length b.frames) (length b.thread.handlers) b.thread.pass a (room b was))

  -- and one that has as many frames has the room that it had
  pub room_left : (change : List Frame → List Frame) (new : List Slot) → ((frames : List Frame) → length (change frames) ≡ length frames) → new ≡ on_frames slot change old
      → (h : Held) → held_at new slot ≡ Some h → Fits (length h.frames) (length h.thread.handlers) h.thread.pass a
  room_left change new same changed h here = by (held_at old slot) refl (sym (held_after slot (λ h. record h { frames = change h.frames }) old new occupied changed) ∙ here) where
    by : (before : Option Held) → held_at old slot ≡ before → option_map (λ (h : Held). record h { frames = change h.frames }) before ≡ Some h → Fits (length h.frames) (length h.thread.handlers) h.thread.pass a
    by None was is = absurd (none-some h is)
    by (Some b) was is =
        subst (λ (x : Held). Fits (length x.frames) (length x.thread.handlers) x.thread.pass a) (same_Some _ h is)
        (subst (λ (n : ℕ). Fits n (length b.thread.handlers) b.thread.pass a) (sym (same b.frames)) (room b was))

-- a thread that went on has the room that it had
pub room_gone : (next : Option ℕ) (a : Option OwnAction) (kept went : Record) → went ≡ record_of (thread_at next (thread_from [] kept)) → Fits 0 (length kept.handlers) kept.pass a → Fits 0 (length went.handlers) went.pass a
unfolding thread_at
room_gone None a kept went is fits = subst (λ (r : Record). Fits 0 (length r.handlers) r.pass a) (sym is) fits
room_gone (Some pc) a kept went is fits = subst (λ (r : Record). Fits 0 (length r.handlers) r.pass a) (sym is) fits

-- the thread went on, and values were written
pub length-gone : (next : Option ℕ) (writes : List (Dest × ℕ)) (frames : List Frame) → length (written frames_written writes (frames_at next frames)) ≡ length frames
unfolding thread_at
length-gone None writes frames = length-written writes frames
length-gone (Some pc) writes frames = length-written writes (at_pc pc frames) ∙ by frames where
  by : (frames : List Frame) → length (at_pc pc frames) ≡ length frames
  by [] = refl
  by (frame ∷ below) = refl
