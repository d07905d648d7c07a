-- A table by its rows and its stack slots: what a change of one slot does.
use Rattle.std.proofs.Common.{◌≡◌, refl, sym, ap, subst, ◌∙◌, ℕ, zero, suc, ◌+◌, ◌-◌, ◌*◌, ◌<◌, ◌≤◌, Bool, true, false, not, ◌&&◌, cond, List, [], ◌∷◌, length, map, get_or, Option, Some, None, is_some, replicate, inl, inr, arith, length-set}
use Rattle.std.specs.Prelude.{slice_set, nat_eq, nat_lt, position}
use Rattle.std.specs.List.{position_or_len}
use Rattle.std.specs.Option.{option_map_or, unwrap_or}
use Rattle.std.proofs.lemmas.Bool.{cases_eq, cases_lt, lt-ltb, ltb-true, and_parts, false≢true}
use Rattle.std.proofs.lemmas.List.{same_lists, get_or-set_same, get_or-set_other, get_or_past, set-get_or, set-set, get_or_default, length-replicate, length-map}
use Rattle.std.proofs.Math.ListN.{get_or-map}
use native.Mathlib.Nat.{mul-le-mul_right, one-mul}
use Rattle.pct_model.specs.declared.frame.Frame.{Frame}
use Rattle.pct_model.specs.declared.state.FrameKind.{FrameKind}
use Rattle.pct_model.specs.declared.state.FrameKind.TheVariants as kind
use Rattle.pct_model.specs.World.{new_frame}
use Rattle.pct_model.specs.Actions.{at_pc, set_local, without_first}
use Rattle.pct_model.specs.ThreadSlots.{is_ended_status}
use Rattle.pct_threads.specs.FrameWords.{with_word}
use Rattle.pct_threads.specs.FrameWords.{kind_of}
use Rattle.pct_threads.specs.StackFrames.{kind_in}
use Rattle.pct_set.specs.Slots.{slots_where, with_slot, without_slot}
use Rattle.pct_stack.specs.Stacks.{Stacks, is_taken, is_free, words_at, all_free, with_words, with_taken, with_given, with_kept_alone}
use Rattle.pct_stack.specs.Stacks.{slot_at as stack_at}
use Rattle.pct_threads.specs.declared.record.Thread.{Thread}
use Rattle.pct_threads.specs.declared.row.Row.{Row}
use Rattle.pct_threads.specs.Rows.{no_row, row_at, row_frames, held_in, slot_in, slots_from, slots_in, IsEnd, IsKept, IsHeld, IsStep, is_row, row_created, row_ended, row_detached, row_settled}
use Rattle.pct_threads.specs.Slots.{Held, Slot, unused, is_occupied, has_id, on_frame, with_call, with_call_alone, with_pc, with_local, without_frame, without_frames, with_frame_word, with_record, with_change, after_change, after_end, after_detach, unless_reclaimed, freed, created}
use Rattle.pct_threads.specs.StackFrames.{frames_in, IsStack, IsChanged, IsWritten}
use Rattle.pct_threads.specs.Tables.{slot_at, held_at, is_occupied_at, is_free_at, frames_at, on_slot}
use Rattle.pct_threads.proofs.OccupiedSlots.{same_set, retained, removed, added, none_occupied}
use Rattle.pct_threads.proofs.StackFrameLemmas.{length-frames, frame_new, frames_same, popped, pc_set, top_local, no_top_local, kind_set, any_word, any_kind}
use Rattle.pct_threads.proofs.TableLemmas.{within-free, is_free_at-within}

-- ---- stack slots

some_of : (o : Option (List ℕ)) → is_some o ≡ true → o ≡ Some (unwrap_or o [])
some_of (Some ws) taken = refl
some_of None taken = absurd (false≢true taken)

stack_within : (stacks : Stacks) (slot : ℕ) → is_taken stacks slot ≡ true → slot < length stacks.slots
stack_within stacks slot taken = within stacks.slots slot taken
  where
    within : (os : List (Option (List ℕ))) (k : ℕ) → is_some (get_or os k None) ≡ true → k < length os
    within [] k holds = absurd (false≢true holds)
    within (o ∷ os) zero holds = omega arith
    within (o ∷ os) (suc k) holds = let deep = within os k holds in omega (arith, deep)

free_within_stack : (stacks : Stacks) (slot : ℕ) → is_free stacks slot ≡ true → slot < length stacks.slots
free_within_stack stacks slot free = ltb-true slot (length stacks.slots) (and_parts (nat_lt slot (length stacks.slots)) (not (is_taken stacks slot)) free).0

-- a slot that is taken has other words
module _ (old new : Stacks) (slot : ℕ) (ws : List ℕ) (stack : IsStack old slot) (is : new ≡ with_words slot ws old) where
  at_slot : stack_at new slot ≡ Some ws
  at_slot = ap (λ (s : Stacks). stack_at s slot) is ∙ get_or-set_same old.slots slot (Some ws) None (stack_within old slot stack.taken)

  pub words_after : words_at new slot ≡ ws
  words_after = ap (λ o. unwrap_or o []) at_slot

  pub changed_after : IsChanged old new slot
  changed_after = record {
    stack = record { taken = ap is_some at_slot; width = ap (λ (s : Stacks). s.width) is ∙ stack.width };
    words = is ∙ ap (λ vs. with_words slot vs old) (sym words_after);
  }

-- the same words, written again
pub unchanged : (stacks : Stacks) (slot : ℕ) → IsStack stacks slot → IsChanged stacks stacks slot
unchanged stacks slot stack = record {
  stack = stack;
  words = ap (λ os. record { width = stacks.width; free = stacks.free; slots = os }) (sym (set-get_or stacks.slots slot None) ∙ ap (slice_set stacks.slots slot) (some_of (stack_at stacks slot) stack.taken));
}

-- two changes of one slot are one
pub twice : (first mid last : Stacks) (slot : ℕ) → IsChanged first mid slot → IsChanged mid last slot → IsChanged first last slot
twice first mid last slot one two = record {
  stack = two.stack;
  words = two.words ∙ ap (with_words slot (words_at last slot)) one.words ∙ ap (λ os. record { width = first.width; free = first.free; slots = os }) (set-set first.slots slot (Some (words_at mid slot)) (Some (words_at last slot)));
}

-- a slot that was free is taken
module _ (old mid : Stacks) (slot : ℕ) (ws : List ℕ) (free : is_free old slot ≡ true) (width : old.width ≡ 204) (is : mid ≡ with_taken slot ws old) where
  pub taken_after : IsStack mid slot
  taken_after = record {
    taken = ap (λ (s : Stacks). is_some (stack_at s slot)) is ∙ ap is_some (get_or-set_same old.slots slot (Some ws) None (free_within_stack old slot free));
    width = ap (λ (s : Stacks). s.width) is ∙ width;
  }

  pub taken_then : (new : Stacks) → IsChanged mid new slot → (new.slots ≡ slice_set old.slots slot (stack_at new slot)) × (new.width ≡ old.width)
  taken_then new changed = (
    ap (λ (s : Stacks). s.slots) changed.words
        ∙ ap (λ (s : Stacks). slice_set s.slots slot (Some (words_at new slot))) is
        ∙ set-set old.slots slot (Some ws) (Some (words_at new slot))
        ∙ ap (slice_set old.slots slot) (sym (some_of (stack_at new slot) changed.stack.taken)),
    changed.stack.width ∙ sym width,
  )

-- a word that was written by its index over all slots
pub at_word : (old new : Stacks) (slot index p v : ℕ) → old.width ≡ 204 → index ≡ slot * 204 + p → new ≡ with_words slot (slice_set (words_at old slot) (index - slot * old.width) v) old → new ≡ with_words slot (slice_set (words_at old slot) p v) old
at_word old new slot index p v width is block = block ∙ ap (λ q. with_words slot (slice_set (words_at old slot) q v) old) {x = index - slot * old.width} {y = p} (omega (arith, is, ap (λ w. slot * w) width))

-- such an index is in its slot
pub index_from : (old : Stacks) (slot index p : ℕ) → old.width ≡ 204 → index ≡ slot * 204 + p → slot * old.width ≤ index
index_from old slot index p width is = omega (arith, is, ap (λ w. slot * w) width)

pub index_to : (old : Stacks) (slot index p : ℕ) → old.width ≡ 204 → index ≡ slot * 204 + p → p < 204 → index < slot * old.width + old.width
index_to old slot index p width is small = omega (arith, is, small, width, ap (λ w. slot * w) width)

pub held_stack : (row : Row) (stacks : Stacks) (slot : ℕ) → IsHeld row stacks slot → IsStack stacks slot
held_stack row stacks slot held = record { taken = held.taken; width = held.width }

-- ---- a change of one slot

-- a change of its frames
pub frames_step : (row : Row) (old new : Stacks) (slot d e : ℕ) (F : List Frame → List Frame) → IsHeld row old slot → IsChanged old new slot → d ≤ 17 → e ≡ slot * 204 + 12 * d
    → frames_in (words_at new slot) d ≡ F (row_frames row (words_at old slot)) → IsStep row (record row { depth = d; end = e }) old new slot (with_change (λ h. record h { frames = F h.frames }))
frames_step row old new slot d e F held changed deep end frames = record {
  others = ap (λ (s : Stacks). s.slots) changed.words ∙ ap (slice_set old.slots slot) (sym (some_of (stack_at new slot) changed.stack.taken));
  width = changed.stack.width ∙ sym held.width;
  taken = changed.stack.taken ∙ sym held.occupied;
  deep = deep;
  end = λ _. end;
  seen = by_test row.occupied;
}
  where
    by_test : (b : Bool) → record { made = row.made; here = cond b (Some (record { id = row.id; detached = row.detached; frames = frames_in (words_at new slot) d; thread = row.thread })) None }
        ≡ with_change (λ h. record h { frames = F h.frames }) (record { made = row.made; here = cond b (Some (held_in row (words_at old slot))) None })
    by_test true = ap (λ fs. record { made = row.made; here = Some (record { id = row.id; detached = row.detached; frames = fs; thread = row.thread }) }) frames
    by_test false = refl

-- a new frame
pub called_step : (row : Row) (old new : Stacks) (slot func arg number once : ℕ) (k : FrameKind) → IsHeld row old slot → row.depth < 17 → kind_in number once ≡ k
    → IsWritten old new slot row.depth (func ∷ 0 ∷ number ∷ arg ∷ 0 ∷ 0 ∷ 0 ∷ 0 ∷ 0 ∷ 0 ∷ 0 ∷ once ∷ [])
    → IsStep row (record row { depth = row.depth + 1; end = row.end + 12 }) old new slot (with_change (with_call func arg k))
called_step row old new slot func arg number once k held few is written =
    frames_step row old new slot (row.depth + 1) (row.end + 12) (λ fs. new_frame func arg k ∷ fs) held written.changed (omega (arith, few)) (omega (arith, held.end))
    (ap (frames_in (words_at new slot)) {x = row.depth + 1} {y = suc row.depth} (omega arith)
    ∙ (λ j. frame_new (words_at new slot) (12 * row.depth) func number arg once k is written.frame j ∷ frames_same (words_at old slot) (words_at new slot) row.depth written.below j))

-- words are written, and the frames are as many as before
rewritten : (row : Row) (old new : Stacks) (slot : ℕ) (ws : List ℕ) (F : List Frame → List Frame) → IsHeld row old slot → new ≡ with_words slot ws old → frames_in ws row.depth ≡ F (row_frames row (words_at old slot))
    → IsStep row row old new slot (with_change (λ h. record h { frames = F h.frames }))
rewritten row old new slot ws F held is frames =
    frames_step row old new slot row.depth row.end F held (changed_after old new slot ws (held_stack row old slot held) is) held.deep held.end
    (ap (λ us. frames_in us row.depth) (words_after old new slot ws (held_stack row old slot held) is) ∙ frames)

-- no word is written
unwritten : (row : Row) (old : Stacks) (slot : ℕ) (F : List Frame → List Frame) → IsHeld row old slot → row_frames row (words_at old slot) ≡ F (row_frames row (words_at old slot))
    → IsStep row row old old slot (with_change (λ h. record h { frames = F h.frames }))
unwritten row old slot F held frames = frames_step row old old slot row.depth row.end F held (unchanged old slot (held_stack row old slot held)) held.deep held.end frames

-- the program counter of the newest frame
pub pc_step : (row : Row) (old new : Stacks) (slot pc : ℕ) → IsHeld row old slot → new ≡ with_words slot (slice_set (words_at old slot) (12 * (row.depth - 1) + 1) pc) old → length (words_at old slot) ≡ old.width → 0 < row.depth
    → IsStep row row old new slot (with_change (with_pc pc))
pc_step row old new slot pc held is long some =
    rewritten row old new slot (slice_set (words_at old slot) (12 * (row.depth - 1) + 1) pc) (at_pc pc) held is (pc_set (words_at old slot) row.depth pc some held.deep (long ∙ held.width))

pub pc_stay : (row : Row) (old : Stacks) (slot pc : ℕ) → IsHeld row old slot → row.depth ≡ 0 → IsStep row row old old slot (with_change (with_pc pc))
pc_stay row old slot pc held none = unwritten row old slot (at_pc pc) held (ap (frames_in (words_at old slot)) none ∙ sym (ap (λ n. at_pc pc (frames_in (words_at old slot) n)) none))

-- a local of it
pub local_step : (row : Row) (old new : Stacks) (slot i v : ℕ) → IsHeld row old slot → new ≡ with_words slot (slice_set (words_at old slot) (12 * (row.depth - 1) + (3 + i)) v) old → length (words_at old slot) ≡ old.width → 0 < row.depth → i < 8
    → IsStep row row old new slot (with_change (with_local i v))
local_step row old new slot i v held is long some small =
    rewritten row old new slot (slice_set (words_at old slot) (12 * (row.depth - 1) + (3 + i)) v) (set_local i v) held is (top_local (words_at old slot) row.depth i v some held.deep small (long ∙ held.width))

pub local_stay : (row : Row) (old : Stacks) (slot i v : ℕ) → IsHeld row old slot → row.depth ≡ 0 → IsStep row row old old slot (with_change (with_local i v))
local_stay row old slot i v held none = unwritten row old slot (set_local i v) held (ap (frames_in (words_at old slot)) none ∙ sym (ap (λ n. set_local i v (frames_in (words_at old slot) n)) none))

pub local_past : (row : Row) (old : Stacks) (slot i v : ℕ) → IsHeld row old slot → 8 ≤ i → IsStep row row old old slot (with_change (with_local i v))
local_past row old slot i v held past = unwritten row old slot (set_local i v) held (no_top_local (words_at old slot) row.depth i v past)

-- a word of any frame, but that of its kind
pub word_step : (row : Row) (old new : Stacks) (slot k i v : ℕ) → IsHeld row old slot → new ≡ with_words slot (slice_set (words_at old slot) (12 * k + i) v) old → length (words_at old slot) ≡ old.width → k < row.depth → i < 11 → (i ≡ 2 → ⊥)
    → IsStep row row old new slot (with_change (with_frame_word k i v))
word_step row old new slot k i v held is long below small other =
    rewritten row old new slot (slice_set (words_at old slot) (12 * k + i) v) (on_frame k (with_word i v)) held is
    (any_word (words_at old slot) k i v small other (omega (arith, long, held.width, held.deep, below, small)) row.depth below)

-- the words of its kind
pub kind_step : (row : Row) (old mid new : Stacks) (slot k number once v : ℕ) → IsHeld row old slot → kind_in number once ≡ kind_of v → mid ≡ with_words slot (slice_set (words_at old slot) (12 * k + 2) number) old
    → new ≡ with_words slot (slice_set (words_at mid slot) (12 * k + 11) once) mid → length (words_at old slot) ≡ old.width → k < row.depth → IsStep row row old new slot (with_change (with_frame_word k 2 v))
kind_step row old mid new slot k number once v held is first second long below =
    let us = slice_set (words_at old slot) (12 * k + 2) number in
    let stack = held_stack row old slot held in
    let ws = kind_set (words_at old slot) (12 * k) number once in
    rewritten row old new slot ws (on_frame k (with_word 2 v)) held
    (second
    ∙ ap (λ vs. with_words slot (slice_set vs (12 * k + 11) once) mid) (words_after old mid slot us stack first)
    ∙ ap (with_words slot ws) first
    ∙ ap (λ os. record { width = old.width; free = old.free; slots = os }) (set-set old.slots slot (Some us) (Some ws)))
    (any_kind (words_at old slot) k number once v is (omega (arith, long, held.width, held.deep, below)) row.depth below)

-- without the newest frame
pub popped_step : (row : Row) (stacks : Stacks) (slot n e : ℕ) → IsHeld row stacks slot → 0 < row.depth → n + 1 ≡ row.depth → e + 12 ≡ row.end → IsStep row (record row { depth = n; end = e }) stacks stacks slot (with_change without_frame)
popped_step row stacks slot n e held some less end =
    frames_step row stacks stacks slot n e (λ fs. without_first fs) held (unchanged stacks slot (held_stack row stacks slot held)) (omega (arith, less, held.deep)) (omega (arith, less, end, held.end))
    (popped (words_at stacks slot) row.depth n some less)

-- without frames
pub dropped_step : (row : Row) (stacks : Stacks) (slot e : ℕ) → IsHeld row stacks slot → e ≡ slot * stacks.width → IsStep row (record row { depth = 0; end = e }) stacks stacks slot (with_change without_frames)
dropped_step row stacks slot e held end =
    frames_step row stacks stacks slot 0 e (λ fs. []) held (unchanged stacks slot (held_stack row stacks slot held)) (omega arith) (omega (arith, end, ap (λ w. slot * w) held.width)) refl

-- a slot without frames
pub emptied : (row : Row) (stacks : Stacks) (slot e : ℕ) → IsHeld row stacks slot → e ≡ slot * stacks.width → IsHeld (record row { depth = 0; end = e }) stacks slot
emptied row stacks slot e held end = record {
  occupied = held.occupied;
  taken = held.taken;
  width = held.width;
  deep = omega arith;
  end = omega (arith, end, ap (λ w. slot * w) held.width);
}

-- with one frame alone
pub alone_step : (row r : Row) (old new : Stacks) (slot func arg e : ℕ) (k : FrameKind) → IsStep (record row { depth = 0; end = e }) r old new slot (with_change (with_call func arg k)) → IsStep row r old new slot (with_change (with_call_alone func arg k))
alone_step row r old new slot func arg e k step = record { others = step.others; width = step.width; taken = step.taken; deep = step.deep; end = step.end; seen = step.seen ∙ by_test row.occupied }
  where
    by_test : (b : Bool) → with_change (with_call func arg k) (record { made = row.made; here = cond b (Some (held_in (record row { depth = 0; end = e }) (words_at old slot))) None })
        ≡ with_change (with_call_alone func arg k) (record { made = row.made; here = cond b (Some (held_in row (words_at old slot))) None })
    by_test true = refl
    by_test false = refl

-- a new thread on a free slot
module _ (row mid : Row) (old took : Stacks) (slot id func arg : ℕ) (detached : Bool) (free : is_free old slot ≡ true) (width : old.width ≡ 204) (is_mid : mid ≡ row_created id detached row) (ws : List ℕ) (is_took : took ≡ with_taken slot ws old) where
  -- it has no frame yet
  pub created_held : (e : ℕ) → e ≡ slot * took.width → IsHeld (record mid { end = e }) took slot
  created_held e end =
      let stack = taken_after old took slot ws free width is_took in
      record {
        occupied = ap (λ (q : Row). q.occupied) is_mid;
        taken = stack.taken;
        width = stack.width;
        deep = omega (arith, ap (λ (q : Row). q.depth) is_mid);
        end = omega (arith, end, ap (λ w. slot * w) stack.width, ap (λ (q : Row). q.depth) is_mid);
      }

  pub created_step : (e : ℕ) (r : Row) (new : Stacks) → IsStep (record mid { end = e }) r took new slot (with_change (with_call func arg kind.Start)) → IsStep row r old new slot (created id func arg detached)
  created_step e r new step = record {
    others = step.others ∙ ap (λ (s : Stacks). slice_set s.slots slot (stack_at new slot)) is_took ∙ set-set old.slots slot (Some ws) (stack_at new slot);
    width = step.width ∙ ap (λ (s : Stacks). s.width) is_took;
    taken = step.taken;
    deep = step.deep;
    end = step.end;
    seen = step.seen ∙ ap (λ (q : Row). with_change (with_call func arg kind.Start) (slot_in q (words_at took slot))) is_mid;
  }

-- a copy on a free slot
pub copied_step : (row r other : Row) (old took new others : Stacks) (slot : ℕ) (ws : List ℕ) → is_free old slot ≡ true → old.width ≡ 204 → IsHeld other others slot → r ≡ other → took ≡ with_taken slot ws old → new ≡ with_words slot (words_at others slot) took
    → IsStep row r old new slot (λ _. slot_in other (words_at others slot))
copied_step row r other old took new others slot ws free width held is is_took copied =
    let stack = taken_after old took slot ws free width is_took in
    let changed = changed_after took new slot (words_at others slot) stack copied in
    record {
      others = (taken_then old took slot ws free width is_took new changed).0;
      width = (taken_then old took slot ws free width is_took new changed).1;
      taken = changed.stack.taken ∙ sym (ap (λ (q : Row). q.occupied) is ∙ held.occupied);
      deep = subst (λ (q : Row). q.depth ≤ 17) (sym is) held.deep;
      end = λ _. subst (IsEnd slot) (sym is) held.end;
      seen = ap (λ (q : Row). slot_in q (words_at new slot)) is ∙ ap (slot_in other) (words_after took new slot (words_at others slot) stack copied);
    }

-- the words of a row matter only where a thread holds the slot
free_slot : (r : Row) (ws : List ℕ) → r.occupied ≡ false → slot_in r ws ≡ record { made = r.made; here = None }
free_slot r ws gone = ap (λ b. record { made = r.made; here = cond b (Some (held_in r ws)) None }) gone

-- its thread changes, or gives it back
pub kept_step : (b : Bool) (row r : Row) (old new : Stacks) (slot : ℕ) (change : Slot → Slot) → IsHeld row old slot → r.occupied ≡ b → new ≡ cond b old (with_given slot old) → r.depth ≡ row.depth → r.end ≡ row.end
    → slot_in r (words_at old slot) ≡ change (slot_in row (words_at old slot)) → IsStep row r old new slot change
kept_step true row r old new slot change held occupied is depth end seen = record {
  others = ap (λ (s : Stacks). s.slots) is ∙ sym (set-get_or old.slots slot None) ∙ ap (λ (s : Stacks). slice_set old.slots slot (stack_at s slot)) (sym is);
  width = ap (λ (s : Stacks). s.width) is;
  taken = ap (λ (s : Stacks). is_taken s slot) is ∙ held.taken ∙ sym occupied;
  deep = omega (arith, depth, held.deep);
  end = λ _. omega (arith, depth, end, held.end);
  seen = ap (λ (s : Stacks). slot_in r (words_at s slot)) is ∙ seen;
}
kept_step false row r old new slot change held occupied is depth end seen =
    let gone : stack_at new slot ≡ None = ap (λ (s : Stacks). stack_at s slot) is ∙ get_or-set_same old.slots slot None None (stack_within old slot held.taken) in
    record {
      others = ap (λ (s : Stacks). s.slots) is ∙ ap (slice_set old.slots slot) (sym gone);
      width = ap (λ (s : Stacks). s.width) is;
      taken = ap is_some gone ∙ sym occupied;
      deep = omega (arith, depth, held.deep);
      end = λ _. omega (arith, depth, end, held.end);
      seen = free_slot r (words_at new slot) occupied ∙ sym (free_slot r (words_at old slot) occupied) ∙ seen;
    }

pub ended_slot : (value : ℕ) (x : Row) (ws : List ℕ) → slot_in (row_ended value x) ws ≡ after_change (after_end value) (slot_in x ws)
ended_slot value x ws = test x.occupied x.detached
  where
    test : (o d : Bool) → slot_in (row_ended value (record x { occupied = o; detached = d })) ws ≡ after_change (after_end value) (slot_in (record x { occupied = o; detached = d }) ws)
    test true true = refl
    test true false = refl
    test false true = refl
    test false false = refl

pub detached_slot : (x : Row) (ws : List ℕ) → slot_in (row_detached x) ws ≡ after_change after_detach (slot_in x ws)
detached_slot x ws = test x.occupied
  where
    slot : Option Held → Slot
    slot here = record { made = x.made; here = here }

    gone : Held
    gone = record { id = x.id; detached = true; frames = row_frames x ws; thread = x.thread }

    by_status : (e : Bool) → slot (cond (not e) (Some gone) None) ≡ slot (cond e None (Some gone))
    by_status true = refl
    by_status false = refl

    test : (o : Bool) → slot_in (row_detached (record x { occupied = o })) ws ≡ after_change after_detach (slot_in (record x { occupied = o }) ws)
    test true = by_status (is_ended_status x.thread.status)
    test false = refl

pub settled_slot : (x : Row) (ws : List ℕ) → slot_in (row_settled x) ws ≡ after_change unless_reclaimed (slot_in x ws)
settled_slot x ws = test x.occupied
  where
    slot : Option Held → Slot
    slot here = record { made = x.made; here = here }

    by_status : (e : Bool) → slot (cond (not e) (Some (held_in x ws)) None) ≡ slot (cond e None (Some (held_in x ws)))
    by_status true = refl
    by_status false = refl

    test : (o : Bool) → slot_in (row_settled (record x { occupied = o })) ws ≡ after_change unless_reclaimed (slot_in (record x { occupied = o }) ws)
    test true = by_status (is_ended_status x.thread.status && x.detached)
    test false = refl

pub record_slot : (t : Thread) (x : Row) (ws : List ℕ) → slot_in (record x { thread = t }) ws ≡ with_change (with_record t) (slot_in x ws)
record_slot t x ws = test x.occupied
  where
    test : (o : Bool) → slot_in (record x { occupied = o; thread = t }) ws ≡ with_change (with_record t) (slot_in (record x { occupied = o }) ws)
    test true = refl
    test false = refl

-- its thread has another record
pub record_step : (row : Row) (stacks : Stacks) (slot : ℕ) (t : Thread) → IsHeld row stacks slot → IsStep row (record row { thread = t }) stacks stacks slot (with_change (with_record t))
record_step row stacks slot t held = kept_step true row (record row { thread = t }) stacks stacks slot (with_change (with_record t)) held held.occupied refl refl refl (record_slot t row (words_at stacks slot))

-- ---- what is seen at an index

pub length-slots : (k : ℕ) (rows : List Row) (stacks : Stacks) → length (slots_from k rows stacks) ≡ length rows
length-slots k [] stacks = refl
length-slots k (r ∷ rows) stacks = ap suc (length-slots (suc k) rows stacks)

from_at : (k : ℕ) (rows : List Row) (stacks : Stacks) (i : ℕ) (d : Slot) → i < length rows → get_or (slots_from k rows stacks) i d ≡ slot_in (row_at rows i) (words_at stacks (k + i))
from_at k [] stacks i d inside = absurd (omega arith)
from_at k (r ∷ rows) stacks zero d inside = ap (λ j. slot_in r (words_at stacks j)) {x = k} {y = k + 0} (omega arith)
from_at k (r ∷ rows) stacks (suc i) d inside = from_at (suc k) rows stacks i d (omega arith) ∙ ap (λ j. slot_in (row_at rows i) (words_at stacks j)) {x = suc k + i} {y = k + suc i} (omega arith)

pub seen_within : (rows : List Row) (stacks : Stacks) (i : ℕ) (d : Slot) → i < length rows → get_or (slots_in rows stacks) i d ≡ slot_in (row_at rows i) (words_at stacks i)
seen_within rows stacks i d inside = from_at 0 rows stacks i d inside ∙ ap (λ j. slot_in (row_at rows i) (words_at stacks j)) {x = 0 + i} {y = i} (omega arith)

pub seen_at : (rows : List Row) (stacks : Stacks) (i : ℕ) → slot_at (slots_in rows stacks) i ≡ slot_in (row_at rows i) (words_at stacks i)
seen_at rows stacks i =
    elim (cases_lt i (length rows)) [
      | inl inside ↦ seen_within rows stacks i unused inside
      | inr past ↦ get_or_past (slots_in rows stacks) i unused (omega (arith, past, length-slots 0 rows stacks)) ∙ sym (ap (λ (r : Row). slot_in r (words_at stacks i)) (get_or_past rows i no_row past))
    ]

occupied_in : (r : Row) (ws : List ℕ) → is_occupied (slot_in r ws) ≡ r.occupied
occupied_in r ws = test r.occupied (held_in r ws)
  where
    test : (b : Bool) (h : Held) → is_some (cond b (Some h) None) ≡ b
    test true h = refl
    test false h = refl

pub occupied_row : (rows : List Row) (stacks : Stacks) (i : ℕ) → is_occupied_at (slots_in rows stacks) i ≡ (row_at rows i).occupied
occupied_row rows stacks i = ap is_occupied (seen_at rows stacks i) ∙ occupied_in (row_at rows i) (words_at stacks i)

row_within : (rows : List Row) (i : ℕ) → (row_at rows i).occupied ≡ true → i < length rows
row_within rows i held =
    elim (cases_lt i (length rows)) [
      | inl inside ↦ inside
      | inr past ↦ absurd (false≢true (sym (ap (λ (r : Row). r.occupied) (get_or_past rows i no_row past)) ∙ held))
    ]

-- a row that was read
pub row_read : (rows : List Row) (i : ℕ) (x : Row) → i < length rows → x ≡ get_or rows i x → x ≡ row_at rows i
row_read rows i x inside is = is ∙ get_or_default rows i x no_row inside

-- ---- a table after a change of one slot

module _ (rows : List Row) (before : Stacks) (kept : IsKept rows before) (i : ℕ) (inside : i < length rows) (x : Row) (is_x : x ≡ row_at rows i) (r : Row) (after : Stacks) (change : Slot → Slot) (step : IsStep x r before after i change) where
  room : i < length before.slots
  room = omega (arith, inside, kept.few, kept.count)

  others_taken : (j : ℕ) → (j ≡ i → ⊥) → stack_at after j ≡ stack_at before j
  others_taken j other = ap (λ os. get_or os j None) step.others ∙ get_or-set_other before.slots i j (stack_at after i) None other

  pub step_kept : IsKept (slice_set rows i r) after
  step_kept = record {
    width = step.width ∙ kept.width;
    count = ap length step.others ∙ length-set before.slots i (stack_at after i) ∙ kept.count;
    few = omega (arith, kept.few, length-set rows i r);
    taken = λ j. elim (cases_eq j i) [
      | inl same ↦
          ap (λ k. is_taken after k) same ∙ step.taken
          ∙ sym (ap (λ k. (row_at (slice_set rows i r) k).occupied) same ∙ ap (λ (q : Row). q.occupied) (get_or-set_same rows i r no_row inside))
      | inr other ↦ ap is_some (others_taken j other) ∙ kept.taken j ∙ sym (ap (λ (q : Row). q.occupied) (get_or-set_other rows i j r no_row other))
    ];
    deep = λ j. elim (cases_eq j i) [
      | inl same ↦ subst (λ k. (row_at (slice_set rows i r) k).depth ≤ 17) (sym same) (subst (λ (q : Row). q.depth ≤ 17) (sym (get_or-set_same rows i r no_row inside)) step.deep)
      | inr other ↦ subst (λ (q : Row). q.depth ≤ 17) (sym (get_or-set_other rows i j r no_row other)) (kept.deep j)
    ];
    end = λ j. elim (cases_eq j i) [
      | inl same ↦ subst (λ k. (row_at (slice_set rows i r) k).occupied ≡ true → IsEnd k (row_at (slice_set rows i r) k)) (sym same) (subst (λ (q : Row). q.occupied ≡ true → IsEnd i q) (sym (get_or-set_same rows i r no_row inside)) step.end)
      | inr other ↦ subst (λ (q : Row). q.occupied ≡ true → IsEnd j q) (sym (get_or-set_other rows i j r no_row other)) (kept.end j)
    ];
  }

  pub step_some : 1 ≤ length rows → 1 ≤ length (slice_set rows i r)
  step_some some = omega (arith, some, length-set rows i r)

  slot_after : slot_in r (words_at after i) ≡ change (slot_at (slots_in rows before) i)
  slot_after = step.seen ∙ ap change (ap (λ (q : Row). slot_in q (words_at before i)) is_x ∙ sym (seen_at rows before i))

  slots_after : slots_in (slice_set rows i r) after ≡ slice_set (slots_in rows before) i (slot_in r (words_at after i))
  slots_after =
      let old = slots_in rows before in
      let long = length-slots 0 rows before in
      let long_new = length-slots 0 (slice_set rows i r) after in
      same_lists _ _ (long_new ∙ length-set rows i r ∙ sym long ∙ sym (length-set old i (slot_in r (words_at after i))))
      (λ j d small.
      let within : j < length (slice_set rows i r) = omega (arith, small, long_new) in
      let within_old : j < length rows = omega (arith, within, length-set rows i r) in
      seen_within (slice_set rows i r) after j d within ∙ elim (cases_eq j i) [
        | inl same ↦
            ap (λ k. slot_in (row_at (slice_set rows i r) k) (words_at after k)) same
            ∙ ap (λ (q : Row). slot_in q (words_at after i)) (get_or-set_same rows i r no_row inside)
            ∙ sym (ap (λ k. get_or (slice_set old i (slot_in r (words_at after i))) k d) same ∙ get_or-set_same old i (slot_in r (words_at after i)) d (omega (arith, inside, long)))
        | inr other ↦
            ap (λ (q : Row). slot_in q (words_at after j)) (get_or-set_other rows i j r no_row other)
            ∙ ap (λ o. slot_in (row_at rows j) (unwrap_or o [])) (others_taken j other)
            ∙ sym (get_or-set_other old i j (slot_in r (words_at after i)) d other ∙ seen_within rows before j d within_old)
      ])

  pub step_seen : (seen : List Slot) → slots_in rows before ≡ seen → slots_in (slice_set rows i r) after ≡ on_slot i change seen
  step_seen seen is = slots_after ∙ ap (slice_set (slots_in rows before) i) slot_after ∙ ap (on_slot i change) is

  in_seen : i < length (slots_in rows before)
  in_seen = omega (arith, inside, length-slots 0 rows before)

  table_set : slots_where (is_occupied_at (slice_set (slots_in rows before) i (slot_in r (words_at after i)))) ≡ slots_where (is_occupied_at (slots_in (slice_set rows i r) after))
  table_set = ap (λ ss. slots_where (is_occupied_at ss)) (sym slots_after)

  module _ (set : List ℕ) (is_set : set ≡ slots_where (is_occupied_at (slots_in rows before))) where
    -- it is occupied as before
    pub step_same : r.occupied ≡ x.occupied → set ≡ slots_where (is_occupied_at (slots_in (slice_set rows i r) after))
    step_same as_before =
        is_set
        ∙ same_set (slots_in rows before) i (slot_in r (words_at after i)) in_seen
        (occupied_in r (words_at after i) ∙ as_before ∙ ap (λ (q : Row). q.occupied) is_x ∙ sym (occupied_row rows before i))
        ∙ table_set

    pub step_retained : (new : List ℕ) → x.occupied ≡ true → new ≡ cond r.occupied set (without_slot i set) → new ≡ slots_where (is_occupied_at (slots_in (slice_set rows i r) after))
    step_retained new held next =
        retained (slots_in rows before) i (slot_in r (words_at after i)) in_seen r.occupied set new
        (occupied_row rows before i ∙ sym (ap (λ (q : Row). q.occupied) is_x) ∙ held) (sym (occupied_in r (words_at after i))) is_set next
        ∙ table_set

    pub step_removed : (new : List ℕ) → r.occupied ≡ false → new ≡ without_slot i set → new ≡ slots_where (is_occupied_at (slots_in (slice_set rows i r) after))
    step_removed new gone next =
        next ∙ ap (without_slot i) is_set ∙ removed (slots_in rows before) i (slot_in r (words_at after i)) in_seen (occupied_in r (words_at after i) ∙ gone) ∙ table_set

    pub step_added : (new : List ℕ) → r.occupied ≡ true → new ≡ with_slot i set → new ≡ slots_where (is_occupied_at (slots_in (slice_set rows i r) after))
    step_added new held next =
        next ∙ ap (with_slot i) is_set ∙ added (slots_in rows before) i (slot_in r (words_at after i)) in_seen (occupied_in r (words_at after i) ∙ held) ∙ table_set

-- the same where the row stays as it is
module _ (rows : List Row) (before : Stacks) (kept : IsKept rows before) (i : ℕ) (inside : i < length rows) (x : Row) (is_x : x ≡ row_at rows i) (after : Stacks) (change : Slot → Slot) (step : IsStep x x before after i change) where
  same_rows : slice_set rows i x ≡ rows
  same_rows = ap (slice_set rows i) is_x ∙ set-get_or rows i no_row

  pub stay_kept : IsKept rows after
  stay_kept = subst (λ rs. IsKept rs after) same_rows (step_kept rows before kept i inside x is_x x after change step)

  pub stay_seen : (seen : List Slot) → slots_in rows before ≡ seen → slots_in rows after ≡ on_slot i change seen
  stay_seen seen is = sym (ap (λ rs. slots_in rs after) same_rows) ∙ step_seen rows before kept i inside x is_x x after change step seen is

  pub stay_same : (set : List ℕ) → set ≡ slots_where (is_occupied_at (slots_in rows before)) → set ≡ slots_where (is_occupied_at (slots_in rows after))
  stay_same set is_set = step_same rows before kept i inside x is_x x after change step set is_set refl ∙ ap (λ rs. slots_where (is_occupied_at (slots_in rs after))) same_rows

-- ---- what is read of a table

pub id_in : (r : Row) (ws : List ℕ) (id : ℕ) → has_id id (slot_in r ws) ≡ is_row id r
id_in r ws id = test r.occupied (held_in r ws)
  where
    test : (b : Bool) (h : Held) → option_map_or (λ g. nat_eq g.id id) (cond b (Some h) None) false ≡ (b && nat_eq h.id id)
    test true h = refl
    test false h = refl

module _ (rows : List Row) (stacks : Stacks) (seen : List Slot) (is : slots_in rows stacks ≡ seen) where
  pub count_seen : length seen ≡ length rows
  count_seen = sym (ap (λ ss. length ss) is) ∙ length-slots 0 rows stacks

  module _ (i : ℕ) (x : Row) (is_x : x ≡ row_at rows i) where
    pub slot_read : slot_at seen i ≡ slot_in x (words_at stacks i)
    slot_read = sym (ap (λ ss. slot_at ss i) is) ∙ seen_at rows stacks i ∙ ap (λ (r : Row). slot_in r (words_at stacks i)) (sym is_x)

    pub occupied_read : x.occupied ≡ is_occupied_at seen i
    occupied_read = ap (λ (r : Row). r.occupied) is_x ∙ sym (occupied_row rows stacks i) ∙ ap (λ ss. is_occupied_at ss i) is

    pub id_read : (id : ℕ) → is_row id x ≡ has_id id (slot_at seen i)
    id_read id = sym (ap (has_id id) slot_read ∙ id_in x (words_at stacks i) id)

    pub held_read : is_occupied_at seen i ≡ true → held_at seen i ≡ Some (held_in x (words_at stacks i))
    held_read holds = ap (λ (s : Slot). s.here) slot_read ∙ ap (λ b. cond b (Some (held_in x (words_at stacks i))) None) (occupied_read ∙ holds)

    pub frames_read : is_occupied_at seen i ≡ true → frames_at seen i ≡ row_frames x (words_at stacks i)
    frames_read holds = ap (λ o. option_map_or (λ h. h.frames) o []) (held_read holds)

    pub depth_read : is_occupied_at seen i ≡ true → length (frames_at seen i) ≡ x.depth
    depth_read holds = ap length (frames_read holds) ∙ length-frames (words_at stacks i) x.depth

    pub made_read : (slot_at seen i).made ≡ x.made
    made_read = ap (λ (s : Slot). s.made) slot_read

-- a thread with a frame holds the slot
pub framed_holds : (seen : List Slot) (i n : ℕ) → n < length (frames_at seen i) → is_occupied_at seen i ≡ true
framed_holds seen i n some = by_here (held_at seen i) some
  where
    by_here : (h : Option Held) → n < length (option_map_or (λ g. g.frames) h []) → is_some h ≡ true
    by_here None some = absurd (omega (arith, some))
    by_here (Some h) some = refl

module _ (rows : List Row) (stacks : Stacks) (kept : IsKept rows stacks) (seen : List Slot) (is : slots_in rows stacks ≡ seen) (i : ℕ) (holds : is_occupied_at seen i ≡ true) where
  pub holds_within : i < length rows
  holds_within = row_within rows i (sym (occupied_row rows stacks i) ∙ ap (λ ss. is_occupied_at ss i) is ∙ holds)

  pub is_held : (x : Row) → x ≡ row_at rows i → IsHeld x stacks i
  is_held x is_x = record {
    occupied = occupied_read rows stacks seen is i x is_x ∙ holds;
    taken = kept.taken i ∙ sym (ap (λ (r : Row). r.occupied) is_x) ∙ occupied_read rows stacks seen is i x is_x ∙ holds;
    width = kept.width;
    deep = subst (λ (r : Row). r.depth ≤ 17) (sym is_x) (kept.deep i);
    end = subst (IsEnd i) (sym is_x) (kept.end i (sym (ap (λ (r : Row). r.occupied) is_x) ∙ occupied_read rows stacks seen is i x is_x ∙ holds));
  }

-- the first row that passes a test is the first slot that does
first_seen : (test : Row → Bool) (also : Slot → Bool) → ((r : Row) (ws : List ℕ) → also (slot_in r ws) ≡ test r) → (k : ℕ) (rows : List Row) (stacks : Stacks) → position_or_len also (slots_from k rows stacks) ≡ position_or_len test rows
first_seen test also same k [] stacks = refl
first_seen test also same k (r ∷ rows) stacks = λ j. one_more (not (same r (words_at stacks k) j)) (first_seen test also same (suc k) rows stacks j)
  where
    one_more : Bool → ℕ → ℕ
    one_more b n = cond b (1 + n) 0

pub position_seen : (test : Row → Bool) (also : Slot → Bool) → ((r : Row) (ws : List ℕ) → also (slot_in r ws) ≡ test r) → (k : ℕ) (rows : List Row) (stacks : Stacks) → position also (slots_from k rows stacks) ≡ position test rows
position_seen test also same k rows stacks = λ j. at (length-slots k rows stacks j) (first_seen test also same k rows stacks j)
  where
    at : ℕ → ℕ → Option ℕ
    at n p = cond (nat_lt p n) (Some p) None

-- ---- a free slot

pub stack_free : (stacks : Stacks) (i : ℕ) → i < length stacks.slots → is_taken stacks i ≡ false → is_free stacks i ≡ true
stack_free stacks i inside gone = ap (λ b. b && not (is_taken stacks i)) (lt-ltb i (length stacks.slots) inside) ∙ ap not gone

module _ (rows : List Row) (stacks : Stacks) (kept : IsKept rows stacks) (seen : List Slot) (is : slots_in rows stacks ≡ seen) (i : ℕ) (free : is_free_at seen i ≡ true) where
  pub free_within : i < length rows
  free_within = omega (arith, within-free seen i free, count_seen rows stacks seen is)

  free_row : (row_at rows i).occupied ≡ false
  free_row = sym (occupied_row rows stacks i) ∙ ap (λ ss. is_occupied_at ss i) is ∙ not_free (is_occupied_at seen i) (sym (is_free_at-within seen i (within-free seen i free)) ∙ free)
    where
      not_free : (b : Bool) → not b ≡ true → b ≡ false
      not_free false e = refl
      not_free true e = absurd (false≢true e)

  pub free_stack : is_free stacks i ≡ true
  free_stack = stack_free stacks i (omega (arith, free_within, kept.few, kept.count)) (kept.taken i ∙ free_row)

pub made_fits : (n made bound rest : ℕ) → 1 ≤ n → 1 + rest + n * made < bound → made + 1 < bound
made_fits n made bound rest some fits = let more : 1 * made ≤ n * made = mul-le-mul_right made some in omega (arith, fits, more, one-mul made)

-- ---- a table without threads

none_taken : (count i : ℕ) → is_some (get_or {A = Option (List ℕ)} (replicate count None) i None) ≡ false
none_taken zero i = refl
none_taken (suc count) zero = refl
none_taken (suc count) (suc i) = none_taken count i

-- ---- a table whose slots are all given back

module _ (rows old : List Row) (stacks others : Stacks) (long : length rows ≡ length old) (made : (i : ℕ) → (row_at rows i).made ≡ (row_at old i).made) (free : (i : ℕ) → (row_at rows i).occupied ≡ false) where
  pub cleared_kept : (before : Stacks) (was : List Row) → IsKept was before → stacks ≡ with_kept_alone None before → length old ≤ 64 → ((i : ℕ) → (row_at rows i).depth ≤ 17) → IsKept rows stacks
  cleared_kept before was kept is few deep = record {
    width = ap (λ (s : Stacks). s.width) is ∙ kept.width;
    count = ap (λ (s : Stacks). length s.slots) is ∙ length-replicate (length before.slots) None ∙ kept.count;
    few = omega (arith, long, few);
    taken = λ i. ap (λ (s : Stacks). is_taken s i) is ∙ none_taken (length before.slots) i ∙ sym (free i);
    deep = deep;
    end = λ i held. absurd (false≢true (sym (free i) ∙ held));
  }

  slot_free : (r q : Row) (ws vs : List ℕ) → r.made ≡ q.made → r.occupied ≡ false → slot_in r ws ≡ freed (slot_in q vs)
  slot_free r q ws vs same gone = λ j. record { made = same j; here = cond (gone j) (Some (held_in r ws)) None }

  pub cleared_seen : slots_in rows stacks ≡ map freed (slots_in old others)
  cleared_seen =
      let one = length-slots 0 rows stacks in let two = length-slots 0 old others in
      same_lists _ _ (one ∙ long ∙ sym two ∙ sym (length-map (slots_in old others) freed))
      (λ i d small.
      let inside : i < length rows = omega (arith, small, one) in
      let there : i < length (slots_in old others) = omega (arith, inside, long, two) in
      seen_within rows stacks i d inside
      ∙ slot_free (row_at rows i) (row_at old i) (words_at stacks i) (words_at others i) (made i) (free i)
      ∙ ap freed (sym (seen_within old others i unused (omega (arith, inside, long))))
      ∙ sym (get_or-map freed (slots_in old others) i unused) ∙ get_or_default (map freed (slots_in old others)) i (freed unused) d (omega (arith, there, length-map (slots_in old others) freed)))

  pub cleared_set : [] ≡ slots_where (is_occupied_at (slots_in rows stacks))
  cleared_set = none_occupied (slots_in rows stacks) (λ k. occupied_row rows stacks k ∙ free k)

-- ---- a table on which no thread was created

none_made : (n i : ℕ) → row_at (replicate n no_row) i ≡ no_row
none_made zero i = refl
none_made (suc n) zero = refl
none_made (suc n) (suc i) = none_made n i

module _ (n : ℕ) (rows : List Row) (stacks : Stacks) (long : length rows ≡ n) (made : (i : ℕ) → (row_at rows i).made ≡ 0) (free : (i : ℕ) → (row_at rows i).occupied ≡ false) where
  pub opening_kept : n ≤ 64 → ((i : ℕ) → (row_at rows i).depth ≤ 17) → stacks ≡ all_free 64 204 → IsKept rows stacks
  opening_kept few deep is_stacks = record {
    width = ap (λ (s : Stacks). s.width) is_stacks;
    count = ap (λ (s : Stacks). length s.slots) is_stacks;
    few = omega (arith, long, few);
    taken = λ i. ap (λ (s : Stacks). is_taken s i) is_stacks ∙ none_taken 64 i ∙ sym (free i);
    deep = deep;
    end = λ i held. absurd (false≢true (sym (free i) ∙ held));
  }

  pub opening_seen : slots_in rows stacks ≡ replicate n unused
  opening_seen =
      cleared_seen rows (replicate n no_row) stacks stacks (long ∙ sym (length-replicate n no_row)) (λ i. made i ∙ sym (ap (λ (r : Row). r.made) (none_made n i))) free
      ∙ all n 0
    where
      all : (n k : ℕ) → map freed (slots_from k (replicate n no_row) stacks) ≡ replicate n unused
      all zero k = refl
      all (suc n) k = ap (λ ss. unused ∷ ss) (all n (suc k))

  pub opening_set : (set : List ℕ) → set ≡ [] → set ≡ slots_where (is_occupied_at (slots_in rows stacks))
  opening_set set none = none ∙ none_occupied (slots_in rows stacks) (λ k. occupied_row rows stacks k ∙ free k)
