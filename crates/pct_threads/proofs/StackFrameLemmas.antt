-- Frames in the words of a stack slot: what a write of a word does.
use Rattle.pct_names.proofs.Names.{◌+◌, ◌*◌, ◌-◌, ◌<◌, ◌≤◌, zero, suc, [], ◌∷◌, ap, arith, cases_eq, cond, Frame, FrameKind, get_or, inl}
use Rattle.pct_names.proofs.Names.{inr, length, List, new_frame, None, refl, slice_get, slice_set, Some, sym, ℕ, ◌∙◌, ◌≡◌}
use Rattle.std.specs.Prelude.{nat_eq}
use Rattle.std.proofs.Common.{length-set}
use Rattle.std.proofs.lemmas.Bool.{eq-eqb, ne_eqb}
use Rattle.std.proofs.lemmas.List.{get_or-set_same, get_or-set_other}
use Rattle.pct_model.specs.Actions.{at_pc, set_local, without_first}
use Rattle.pct_model.specs.declared.state.FrameKind.TheVariants as kind
use Rattle.pct_threads.specs.FrameWords.{kind_of, frame_word_of, with_word}
use Rattle.pct_threads.specs.Slots.{frame_at, on_frame}
use Rattle.pct_threads.specs.StackFrames.{kind_in, word_in, frame_from, frame_in, frames_in}

-- ---- a frame by its words

-- a number below 11 is one of eleven
pub by_word : (P : ℕ → Type 0) → P 0 → P 1 → P 2 → P 3 → P 4 → P 5 → P 6 → P 7 → P 8 → P 9 → P 10 → (i : ℕ) → i < 11 → P i
by_word P p0 p1 p2 p3 p4 p5 p6 p7 p8 p9 p10 zero within = p0
by_word P p0 p1 p2 p3 p4 p5 p6 p7 p8 p9 p10 (suc zero) within = p1
by_word P p0 p1 p2 p3 p4 p5 p6 p7 p8 p9 p10 (suc (suc zero)) within = p2
by_word P p0 p1 p2 p3 p4 p5 p6 p7 p8 p9 p10 (suc (suc (suc zero))) within = p3
by_word P p0 p1 p2 p3 p4 p5 p6 p7 p8 p9 p10 (suc (suc (suc (suc zero)))) within = p4
by_word P p0 p1 p2 p3 p4 p5 p6 p7 p8 p9 p10 (suc (suc (suc (suc (suc zero))))) within = p5
by_word P p0 p1 p2 p3 p4 p5 p6 p7 p8 p9 p10 (suc (suc (suc (suc (suc (suc zero)))))) within = p6
by_word P p0 p1 p2 p3 p4 p5 p6 p7 p8 p9 p10 (suc (suc (suc (suc (suc (suc (suc zero))))))) within = p7
by_word P p0 p1 p2 p3 p4 p5 p6 p7 p8 p9 p10 (suc (suc (suc (suc (suc (suc (suc (suc zero)))))))) within = p8
by_word P p0 p1 p2 p3 p4 p5 p6 p7 p8 p9 p10 (suc (suc (suc (suc (suc (suc (suc (suc (suc zero))))))))) within = p9
by_word P p0 p1 p2 p3 p4 p5 p6 p7 p8 p9 p10 (suc (suc (suc (suc (suc (suc (suc (suc (suc (suc zero)))))))))) within = p10
by_word P p0 p1 p2 p3 p4 p5 p6 p7 p8 p9 p10 (suc (suc (suc (suc (suc (suc (suc (suc (suc (suc (suc i))))))))))) within = absurd (omega arith)

-- the frame with these words
abbrev frame_by : (ℕ → ℕ) → Frame
frame_by word = record { func = word 0; pc = word 1; locals = word 3 ∷ word 4 ∷ word 5 ∷ word 6 ∷ word 7 ∷ word 8 ∷ word 9 ∷ word 10 ∷ []; kind = kind_in (word 2) (word 11) }

abbrev frame_of : ℕ → ℕ → ℕ → ℕ → ℕ → ℕ → ℕ → ℕ → ℕ → ℕ → ℕ → ℕ → Frame
frame_of func pc number a b c d e f g h once = record { func = func; pc = pc; locals = a ∷ b ∷ c ∷ d ∷ e ∷ f ∷ g ∷ h ∷ []; kind = kind_in number once }

by_same : (f g : ℕ → ℕ) → ((c : ℕ) → c < 12 → f c ≡ g c) → frame_by f ≡ frame_by g
by_same f g same = λ j. frame_of (same 0 (omega arith) j) (same 1 (omega arith) j) (same 2 (omega arith) j) (same 3 (omega arith) j) (same 4 (omega arith) j) (same 5 (omega arith) j) (same 6 (omega arith) j) (same 7 (omega arith) j) (same 8 (omega arith) j) (same 9 (omega arith) j) (same 10 (omega arith) j) (same 11 (omega arith) j)

-- frames with the same words are the same
pub frame_same : (ws us : List ℕ) (first other : ℕ) → ((c : ℕ) → c < 12 → word_in ws first c ≡ word_in us other c) → frame_from ws first ≡ frame_from us other
frame_same ws us first other same = by_same (word_in ws first) (word_in us other) same

-- a frame has the words that were written
pub frame_new : (ws : List ℕ) (first func number arg once : ℕ) (k : FrameKind) → kind_in number once ≡ k → ((c : ℕ) → c < 12 → word_in ws first c ≡ get_or (func ∷ 0 ∷ number ∷ arg ∷ 0 ∷ 0 ∷ 0 ∷ 0 ∷ 0 ∷ 0 ∷ 0 ∷ once ∷ []) c 0) → frame_from ws first ≡ new_frame func arg k
frame_new ws first func number arg once k is same =
    by_same (word_in ws first) (λ c. get_or (func ∷ 0 ∷ number ∷ arg ∷ 0 ∷ 0 ∷ 0 ∷ 0 ∷ 0 ∷ 0 ∷ 0 ∷ once ∷ []) c 0) same ∙ ap (new_frame func arg) is

-- one word has this value
abbrev with_value : ℕ → ℕ → (ℕ → ℕ) → ℕ → ℕ
with_value i v f c = cond (nat_eq c i) v (f c)

value_at : (ws : List ℕ) (first i v c : ℕ) → first + i < length ws → word_in (slice_set ws (first + i) v) first c ≡ with_value i v (word_in ws first) c
value_at ws first i v c within = elim (cases_eq c i) [
  | inl same ↦
      ap (word_in (slice_set ws (first + i) v) first) same ∙ get_or-set_same ws (first + i) v 0 within
      ∙ sym (ap (λ b. cond b v (word_in ws first c)) (eq-eqb c i same))
  | inr other ↦
      get_or-set_other ws (first + i) (first + c) v 0 (λ e. other (omega (arith, e)))
      ∙ sym (ap (λ b. cond b v (word_in ws first c)) (ne_eqb c i other))
]

value_set : (v i : ℕ) (f : ℕ → ℕ) → i < 11 → (i ≡ 2 → ⊥) → frame_by (with_value i v f) ≡ with_word i v (frame_by f)
value_set v i f small other = by_word (λ i. (i ≡ 2 → ⊥) → frame_by (with_value i v f) ≡ with_word i v (frame_by f)) (λ o. refl) (λ o. refl) (λ o. absurd (o refl)) (λ o. refl) (λ o. refl) (λ o. refl) (λ o. refl) (λ o. refl) (λ o. refl) (λ o. refl) (λ o. refl) i small other

-- the frame after a write of one of its words, but that of the kind
pub word_set : (ws : List ℕ) (first i value : ℕ) → i < 11 → (i ≡ 2 → ⊥) → first + i < length ws → frame_from (slice_set ws (first + i) value) first ≡ with_word i value (frame_from ws first)
word_set ws first i value small other within =
    by_same (word_in (slice_set ws (first + i) value) first) (with_value i value (word_in ws first)) (λ c inside. value_at ws first i value c within)
    ∙ value_set value i (word_in ws first) small other

-- the words of the kind are those of the kind with a number
abbrev pub kind_set : List ℕ → ℕ → ℕ → ℕ → List ℕ
kind_set ws first number once = slice_set (slice_set ws (first + 2) number) (first + 11) once

pub kind_written : (ws : List ℕ) (first number once value : ℕ) → first + 11 < length ws → kind_in number once ≡ kind_of value → frame_from (kind_set ws first number once) first ≡ with_word 2 value (frame_from ws first)
kind_written ws first number once value within is =
    let us = slice_set ws (first + 2) number in
    by_same (word_in (kind_set ws first number once) first) (with_value 11 once (with_value 2 number (word_in ws first)))
    (λ c inside. value_at us first 11 once c (omega (arith, within, length-set ws (first + 2) number)) ∙ ap (λ y. cond (nat_eq c 11) once y) (value_at ws first 2 number c (omega (arith, within))))
    ∙ ap (λ k. record (frame_from ws first) { kind = k }) is

-- a word but that of the kind
pub word_of : (ws : List ℕ) (first i : ℕ) → i < 11 → (i ≡ 2 → ⊥) → word_in ws first i ≡ frame_word_of (frame_from ws first) i
word_of ws first i small other = by_word (λ i. (i ≡ 2 → ⊥) → word_in ws first i ≡ frame_word_of (frame_from ws first) i) (λ o. refl) (λ o. refl) (λ o. absurd (o refl)) (λ o. refl) (λ o. refl) (λ o. refl) (λ o. refl) (λ o. refl) (λ o. refl) (λ o. refl) (λ o. refl) i small other

-- a local
pub local_of : (ws : List ℕ) (first i : ℕ) → i < 8 → word_in ws first (3 + i) ≡ get_or (frame_from ws first).locals i 0
local_of ws first zero small = refl
local_of ws first (suc zero) small = refl
local_of ws first (suc (suc zero)) small = refl
local_of ws first (suc (suc (suc zero))) small = refl
local_of ws first (suc (suc (suc (suc zero)))) small = refl
local_of ws first (suc (suc (suc (suc (suc zero))))) small = refl
local_of ws first (suc (suc (suc (suc (suc (suc zero)))))) small = refl
local_of ws first (suc (suc (suc (suc (suc (suc (suc zero))))))) small = refl
local_of ws first (suc (suc (suc (suc (suc (suc (suc (suc i)))))))) small = absurd (omega arith)

pub no_local : (ws : List ℕ) (first i : ℕ) → 8 ≤ i → 0 ≡ get_or (frame_from ws first).locals i 0
no_local ws first (suc (suc (suc (suc (suc (suc (suc (suc i)))))))) past = refl
no_local ws first zero past = absurd (omega arith)
no_local ws first (suc zero) past = absurd (omega arith)
no_local ws first (suc (suc zero)) past = absurd (omega arith)
no_local ws first (suc (suc (suc zero))) past = absurd (omega arith)
no_local ws first (suc (suc (suc (suc zero)))) past = absurd (omega arith)
no_local ws first (suc (suc (suc (suc (suc zero))))) past = absurd (omega arith)
no_local ws first (suc (suc (suc (suc (suc (suc zero)))))) past = absurd (omega arith)
no_local ws first (suc (suc (suc (suc (suc (suc (suc zero))))))) past = absurd (omega arith)

-- a local is a word
as_local : (f : Frame) (i v : ℕ) → i < 8 → with_word (3 + i) v f ≡ record f { locals = slice_set f.locals i v }
as_local f zero v small = refl
as_local f (suc zero) v small = refl
as_local f (suc (suc zero)) v small = refl
as_local f (suc (suc (suc zero))) v small = refl
as_local f (suc (suc (suc (suc zero)))) v small = refl
as_local f (suc (suc (suc (suc (suc zero))))) v small = refl
as_local f (suc (suc (suc (suc (suc (suc zero)))))) v small = refl
as_local f (suc (suc (suc (suc (suc (suc (suc zero))))))) v small = refl
as_local f (suc (suc (suc (suc (suc (suc (suc (suc i)))))))) v small = absurd (omega (arith, small))

-- there is no local from 8 on
past_locals : (ws : List ℕ) (first i v : ℕ) → 8 ≤ i → frame_from ws first ≡ record (frame_from ws first) { locals = slice_set (frame_from ws first).locals i v }
past_locals ws first (suc (suc (suc (suc (suc (suc (suc (suc i)))))))) v past = refl
past_locals ws first zero v past = absurd (omega arith)
past_locals ws first (suc zero) v past = absurd (omega arith)
past_locals ws first (suc (suc zero)) v past = absurd (omega arith)
past_locals ws first (suc (suc (suc zero))) v past = absurd (omega arith)
past_locals ws first (suc (suc (suc (suc zero)))) v past = absurd (omega arith)
past_locals ws first (suc (suc (suc (suc (suc zero))))) v past = absurd (omega arith)
past_locals ws first (suc (suc (suc (suc (suc (suc zero)))))) v past = absurd (omega arith)
past_locals ws first (suc (suc (suc (suc (suc (suc (suc zero))))))) v past = absurd (omega arith)

-- ---- the list of the frames

pub length-frames : (ws : List ℕ) (n : ℕ) → length (frames_in ws n) ≡ n
length-frames ws zero = refl
length-frames ws (suc n) = ap suc (length-frames ws n)

-- the frames below a number are the same
pub frames_same : (ws us : List ℕ) (n : ℕ) → ((i : ℕ) → i < 12 * n → get_or us i 0 ≡ get_or ws i 0) → frames_in us n ≡ frames_in ws n
frames_same ws us zero words = refl
frames_same ws us (suc n) words = λ j.
    frame_same us ws (12 * n) (12 * n) (λ c small. words (12 * n + c) (omega (arith, small))) j
    ∷ frames_same ws us n (λ i below. words i (omega (arith, below))) j

-- the frame with an index
pub frame_with_index : (ws : List ℕ) (n i : ℕ) → i < n → slice_get (frames_in ws n) i ≡ Some (frame_in ws (n - 1 - i))
frame_with_index ws zero i within = absurd (omega arith)
frame_with_index ws (suc n) zero within = ap (λ k. Some (frame_in ws k)) {x = n} {y = suc n - 1 - 0} (omega arith)
frame_with_index ws (suc n) (suc i) within = frame_with_index ws n i (omega (arith, within)) ∙ ap (λ k. Some (frame_in ws k)) {x = n - 1 - i} {y = suc n - 1 - suc i} (omega (arith, within))

pub no_frame : (ws : List ℕ) (n i : ℕ) → n ≤ i → slice_get (frames_in ws n) i ≡ None
no_frame ws zero i past = refl
no_frame ws (suc n) zero past = absurd (omega arith)
no_frame ws (suc n) (suc i) past = no_frame ws n i (omega (arith, past))

-- a frame, counted from the oldest
pub frame_at-in : (ws : List ℕ) (n k : ℕ) → k < n → frame_at (frames_in ws n) k ≡ frame_in ws k
frame_at-in ws n k within = ap (λ m. get_or (frames_in ws n) (m - 1 - k) (new_frame 0 0 kind.Call)) (length-frames ws n) ∙ nth n k within
  where
    nth : (n k : ℕ) → k < n → get_or (frames_in ws n) (n - 1 - k) (new_frame 0 0 kind.Call) ≡ frame_in ws k
    nth zero k within = absurd (omega arith)
    nth (suc n) k within = elim (cases_eq k n) [
      | inl same ↦ ap (λ i. get_or (frames_in ws (suc n)) i (new_frame 0 0 kind.Call)) {x = suc n - 1 - k} {y = 0} (omega (arith, same)) ∙ ap (frame_in ws) (sym same)
      | inr other ↦ ap (λ i. get_or (frames_in ws (suc n)) i (new_frame 0 0 kind.Call)) {x = suc n - 1 - k} {y = suc (n - 1 - k)} (omega (arith, within, other)) ∙ nth n k (omega (arith, within, other))
    ]

-- without the newest
pub popped : (ws : List ℕ) (d n : ℕ) → 0 < d → n + 1 ≡ d → frames_in ws n ≡ without_first (frames_in ws d)
popped ws zero n some less = absurd (omega (arith, some))
popped ws (suc d) n some less = ap (frames_in ws) {x = n} {y = d} (omega (arith, less))

-- ---- a change of frame k alone

module _ (ws us : List ℕ) (k : ℕ) (F : Frame → Frame) (here : frame_in us k ≡ F (frame_in ws k)) (apart : (n c : ℕ) → (n ≡ k → ⊥) → c < 12 → word_in us (12 * n) c ≡ word_in ws (12 * n) c) where
  other_frame : (n : ℕ) → (n ≡ k → ⊥) → frame_in us n ≡ frame_in ws n
  other_frame n other = frame_same us ws (12 * n) (12 * n) (λ c inside. apart n c other inside)

  frames_below : (n : ℕ) → n ≤ k → frames_in us n ≡ frames_in ws n
  frames_below zero low = refl
  frames_below (suc n) low = λ j. other_frame n (λ e. absurd (omega (arith, e, low))) j ∷ frames_below n (omega (arith, low)) j

  -- of all frames
  pub any_frame : (n : ℕ) → k < n → frames_in us n ≡ on_frame k F (frames_in ws n)
  any_frame n inside =
      placed n inside
      ∙ ap (λ m. slice_set (frames_in ws n) (m - 1 - k) (F (frame_in ws k))) (sym (length-frames ws n))
      ∙ ap (λ f. slice_set (frames_in ws n) (length (frames_in ws n) - 1 - k) (F f)) (sym (frame_at-in ws n k inside))
    where
      placed : (n : ℕ) → k < n → frames_in us n ≡ slice_set (frames_in ws n) (n - 1 - k) (F (frame_in ws k))
      placed zero inside = absurd (omega arith)
      placed (suc n) inside = elim (cases_eq k n) [
        | inl same ↦
            (λ j. (ap (frame_in us) (sym same) ∙ here) j ∷ frames_below n (omega (arith, same)) j)
            ∙ ap (λ p. slice_set (frames_in ws (suc n)) p (F (frame_in ws k))) {x = 0} {y = suc n - 1 - k} (omega (arith, same))
        | inr other ↦
            (λ j. other_frame n (λ e. other (sym e)) j ∷ placed n (omega (arith, inside, other)) j)
            ∙ ap (λ p. slice_set (frames_in ws (suc n)) p (F (frame_in ws k))) {x = suc (n - 1 - k)} {y = suc n - 1 - k} (omega (arith, inside, other))
      ]

  -- of the newest one
  pub newest_frame : (n : ℕ) → n ≡ k → frames_in us (suc n) ≡ F (frame_in ws n) ∷ frames_in ws n
  newest_frame n same = λ j. (ap (frame_in us) same ∙ here ∙ ap (λ m. F (frame_in ws m)) (sym same)) j ∷ frames_below n (omega (arith, same)) j

-- a write of a word of frame k leaves the words of the others
pub apart_set : (ws : List ℕ) (k i v n c : ℕ) → i < 12 → (n ≡ k → ⊥) → c < 12 → word_in (slice_set ws (12 * k + i) v) (12 * n) c ≡ word_in ws (12 * n) c
apart_set ws k i v n c small other inside = get_or-set_other ws (12 * k + i) (12 * n + c) v 0 (λ e. other (omega (arith, e, small, inside)))

-- a write of word i of frame k
pub any_word : (ws : List ℕ) (k i v : ℕ) → i < 11 → (i ≡ 2 → ⊥) → 12 * k + i < length ws → (n : ℕ) → k < n → frames_in (slice_set ws (12 * k + i) v) n ≡ on_frame k (with_word i v) (frames_in ws n)
any_word ws k i v small other within n inside =
    any_frame ws (slice_set ws (12 * k + i) v) k (with_word i v) (word_set ws (12 * k) i v small other within) (λ m c. apart_set ws k i v m c (omega (arith, small))) n inside

-- a write of the words of its kind
pub any_kind : (ws : List ℕ) (k number once v : ℕ) → kind_in number once ≡ kind_of v → 12 * k + 11 < length ws → (n : ℕ) → k < n → frames_in (kind_set ws (12 * k) number once) n ≡ on_frame k (with_word 2 v) (frames_in ws n)
any_kind ws k number once v is within n inside =
    any_frame ws (kind_set ws (12 * k) number once) k (with_word 2 v) (kind_written ws (12 * k) number once v within is)
    (λ m c other small. apart_set (slice_set ws (12 * k + 2) number) k 11 once m c (omega arith) other small ∙ apart_set ws k 2 number m c (omega arith) other small) n inside

-- the program counter of the newest frame
pub pc_set : (ws : List ℕ) (n pc : ℕ) → 0 < n → n ≤ 17 → length ws ≡ 204 → frames_in (slice_set ws (12 * (n - 1) + 1) pc) n ≡ at_pc pc (frames_in ws n)
pc_set ws zero pc some few long = absurd (omega (arith, some))
pc_set ws (suc n) pc some few long =
    ap (λ m. frames_in (slice_set ws (12 * m + 1) pc) (suc n)) {x = suc n - 1} {y = n} (omega arith)
    ∙ newest_frame ws (slice_set ws (12 * n + 1) pc) n (with_word 1 pc) (word_set ws (12 * n) 1 pc (omega arith) (λ e. absurd (omega (arith, e))) (omega (arith, few, long))) (λ m c. apart_set ws n 1 pc m c (omega arith)) n refl

-- a local of it
pub top_local : (ws : List ℕ) (n i v : ℕ) → 0 < n → n ≤ 17 → i < 8 → length ws ≡ 204 → frames_in (slice_set ws (12 * (n - 1) + (3 + i)) v) n ≡ set_local i v (frames_in ws n)
top_local ws zero i v some few small long = absurd (omega (arith, some))
top_local ws (suc n) i v some few small long =
    ap (λ m. frames_in (slice_set ws (12 * m + (3 + i)) v) (suc n)) {x = suc n - 1} {y = n} (omega arith)
    ∙ newest_frame ws (slice_set ws (12 * n + (3 + i)) v) n (with_word (3 + i) v) (word_set ws (12 * n) (3 + i) v (omega (arith, small)) (λ e. absurd (omega (arith, e))) (omega (arith, few, long, small))) (λ m c. apart_set ws n (3 + i) v m c (omega (arith, small))) n refl
    ∙ ap (λ f. f ∷ frames_in ws n) (as_local (frame_in ws n) i v small)

-- no local changes from 8 on, and none where there is no frame
pub no_top_local : (ws : List ℕ) (n i v : ℕ) → 8 ≤ i → frames_in ws n ≡ set_local i v (frames_in ws n)
no_top_local ws zero i v past = refl
no_top_local ws (suc n) i v past = ap (λ f. f ∷ frames_in ws n) (past_locals ws (12 * n) i v past)
