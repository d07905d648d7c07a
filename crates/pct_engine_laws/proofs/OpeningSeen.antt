-- What is kept of the initial state.
use Rattle.pct_names.proofs.Names.{◌&&◌, ◌<◌, [], ap, Bool, cond, count_by, false, filter, holds_slot, is_on, List, main_of, names_of}
use Rattle.pct_names.proofs.Names.{new_frame, new_shared, new_thread, None, opening, refl, replicate, Script, slice_set, slot_of, sym}
use Rattle.pct_names.proofs.Names.{Thread, true, zero-mod, ℕ, ◌∙◌, ◌∷◌, ◌≡◌}
use Rattle.std.proofs.Common.{eq-eqb, ne_eqb}
use Rattle.pct_model.specs.declared.state.FrameKind.TheVariants as kind
use Rattle.pct_engine_laws.specs.Seen.{SeenSlot, Seen, seen_slot, seen}
use Rattle.pct_engine_laws.proofs.IndexedLists.{by_index, changed_by_index, constant_range}

-- a slot on which no thread was made
abbrev pub unused_slot : SeenSlot
unused_slot = record { made = 0; here = [] }

-- a slot with its first thread
abbrev pub first_on_slot : Thread → SeenSlot
first_on_slot t = record { made = 1; here = t ∷ [] }

-- the initial thread
abbrev pub first_thread : Script → Thread
first_thread script = new_thread 1 false (new_frame (main_of (names_of script.funcs)) 0 kind.Main)

-- the slots of process 1 in the initial state: the initial thread is on slot 0
abbrev pub first_slots : ℕ → Thread → List SeenSlot
first_slots slots t = slice_set (replicate slots unused_slot) 0 (first_on_slot t)

-- what is kept of the initial state
abbrev pub seen_opening : ℕ → Script → Seen
seen_opening slots script = record {
  processes = record { pid = 1; parent = 0; ended = None; slots = first_slots slots (first_thread script); shared = new_shared script } ∷ [];
  made = 1;
  stop = None;
}

slot_with : (slots s : ℕ) (t : Thread) (on : Bool) → is_on slots s t ≡ on → holds_slot t ≡ true → seen_slot slots (t ∷ []) s ≡ cond on (first_on_slot t) unused_slot
slot_with slots s t true e holds =
    let made : count_by (is_on slots s) (t ∷ []) ≡ 1 = ap (λ (b : Bool). count_by (λ (u : Thread). b) (t ∷ [])) e in
    let here : filter (λ u. is_on slots s u && holds_slot u) (t ∷ []) ≡ t ∷ [] = ap (λ (b : Bool). cond (b && holds_slot t) (t ∷ []) []) e ∙ ap (λ (b : Bool). cond b (t ∷ []) []) holds in
    λ i. record { made = made i; here = here i }
slot_with slots s t false e holds =
    let made : count_by (is_on slots s) (t ∷ []) ≡ 0 = ap (λ (b : Bool). count_by (λ (u : Thread). b) (t ∷ [])) e in
    let here : filter (λ u. is_on slots s u && holds_slot u) (t ∷ []) ≡ [] = ap (λ (b : Bool). cond (b && holds_slot t) (t ∷ []) []) e in
    λ i. record { made = made i; here = here i }

-- the slots of a process with one thread, which holds slot 0
pub one_thread_on_first : (slots : ℕ) (t : Thread) → 0 < slots → slot_of slots t.id ≡ 0 → holds_slot t ≡ true → by_index (seen_slot slots (t ∷ [])) slots ≡ first_slots slots t
one_thread_on_first slots t some first holds =
    changed_by_index (λ s. unused_slot) (seen_slot slots (t ∷ [])) slots 0 some (λ s other. slot_with slots s t false (ne_eqb (slot_of slots t.id) s (λ e. other (sym e ∙ first))) holds)
    ∙ ap (λ (s : SeenSlot). slice_set (by_index (λ k. unused_slot) slots) 0 s) (slot_with slots 0 t true (eq-eqb (slot_of slots t.id) 0 first) holds)
    ∙ ap (λ (rows : List SeenSlot). slice_set rows 0 (first_on_slot t)) (constant_range unused_slot 0 slots)

-- the initial state
pub opening_is_seen : (slots : ℕ) (script : Script) → 0 < slots → seen slots (opening script) ≡ seen_opening slots script
unfolding opening
opening_is_seen slots script some =
    let rows : by_index (seen_slot slots (first_thread script ∷ [])) slots ≡ first_slots slots (first_thread script) = one_thread_on_first slots (first_thread script) some (zero-mod slots) refl in
    λ i. record { processes = record { pid = 1; parent = 0; ended = None; slots = rows i; shared = new_shared script } ∷ []; made = 1; stop = None }
