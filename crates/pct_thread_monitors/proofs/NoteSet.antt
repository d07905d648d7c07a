-- The notes and the known threads that have not ended, after a thread got another note.
use Rattle.std.proofs.Common.{◌≡◌, ℕ, Bool, true, false, ◌&&◌, cond, refl, sym, ap, ◌∙◌, nat_eq}
use Rattle.std.specs.Cmp.{both_tied, unsigned_tied}
use Rattle.std.specs.Ordering.{is_eq, nat_cmp, ordering_then}
use Rattle.std.proofs.lemmas.Bool.{and_parts, eqb-true}
use Rattle.pct_thread_monitors.specs.declared.note.Note.{Note}
use Rattle.pct_thread_monitors.specs.Notes.{is_unended}

-- the keys of two threads
pub pairs_compare : (a b c d : ℕ) → is_eq (ordering_then (nat_cmp a b) (nat_cmp c d)) ≡ (nat_eq a b && nat_eq c d)
pairs_compare a b c d =
    sym (both_tied (nat_eq a b) (nat_eq c d) (nat_cmp a b) (nat_cmp c d) (sym (unsigned_tied a b)) (sym (unsigned_tied c d)))

pub by_cond : {A B : Type 0} (part : A → B) (t : Bool) (a b : A) → part (cond t a b) ≡ cond t (part a) (part b)
by_cond part true a b = refl
by_cond part false a b = refl

pub unended_set : (a t : Bool) (note old : Note)
    → cond ((a && true) && t) (is_unended note) (is_unended old) ≡ is_unended (cond (a && t) note old)
unended_set true true note old = refl
unended_set true false note old = refl
unended_set false t note old = refl

set_by : (change : Note → Note) (notes : ℕ → ℕ → Note) (pid tid p t : ℕ) (same : Bool) → (nat_eq pid p && nat_eq tid t) ≡ same
    → cond same (change (notes pid tid)) (notes p t) ≡ cond same (change (notes p t)) (notes p t)
set_by change notes pid tid p t true is =
    let parts = and_parts (nat_eq pid p) (nat_eq tid t) is in
    ap change (ap (λ x. notes x tid) (eqb-true pid p parts.0) ∙ ap (notes p) (eqb-true tid t parts.1))
set_by change notes pid tid p t false is = refl

-- the note of one thread is changed
pub set_note_told : (change : Note → Note) (notes : ℕ → ℕ → Note) (pid tid p t : ℕ)
    → cond (nat_eq pid p && nat_eq tid t) (change (notes pid tid)) (notes p t)
    ≡ cond (nat_eq pid p && nat_eq tid t) (change (notes p t)) (notes p t)
set_note_told change notes pid tid p t = set_by change notes pid tid p t (nat_eq pid p && nat_eq tid t) refl
