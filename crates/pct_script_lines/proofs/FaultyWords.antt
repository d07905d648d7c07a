-- The first word that does not fit its argument kind, word by word.
use Rattle.pct_names.proofs.Names.{◌+◌, ◌<◌, [], ap, ArgumentKind, arith, cond, drop, drop-cons, drop_all, false, faulty_word, get_or}
use Rattle.pct_names.proofs.Names.{get_or_from_slice_get, inl, inr, is_some, length, List, None, refl, slice_get, slice_get_cases}
use Rattle.pct_names.proofs.Names.{slice_get_within, Some, suc, sym, token_at, true, why_not, ℕ, ◌∙◌, ◌∷◌, ◌≡◌, ◌≤◌, ◌⊎◌}

-- without words there is no fault
pub faulty_word-nil : (argument_kinds : List ArgumentKind) → faulty_word argument_kinds [] ≡ None
unfolding faulty_word
faulty_word-nil [] = refl
faulty_word-nil (p ∷ argument_kinds) = refl

-- the argument kind at an index, and those after it
pub argument_kind_first : (argument_kinds : List ArgumentKind) (at : ℕ) (p : ArgumentKind) → slice_get argument_kinds at ≡ Some p → drop at argument_kinds ≡ p ∷ drop (suc at) argument_kinds
argument_kind_first argument_kinds at p here =
    drop-cons argument_kinds at p (slice_get_within argument_kinds at p here) ∙ ap (λ q. q ∷ drop (suc at) argument_kinds) (get_or_from_slice_get argument_kinds at p p here)

-- a word that fits
pub fault_after : (argument_kinds : List ArgumentKind) (at : ℕ) (p : ArgumentKind) (w : List ℕ) (words : List (List ℕ)) → slice_get argument_kinds at ≡ Some p → is_some (token_at p w) ≡ true
    → faulty_word (drop (at + 1) argument_kinds) words ≡ faulty_word (drop at argument_kinds) (w ∷ words)
unfolding faulty_word
fault_after argument_kinds at p w words here fit =
    let next : at + 1 ≡ suc at = omega arith in
    ap (λ n. faulty_word (drop n argument_kinds) words) next ∙ sym (ap (λ t. cond t (faulty_word (drop (suc at) argument_kinds) words) (Some (why_not p w))) fit)
    ∙ sym (ap (λ ps. faulty_word ps (w ∷ words)) (argument_kind_first argument_kinds at p here))

-- a word that does not fit
pub fault_here : (argument_kinds : List ArgumentKind) (at : ℕ) (p : ArgumentKind) (w : List ℕ) (words : List (List ℕ)) → slice_get argument_kinds at ≡ Some p → is_some (token_at p w) ≡ false
    → faulty_word (drop at argument_kinds) (w ∷ words) ≡ Some (why_not p w)
unfolding faulty_word
fault_here argument_kinds at p w words here fit =
    ap (λ ps. faulty_word ps (w ∷ words)) (argument_kind_first argument_kinds at p here) ∙ ap (λ t. cond t (faulty_word (drop (suc at) argument_kinds) words) (Some (why_not p w))) fit

pub past : (argument_kinds : List ArgumentKind) (at : ℕ) → slice_get argument_kinds at ≡ None
    → ((p : ArgumentKind) × (at < length argument_kinds) × (slice_get argument_kinds at ≡ Some p) × (get_or argument_kinds at p ≡ p)) ⊎ ((length argument_kinds ≤ at) × (slice_get argument_kinds at ≡ None)) → drop at argument_kinds ≡ []
past argument_kinds at none (inl h) = absurd (cc)
past argument_kinds at none (inr h) = drop_all at argument_kinds h.0

-- past the last argument kind there is none
pub past_kinds : (argument_kinds : List ArgumentKind) (at : ℕ) → slice_get argument_kinds at ≡ None → drop at argument_kinds ≡ []
past_kinds argument_kinds at none = past argument_kinds at none (slice_get_cases argument_kinds at).1

faulty_word-none : (words : List (List ℕ)) → faulty_word [] words ≡ None
unfolding faulty_word
faulty_word-none words = refl

-- a word past the last argument kind
pub no_argument_kind : (argument_kinds : List ArgumentKind) (at : ℕ) (words : List (List ℕ)) → slice_get argument_kinds at ≡ None → faulty_word (drop at argument_kinds) words ≡ None
no_argument_kind argument_kinds at words none = ap (λ ps. faulty_word ps words) (past_kinds argument_kinds at none) ∙ faulty_word-none words
