-- The entries of a worker and their places, in a history that grows, and prefixes of it.
use Rattle.pct_names.proofs.Names.{◌+◌, ◌++◌, [], ap, arith, Bool, cond, Entry, false, filter-append, length, List, nat_eq, refl, subst}
use Rattle.pct_names.proofs.Names.{suc, sym, true, ℕ, ◌∙◌, ◌∷◌, ◌≡◌}
use Rattle.std.proofs.Common.{append-nil}
use Rattle.std.proofs.Math.Nat.{zero-add}
use Rattle.std.proofs.lemmas.List.{append_assoc}
use Rattle.pct_shared.specs.Views.{IsPrefix, own, places, places_from}

-- ---- prefixes

pub prefix_refl : {A : Type 0} (xs : List A) → IsPrefix xs xs
prefix_refl xs = record { rest = []; all_is = sym (append-nil xs) }

pub prefix_more : {A : Type 0} (xs ys zs : List A) → IsPrefix xs ys → IsPrefix xs (ys ++ zs)
prefix_more {A = A} xs ys zs p = record { rest = p.rest ++ zs; all_is = ap (λ (l : List A). l ++ zs) p.all_is ∙ append_assoc xs p.rest zs }

pub prefix_trans : {A : Type 0} (xs ys zs : List A) → IsPrefix xs ys → IsPrefix ys zs → IsPrefix xs zs
prefix_trans xs ys zs p q = subst (IsPrefix xs) (sym q.all_is) (prefix_more xs ys q.rest p)

pub prefix_of_same : {A : Type 0} (xs ys : List A) → xs ≡ ys → IsPrefix xs ys
prefix_of_same xs ys same = subst (IsPrefix xs) same (prefix_refl xs)

-- ---- the entries of a worker

-- the test on one entry
own_last : (number : ℕ) (e : Entry) (b : Bool) → nat_eq e.worker number ≡ b → own number (e ∷ []) ≡ cond b (e ∷ []) []
own_last number e b is = rw is refl

pub own_more : (number : ℕ) (entries : List Entry) (e : Entry) → nat_eq e.worker number ≡ true → own number (entries ++ e ∷ []) ≡ own number entries ++ e ∷ []
own_more number entries e is = filter-append (λ (x : Entry). nat_eq x.worker number) entries (e ∷ []) ∙ ap (λ (l : List Entry). own number entries ++ l) (own_last number e true is)

pub own_other : (number : ℕ) (entries : List Entry) (e : Entry) → nat_eq e.worker number ≡ false → own number (entries ++ e ∷ []) ≡ own number entries
own_other number entries e is = filter-append (λ (x : Entry). nat_eq x.worker number) entries (e ∷ []) ∙ ap (λ (l : List Entry). own number entries ++ l) (own_last number e false is) ∙ append-nil (own number entries)

-- ---- their places

places_step : (number at : ℕ) (e : Entry) (entries others : List Entry) (b : Bool) → nat_eq e.worker number ≡ b
    → places_from number (suc at) (entries ++ others) ≡ places_from number (suc at) entries ++ places_from number (suc at + length entries) others
    → places_from number at (e ∷ entries ++ others) ≡ places_from number at (e ∷ entries) ++ places_from number (suc at + length entries) others
places_step number at e entries others true is more = rw is (ap (λ (l : List ℕ). at ∷ l) more)
places_step number at e entries others false is more = rw is more

plus_zero : (n : ℕ) → n ≡ n + 0
plus_zero n = omega arith

next_place : (n m : ℕ) → suc n + m ≡ n + suc m
next_place n m = omega arith

pub places-append : (number at : ℕ) (entries others : List Entry) → places_from number at (entries ++ others) ≡ places_from number at entries ++ places_from number (at + length entries) others
places-append number at [] others = ap (λ (n : ℕ). places_from number n others) (plus_zero at)
places-append number at (e ∷ entries) others = places_step number at e entries others (nat_eq e.worker number) refl (places-append number (suc at) entries others)
    ∙ ap (λ (n : ℕ). places_from number at (e ∷ entries) ++ places_from number n others) (next_place at (length entries))

place_last : (number at : ℕ) (e : Entry) (b : Bool) → nat_eq e.worker number ≡ b → places_from number at (e ∷ []) ≡ cond b (at ∷ []) []
place_last number at e true is = rw is refl
place_last number at e false is = rw is refl

places_split : (number : ℕ) (entries : List Entry) (e : Entry) → places number (entries ++ e ∷ []) ≡ places number entries ++ places_from number (length entries) (e ∷ [])
places_split number entries e = places-append number 0 entries (e ∷ []) ∙ ap (λ (n : ℕ). places number entries ++ places_from number n (e ∷ [])) (zero-add (length entries))

pub places_more : (number : ℕ) (entries : List Entry) (e : Entry) → nat_eq e.worker number ≡ true → places number (entries ++ e ∷ []) ≡ places number entries ++ length entries ∷ []
places_more number entries e is = places_split number entries e ∙ ap (λ (l : List ℕ). places number entries ++ l) (place_last number (length entries) e true is)

pub places_other : (number : ℕ) (entries : List Entry) (e : Entry) → nat_eq e.worker number ≡ false → places number (entries ++ e ∷ []) ≡ places number entries
places_other number entries e is = places_split number entries e ∙ ap (λ (l : List ℕ). places number entries ++ l) (place_last number (length entries) e false is) ∙ append-nil (places number entries)
