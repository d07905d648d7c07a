-- Splitting at the first delimiter.
use Rattle.pct_names.proofs.Names.{◌+◌, ◌++◌, [], and_parts, ap, arith, Bool, cond, drop, false, length, List, list_all, nat_eq, nat_lt}
use Rattle.pct_names.proofs.Names.{None, not, Option, option_map, position, position_or_len, refl, same_Some, Some, split_once, subst, suc}
use Rattle.pct_names.proofs.Names.{sym, take, true, zero, ℕ, ◌∙◌, ◌∷◌, ◌≡◌, ◌≤◌}
use Rattle.std.proofs.Common.{ltb-false, eqb-true, eq-eqb, ne_eqb, true≢false}

abbrev index : ℕ → List ℕ → ℕ
index c xs = position_or_len (λ b. nat_eq b c) xs

abbrev with_first : ℕ → Option (List ℕ × List ℕ) → Option (List ℕ × List ℕ)
with_first b later = option_map (λ p. (b ∷ p.0, p.1)) later

-- the result where the first byte is the delimiter
abbrev split_first : List ℕ → Option (List ℕ × List ℕ)
split_first bs = Some ([], bs)

tails : (b x : ℕ) (bs after : List ℕ) → b ∷ bs ≡ x ∷ after → bs ≡ after
tails b x bs after g = cc

none_step : (t : Bool) (b : ℕ) (bs : List ℕ) (n : ℕ) (later : Option (List ℕ × List ℕ)) → suc (length bs) ≤ cond (not t) (1 + n) 0 → (length bs ≤ n → later ≡ None)
    → cond t (Some ([], bs)) (with_first b later) ≡ None
none_step true b bs n later h more = absurd (omega arith)
none_step false b bs n later h more = rw (more (omega arith)) refl

none_past : (c : ℕ) (xs : List ℕ) → length xs ≤ index c xs → split_once c xs ≡ None
unfolding split_once
none_past c [] h = refl
none_past c (b ∷ bs) h = none_step (nat_eq b c) b bs (index c bs) (split_once c bs) h (none_past c bs)

same_rest : (b x : ℕ) (bs after : List ℕ) → b ∷ bs ≡ x ∷ after → split_first bs ≡ split_first after
same_rest b x bs after g = ap split_first (tails b x bs after g)

found_step : (t : Bool) (b : ℕ) (bs : List ℕ) (n i x : ℕ) (after : List ℕ) (later : Option (List ℕ × List ℕ)) → cond (not t) (1 + n) 0 ≡ i → drop i (b ∷ bs) ≡ x ∷ after
    → (drop n bs ≡ x ∷ after → later ≡ Some (take n bs, after)) → cond t (Some ([], bs)) (with_first b later) ≡ Some (take i (b ∷ bs), after)
found_step true b bs n i x after later e h more =
    subst (λ (k : ℕ). drop k (b ∷ bs) ≡ x ∷ after → split_first bs ≡ Some (take k (b ∷ bs), after)) e (λ (g : b ∷ bs ≡ x ∷ after). same_rest b x bs after g) h
found_step false b bs n i x after later e h more =
    let next : suc n ≡ i = omega arith in
    subst (λ (k : ℕ). drop k (b ∷ bs) ≡ x ∷ after → with_first b later ≡ Some (take k (b ∷ bs), after)) next (λ (g : drop n bs ≡ x ∷ after). rw (more g) refl) h

found_at : (c : ℕ) (xs : List ℕ) (i x : ℕ) (after : List ℕ) → index c xs ≡ i → drop i xs ≡ x ∷ after → split_once c xs ≡ Some (take i xs, after)
unfolding split_once
found_at c [] zero x after e h = absurd cc
found_at c [] (suc i) x after e h = absurd cc
found_at c (b ∷ bs) i x after e h = found_step (nat_eq b c) b bs (index c bs) i x after (split_once c bs) e h (found_at c bs (index c bs) x after refl)

is_past : (t : Bool) (i : ℕ) → cond t (Some i) None ≡ None → t ≡ false
is_past true i h = absurd cc
is_past false i h = refl

is_index : (t : Bool) (j i : ℕ) → cond t (Some j) None ≡ Some i → j ≡ i
is_index true j i h = cc
is_index false j i h = absurd cc

-- where the delimiter is not found, there is no split
pub split_nowhere : (c : ℕ) (xs : List ℕ) → position (λ b. nat_eq b c) xs ≡ None → split_once c xs ≡ None
split_nowhere c xs h = none_past c xs (ltb-false (index c xs) (length xs) (is_past (nat_lt (index c xs) (length xs)) (index c xs) h))

-- where it is found, the list is split there
pub split_at_index : (c : ℕ) (xs : List ℕ) (i x : ℕ) (after : List ℕ) → position (λ b. nat_eq b c) xs ≡ Some i → drop i xs ≡ x ∷ after → split_once c xs ≡ Some (take i xs, after)
split_at_index c xs i x after e h = found_at c xs i x after (is_index (nat_lt (index c xs) (length xs)) (index c xs) i e) h

-- ---- laws

joins_step : (t : Bool) (b c : ℕ) (bs : List ℕ) (later : Option (List ℕ × List ℕ)) (p : List ℕ × List ℕ) → (t ≡ true → b ≡ c) → ((q : List ℕ × List ℕ) → later ≡ Some q → bs ≡ q.0 ++ c ∷ q.1)
    → cond t (split_first bs) (with_first b later) ≡ Some p → b ∷ bs ≡ p.0 ++ c ∷ p.1
joins_step true b c bs later p is more e =
    subst (λ (q : List ℕ × List ℕ). b ∷ bs ≡ q.0 ++ c ∷ q.1) (same_Some ([], bs) p e) (ap (λ (x : ℕ). x ∷ bs) (is refl))
joins_step false b c bs None p is more e = absurd cc
joins_step false b c bs (Some q) p is more e =
    subst (λ (r : List ℕ × List ℕ). b ∷ bs ≡ r.0 ++ c ∷ r.1) (same_Some (b ∷ q.0, q.1) p e) (ap (λ (xs : List ℕ). b ∷ xs) (more q refl))

-- the part before, the delimiter and the part after are the list
pub split_joins : (c : ℕ) (xs : List ℕ) (p : List ℕ × List ℕ) → split_once c xs ≡ Some p → xs ≡ p.0 ++ c ∷ p.1
unfolding split_once
split_joins c [] p e = absurd cc
split_joins c (b ∷ bs) p e = joins_step (nat_eq b c) b c bs (split_once c bs) p (eqb-true b c) (split_joins c bs) e

lacks_step : (t : Bool) (b : ℕ) (bs : List ℕ) (later : Option (List ℕ × List ℕ)) → cond t (split_first bs) (with_first b later) ≡ None → (t ≡ false) × (later ≡ None)
lacks_step true b bs later e = absurd cc
lacks_step false b bs None e = (refl, refl)
lacks_step false b bs (Some q) e = absurd cc

-- a list without the delimiter does not begin with it, and its tail lacks it
pub lacks-uncons : (c b : ℕ) (bs : List ℕ) → split_once c (b ∷ bs) ≡ None → (nat_eq b c ≡ false) × (split_once c bs ≡ None)
unfolding split_once
lacks-uncons c b bs e = lacks_step (nat_eq b c) b bs (split_once c bs) e

-- a list without the delimiter is split from the bytes after one
pub split_again : (c : ℕ) (a b : List ℕ) → split_once c a ≡ None → split_once c (a ++ c ∷ b) ≡ Some (a, b)
unfolding split_once
split_again c [] b e = rw (eq-eqb c c refl) refl
split_again c (x ∷ xs) b e =
    let lacks = lacks_step (nat_eq x c) x xs (split_once c xs) e in
    rw (lacks.0, split_again c xs b lacks.1) refl

-- a list whose elements pass a test that the delimiter fails lacks it
pub lacks_other : (q : ℕ → Bool) (c : ℕ) (xs : List ℕ) → q c ≡ false → list_all q xs ≡ true → split_once c xs ≡ None
unfolding split_once
lacks_other q c [] fails all = refl
lacks_other q c (x ∷ xs) fails all =
    let parts = and_parts (q x) (list_all q xs) all in
    let other : nat_eq x c ≡ false = ne_eqb x c (λ (e : x ≡ c). true≢false (sym parts.0 ∙ ap q e ∙ fails)) in
    rw (other, lacks_other q c xs fails parts.1) refl

-- two lists without the delimiter lack it together
pub lacks-append : (c : ℕ) (a b : List ℕ) → split_once c a ≡ None → split_once c b ≡ None → split_once c (a ++ b) ≡ None
unfolding split_once
lacks-append c [] b e f = f
lacks-append c (x ∷ xs) b e f =
    let lacks = lacks_step (nat_eq x c) x xs (split_once c xs) e in
    rw (lacks.0, lacks-append c xs b lacks.1 f) refl

-- so does such a list after another byte
pub lacks-cons : (c x : ℕ) (xs : List ℕ) → nat_eq x c ≡ false → split_once c xs ≡ None → split_once c (x ∷ xs) ≡ None
unfolding split_once
lacks-cons c x xs other e = rw (other, e) refl
