-- Where the blocks of a body close, found by counting.
use Rattle.pct_names.proofs.Names.{◌&&◌, ◌+◌, ◌++◌, ◌-◌, ◌<◌, [], ap, arith, Bool, close_of, closes, closes_else, cond, count_by_more_no}
use Rattle.pct_names.proofs.Names.{count_by_more_yes, drop, eqb_tells, false, find, get_or, get_or-drop, get_or-map-range_with_len, holds}
use Rattle.pct_names.proofs.Names.{inl, inr, is_else, is_if, is_while, length, length-drop, length-map-range_with_len, List, map}
use Rattle.pct_names.proofs.Names.{map-range_with_len_more, nat_eq, None, open_of, Option, option_eq, option_map_or, range_with_len, refl}
use Rattle.pct_names.proofs.Names.{slice_get-get_or, slice_index_or, slice_range, Some, Stmt, suc, sym, take, true, zero, ◌||◌, ℕ, ◌∙◌, ◌∷◌}
use Rattle.pct_names.proofs.Names.{◌≡◌, ◌≢◌, ◌≤◌, ◌⊎◌}
use Rattle.std.specs.List.{count_by}
use Rattle.std.proofs.lemmas.Bool.{eq-eqb, ne_eqb}
use Rattle.pct_model.specs.Jumps.{is_end}

-- ---- the first index that passes a test

-- the first index from a on, below an end, that passes a test
abbrev pub find_from : (ℕ → Bool) → ℕ → ℕ → Option ℕ
find_from test a end = find test (range_with_len a (end - a))

next_by : (test : ℕ → Bool) (a n m : ℕ) → n ≡ m + 1 → test a ≡ false → find test (range_with_len a n) ≡ find test (range_with_len (a + 1) m)
next_by test a zero m e fails = absurd (omega (arith, e))
next_by test a (suc n) m e fails = ap (λ b. cond b (Some a) (find test (range_with_len (a + 1) n))) fails ∙ ap (λ k. find test (range_with_len (a + 1) k)) (omega (arith, e))

here_by : (test : ℕ → Bool) (a n : ℕ) → 0 < n → test a ≡ true → find test (range_with_len a n) ≡ Some a
here_by test a zero some passes = absurd (omega (arith, some))
here_by test a (suc n) some passes = ap (λ b. cond b (Some a) (find test (range_with_len (a + 1) n))) passes

-- an index that fails is skipped
pub find-next : (test : ℕ → Bool) (a end : ℕ) → a < end → test a ≡ false → find_from test a end ≡ find_from test (a + 1) end
find-next test a end within fails = next_by test a (end - a) (end - (a + 1)) (omega (arith, within)) fails

-- an index that passes is found
pub find-here : (test : ℕ → Bool) (a end : ℕ) → a < end → test a ≡ true → find_from test a end ≡ Some a
find-here test a end within passes = here_by test a (end - a) (omega (arith, within)) passes

-- ---- counts

count_more : {X : Type 0} (p : X → Bool) (xs : List X) (i : ℕ) (d : X) (b : Bool) → i < length xs → p (get_or xs i d) ≡ b → count_by p (take (i + 1) xs) ≡ count_by p (take i xs) + cond b 1 0
count_more p xs i d true within is = count_by_more_yes p xs i d within is
count_more p xs i d false within is = count_by_more_no p xs i d within is ∙ omega arith

pub tally : (p : Stmt → Bool) (body : List Stmt) (i j : ℕ) (d : Stmt) → i ≤ j → j < length body → count_by p (slice_range body i (j + 1)) ≡ count_by p (slice_range body i j) + cond (p (get_or body j d)) 1 0
tally p body i j d order within =
    let long = length-drop i body in
    let at : get_or (drop i body) (j - i) d ≡ get_or body j d = get_or-drop i body (j - i) d ∙ ap (λ k. get_or body k d) (omega (arith, order)) in
    let longer : j + 1 - i ≡ j - i + 1 = omega (arith, order) in
    ap (λ k. count_by p (take k (drop i body))) longer
    ∙ count_more p (drop i body) (j - i) d (p (get_or body j d)) (omega (arith, long, order, within)) (ap p at)

-- the count with one more statement
pub tallied : (p : Stmt → Bool) (body : List Stmt) (i j : ℕ) (d : Stmt) (count next : ℕ) (b : Bool) → i ≤ j → j < length body → count ≡ count_by p (slice_range body i j) → b ≡ p (get_or body j d) → next ≡ count + cond b 1 0 → next ≡ count_by p (slice_range body i (j + 1))
tallied p body i j d count next b order within so_far is more = more ∙ ap (λ n. n + cond b 1 0) so_far ∙ ap (λ x. count_by p (slice_range body i j) + cond x 1 0) is ∙ sym (tally p body i j d order within)

-- ---- tests at a program counter

pub holds-at : (body : List Stmt) (test : Stmt → Bool) (i : ℕ) (d : Stmt) → i < length body → holds body test i ≡ test (get_or body i d)
holds-at body test i d within = ap (λ o. option_map_or test o false) (slice_get-get_or body i d within)

as_suc : (p : Stmt → Bool) (body : List Stmt) (i j count : ℕ) → count ≡ count_by p (slice_range body i (j + 1)) → count ≡ count_by p (slice_range body i (suc j))
as_suc p body i j count is = let same : j + 1 ≡ suc j = omega arith in is ∙ ap (λ k. count_by p (slice_range body i k)) same

-- whether a statement closes an `if` or a `while`
pub closes-at : (body : List Stmt) (i j : ℕ) (d : Stmt) (is : Bool) (b e : ℕ) → j < length body → holds body is_if i ≡ is → b ≡ count_by (λ s. is_if s || is_while s) (slice_range body i (j + 1)) → e ≡ count_by is_end (slice_range body i (j + 1)) → closes body i j ≡ is_end (get_or body j d) && nat_eq e b || is && is_else (get_or body j d) && nat_eq (e + 1) b
closes-at body i j d is b e within opens begun ended =
    rw (holds-at body is_end j d within, holds-at body is_else j d within, opens, as_suc (λ s. is_if s || is_while s) body i j b begun, as_suc is_end body i j e ended) refl

-- whether a statement closes an `else`
pub closes_else-at : (body : List Stmt) (i j b e : ℕ) → b ≡ count_by (λ s. is_if s || is_while s) (slice_range body (suc i) (j + 1)) → e ≡ count_by is_end (slice_range body (suc i) (j + 1)) → closes_else body i j ≡ nat_eq e (b + 1)
closes_else-at body i j b e begun ended = rw (as_suc (λ s. is_if s || is_while s) body (suc i) j b begun, as_suc is_end body (suc i) j e ended) refl

-- the search after an opening statement
pub beyond : (test : ℕ → Bool) (i end : ℕ) → find test (range_with_len (suc i) (end - suc i)) ≡ find_from test (i + 1) end
beyond test i end = let same : suc i ≡ i + 1 = omega arith in ap (λ k. find test (range_with_len k (end - k))) same

-- ---- what an `end` closes

by_cases : (m n : ℕ) → ((nat_eq m n ≡ true) × (m ≡ n)) ⊎ ((nat_eq m n ≡ false) × (m ≢ n)) → nat_eq m n ≡ nat_eq n m
by_cases m n (inl (same, is)) = same ∙ sym (eq-eqb n m (sym is))
by_cases m n (inr (differs, other)) = differs ∙ sym (ne_eqb n m (λ is. other (sym is)))

-- equality with an index, for an option
pub eq-pc : (o : Option ℕ) (n : ℕ) → option_eq nat_eq o (Some n) ≡ option_map_or (nat_eq n) o false
eq-pc None n = refl
eq-pc (Some m) n = by_cases m n (eqb_tells m n)

find-same : (p q : ℕ → Bool) (a n : ℕ) → ((i : ℕ) → a ≤ i → i < a + n → p i ≡ q i) → find p (range_with_len a n) ≡ find q (range_with_len a n)
find-same p q a zero same = refl
find-same p q a (suc n) same =
    ap (λ b. cond b (Some a) (find p (range_with_len (a + 1) n))) (same a (omega arith) (omega arith))
    ∙ ap (λ o. cond (q a) (Some a) o) (find-same p q (a + 1) n (λ i low high. same i (omega (arith, low)) (omega (arith, high))))

-- the first statement whose block is closed at j
pub opens-at : (body : List Stmt) (table : List (Option ℕ)) (j : ℕ) (d : Stmt) → j < length body → table ≡ map (close_of body) (range_with_len 0 (length body)) → is_end (get_or body j d) ≡ true → find (λ i. option_map_or (nat_eq j) (slice_index_or table i None) false) (range_with_len 0 (length table)) ≡ open_of body j
unfolding open_of
opens-at body table j d within is ends =
    let long : length table ≡ length body = ap length is ∙ length-map-range_with_len (close_of body) 0 (length body) in
    let test : ℕ → Bool = λ i. option_map_or (nat_eq j) (close_of body i) false in
    ap (λ n. find (λ i. option_map_or (nat_eq j) (slice_index_or table i None) false) (range_with_len 0 n)) long
    ∙ find-same (λ i. option_map_or (nat_eq j) (slice_index_or table i None) false) test 0 (length body)
    (λ i low high. ap (λ o. option_map_or (nat_eq j) o false) (ap (λ t. get_or t i None) is ∙ get_or-map-range_with_len (close_of body) 0 (length body) i i None (omega (arith, high)) (omega arith)))
    ∙ sym (ap (λ b. cond b (find test (range_with_len 0 (length body))) None) (holds-at body is_end j d within ∙ ends))

-- no block is closed where there is no `end`
pub opens-not : (body : List Stmt) (j : ℕ) (d : Stmt) → j < length body → is_end (get_or body j d) ≡ false → open_of body j ≡ None
unfolding open_of
opens-not body j d within other = ap (λ b. cond b (find (λ i. option_map_or (nat_eq j) (close_of body i) false) (range_with_len 0 (length body))) None) (holds-at body is_end j d within ∙ other)

-- ---- tables

-- a table of a function's values at the first indices, with one more index
pub one_more : (g : ℕ → Option ℕ) (pc : ℕ) (before after : List (Option ℕ)) (x : Option ℕ) → before ≡ map g (range_with_len 0 pc) → x ≡ g pc → after ≡ before ++ x ∷ [] → after ≡ map g (range_with_len 0 (pc + 1))
one_more g pc before after x so_far is longer =
    longer
    ∙ ap (λ (xs : List (Option ℕ)). xs ++ x ∷ []) so_far
    ∙ ap (λ (y : Option ℕ). map g (range_with_len 0 pc) ++ y ∷ []) is
    ∙ sym (map-range_with_len_more g 0 pc pc (omega arith))
