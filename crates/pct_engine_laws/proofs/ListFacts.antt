-- Lists that are filtered, mapped, joined and searched.
use Rattle.pct_names.proofs.Names.{◌&&◌, ◌+◌, ◌++◌, [], All-append, All-head, All-nil, All-tail, and_left, and_right, ap, Bool, cond}
use Rattle.pct_names.proofs.Names.{count_by, false, false≢true, filter, filter-append, find, flat_map, fold-map, inl, inr, List, list_all}
use Rattle.pct_names.proofs.Names.{list_any, list_any-append, map, map-append, None, none-some, not, Option, option_and_then, option_map}
use Rattle.pct_names.proofs.Names.{or_left, or_right, refl, same_Some, Some, subst, sym, true, ◌||◌, ℕ, ◌∙◌, ◌∷◌, ◌≡◌, ◌⊎◌}
use Rattle.std.proofs.Common.{append-nil}
use Rattle.std.specs.List.{All}
use Rattle.std.proofs.Math.Path.{fun_ext}
use Rattle.std.proofs.lemmas.List.Concat.{flat_map-append}

-- ---- tests that agree

-- two tests that agree find the same item
pub find_agree : {A : Type 0} (p q : A → Bool) → ((a : A) → p a ≡ q a) → (xs : List A) → find p xs ≡ find q xs
find_agree {A} p q agree xs = ap (λ (test : A → Bool). find test xs) (fun_ext agree)

-- two tests that agree have the same answer for some item
pub any_agree : {A : Type 0} (p q : A → Bool) → ((a : A) → p a ≡ q a) → (xs : List A) → list_any p xs ≡ list_any q xs
any_agree {A} p q agree xs = ap (λ (test : A → Bool). list_any test xs) (fun_ext agree)

-- two tests that agree have the same answer for each item
pub all_agree : {A : Type 0} (p q : A → Bool) → ((a : A) → p a ≡ q a) → (xs : List A) → list_all p xs ≡ list_all q xs
all_agree {A} p q agree xs = ap (λ (test : A → Bool). list_all test xs) (fun_ext agree)

-- two tests that agree count the same number of items
pub count_agree : {A : Type 0} (p q : A → Bool) → ((a : A) → p a ≡ q a) → (xs : List A) → count_by p xs ≡ count_by q xs
count_agree {A} p q agree xs = ap (λ (test : A → Bool). count_by test xs) (fun_ext agree)

-- two functions that agree join the same lists
pub flat_map_agree : {A B : Type 0} (f g : A → List B) → ((a : A) → f a ≡ g a) → (xs : List A) → flat_map f xs ≡ flat_map g xs
flat_map_agree {A} {B} f g agree xs = ap (λ (h : A → List B). flat_map h xs) (fun_ext agree)

-- ---- tests that are negated

none_cons : (b rest some : Bool) → rest ≡ not some → (b && rest) ≡ not (not b || some)
none_cons true rest some e = e
none_cons false rest some e = refl

-- each item passes exactly if no item fails
pub all_none : {A : Type 0} (p : A → Bool) (xs : List A) → list_all p xs ≡ not (list_any (λ a. not (p a)) xs)
all_none p [] = refl
all_none p (x ∷ xs) = none_cons (p x) (list_all p xs) (list_any (λ a. not (p a)) xs) (all_none p xs)

-- ---- options

-- a step after a mapped option
pub then-map : {A B C : Type 0} (g : B → Option C) (f : A → B) (o : Option A) → option_and_then g (option_map f o) ≡ option_and_then (λ a. g (f a)) o
then-map g f None = refl
then-map g f (Some a) = refl

-- ---- the first item

find_map_cons : {A B : Type 0} (f : A → B) (t : Bool) (x : A) (o : Option B) (rest : Option A) → o ≡ option_map f rest → cond t (Some (f x)) o ≡ option_map f (cond t (Some x) rest)
find_map_cons f true x o rest e = refl
find_map_cons f false x o rest e = e

-- the first item of a mapped list
pub find-map : {A B : Type 0} (p : B → Bool) (f : A → B) (xs : List A) → find p (map f xs) ≡ option_map f (find (λ a. p (f a)) xs)
find-map p f [] = refl
find-map p f (x ∷ xs) = find_map_cons f (p (f x)) x (find p (map f xs)) (find (λ a. p (f a)) xs) (find-map p f xs)

find_filter_cons : {A : Type 0} (p : A → Bool) (x : A) (t : Bool) (kept : List A) (o : Option A) → find p kept ≡ o → find p (cond t (x ∷ kept) kept) ≡ cond (t && p x) (Some x) o
find_filter_cons {A} p x true kept o e = ap (λ (rest : Option A). cond (p x) (Some x) rest) e
find_filter_cons p x false kept o e = e

-- the first item of a filtered list
pub find-filter : {A : Type 0} (p q : A → Bool) (xs : List A) → find p (filter q xs) ≡ find (λ a. q a && p a) xs
find-filter p q [] = refl
find-filter p q (x ∷ xs) = find_filter_cons p x (q x) (filter q xs) (find (λ a. q a && p a) xs) (find-filter p q xs)

-- ---- some item, each item

any_filter_cons : {A : Type 0} (p : A → Bool) (x : A) (t : Bool) (kept : List A) (b : Bool) → list_any p kept ≡ b → list_any p (cond t (x ∷ kept) kept) ≡ ((t && p x) || b)
any_filter_cons p x true kept b e = ap (λ (rest : Bool). p x || rest) e
any_filter_cons p x false kept b e = e

-- some item of a filtered list passes
pub any-filter : {A : Type 0} (p q : A → Bool) (xs : List A) → list_any p (filter q xs) ≡ list_any (λ a. q a && p a) xs
any-filter p q [] = refl
any-filter p q (x ∷ xs) = any_filter_cons p x (q x) (filter q xs) (list_any (λ a. q a && p a) xs) (any-filter p q xs)

all_filter_cons : {A : Type 0} (p : A → Bool) (x : A) (t : Bool) (kept : List A) (b : Bool) → list_all p kept ≡ b → list_all p (cond t (x ∷ kept) kept) ≡ ((not t || p x) && b)
all_filter_cons p x true kept b e = ap (λ (rest : Bool). p x && rest) e
all_filter_cons p x false kept b e = e

-- each item of a filtered list passes
pub all-filter : {A : Type 0} (p q : A → Bool) (xs : List A) → list_all p (filter q xs) ≡ list_all (λ a. not (q a) || p a) xs
all-filter p q [] = refl
all-filter p q (x ∷ xs) = all_filter_cons p x (q x) (filter q xs) (list_all (λ a. not (q a) || p a) xs) (all-filter p q xs)

-- some item of a mapped list passes
pub any-map : {A B : Type 0} (p : B → Bool) (f : A → B) (xs : List A) → list_any p (map f xs) ≡ list_any (λ a. p (f a)) xs
any-map p f [] = refl
any-map p f (x ∷ xs) = ap (λ (rest : Bool). p (f x) || rest) (any-map p f xs)

-- some item of joined lists passes
pub any-flat_map : {A B : Type 0} (p : B → Bool) (f : A → List B) (xs : List A) → list_any p (flat_map f xs) ≡ list_any (λ a. list_any p (f a)) xs
any-flat_map p f [] = refl
any-flat_map p f (x ∷ xs) = list_any-append p (f x) (flat_map f xs) ∙ ap (λ (rest : Bool). list_any p (f x) || rest) (any-flat_map p f xs)

-- no item passes a test that is never passed
pub any_never : {A : Type 0} (xs : List A) → list_any (λ (a : A). false) xs ≡ false
any_never [] = refl
any_never (x ∷ xs) = any_never xs

regroup : (a b c d : Bool) → ((a || b) || (c || d)) ≡ ((a || c) || (b || d))
regroup true b c d = refl
regroup false true true d = refl
regroup false true false d = refl
regroup false false c d = refl

-- some item passes one of two tests
pub any_either : {A : Type 0} (p q : A → Bool) (xs : List A) → list_any (λ a. p a || q a) xs ≡ (list_any p xs || list_any q xs)
any_either p q [] = refl
any_either p q (x ∷ xs) = ap (λ (rest : Bool). (p x || q x) || rest) (any_either p q xs) ∙ regroup (p x) (q x) (list_any p xs) (list_any q xs)

-- some pair passes, in either order of the two lists
pub any_swap : {A B : Type 0} (p : A → B → Bool) (xs : List A) (ys : List B) → list_any (λ a. list_any (p a) ys) xs ≡ list_any (λ b. list_any (λ a. p a b) xs) ys
any_swap p [] ys = sym (any_never ys)
any_swap p (x ∷ xs) ys =
    ap (λ (rest : Bool). list_any (p x) ys || rest) (any_swap p xs ys) ∙ sym (any_either (p x) (λ b. list_any (λ a. p a b) xs) ys)

and_or : (a b c : Bool) → ((a && c) || (b && c)) ≡ ((a || b) && c)
and_or true b true = refl
and_or true true false = refl
and_or true false false = refl
and_or false b c = refl

-- a condition that does not depend on the item
pub any_and : {A : Type 0} (p : A → Bool) (b : Bool) (xs : List A) → list_any (λ a. p a && b) xs ≡ (list_any p xs && b)
any_and p b [] = refl
any_and p b (x ∷ xs) = ap (λ (rest : Bool). (p x && b) || rest) (any_and p b xs) ∙ and_or (p x) (list_any p xs) b

-- ---- from one test to another

found_cons : {A : Type 0} (q : A → Bool) (x y : A) (t : Bool) (o : Option A) (rest : Bool) → (t ≡ true → x ≡ y → q x ≡ true) → (o ≡ Some y → rest ≡ true) → cond t (Some x) o ≡ Some y → (q x || rest) ≡ true
found_cons q x y true o rest passes later is = or_left (q x) rest (passes refl (same_Some x y is))
found_cons q x y false o rest passes later is = or_right (q x) rest (later is)

-- some item passes a test that the first one that passes another test passes
pub any_found : {A : Type 0} (p q : A → Bool) (xs : List A) (y : A) → find p xs ≡ Some y → (p y ≡ true → q y ≡ true) → list_any q xs ≡ true
any_found p q [] y is passes = absurd (none-some y is)
any_found {A} p q (x ∷ xs) y is passes =
    found_cons q x y (p x) (find p xs) (list_any q xs) (λ test same. subst (λ (a : A). p a ≡ true → q a ≡ true) (sym same) passes test) (λ later. any_found p q xs y later passes) is

fails_cons : (p q rest next : Bool) → (p ≡ true → q ≡ false) → (rest ≡ true → next ≡ false) → (p || rest) ≡ true → (q && next) ≡ false
fails_cons true q rest next fails later some = and_left q next (fails refl)
fails_cons false q rest next fails later some = and_right q next (later some)

-- not each item passes a test that fails where one that some item passes does not
pub all_fails : {A : Type 0} (p q : A → Bool) → ((a : A) → p a ≡ true → q a ≡ false) → (xs : List A) → list_any p xs ≡ true → list_all q xs ≡ false
all_fails p q fails [] some = absurd (false≢true some)
all_fails p q fails (x ∷ xs) some = fails_cons (p x) (q x) (list_any p xs) (list_all q xs) (fails x) (all_fails p q fails xs) some

-- ---- joined lists

flat_filter_cons : {A B : Type 0} (f : A → List B) (x : A) (t : Bool) (kept : List A) (ys : List B) → flat_map f kept ≡ ys → flat_map f (cond t (x ∷ kept) kept) ≡ cond t (f x) [] ++ ys
flat_filter_cons {A} {B} f x true kept ys e = ap (λ (rest : List B). f x ++ rest) e
flat_filter_cons f x false kept ys e = e

-- the joined lists of a filtered list
pub flat_map-filter : {A B : Type 0} (f : A → List B) (q : A → Bool) (xs : List A) → flat_map f (filter q xs) ≡ flat_map (λ a. cond (q a) (f a) []) xs
flat_map-filter f q [] = refl
flat_map-filter f q (x ∷ xs) = flat_filter_cons f x (q x) (filter q xs) (flat_map (λ a. cond (q a) (f a) []) xs) (flat_map-filter f q xs)

-- what holds of each item of each list holds of those of the joined list
pub All-flat_map : {A B : Type 0} (P : B → Type 0) (f : A → List B) (xs : List A) → All (λ a. All P (f a)) xs → All P (flat_map f xs)
All-flat_map P f [] each = All-nil P
All-flat_map P f (x ∷ xs) each = All-append P (f x) (flat_map f xs) (All-head (λ a. All P (f a)) x xs each) (All-flat_map P f xs (All-tail (λ a. All P (f a)) x xs each))

-- lists that are joined twice
pub flat_map-flat_map : {A B C : Type 0} (g : B → List C) (f : A → List B) (xs : List A) → flat_map g (flat_map f xs) ≡ flat_map (λ a. flat_map g (f a)) xs
flat_map-flat_map g f [] = refl
flat_map-flat_map {A} {B} {C} g f (x ∷ xs) =
    flat_map-append g (f x) (flat_map f xs) ∙ ap (λ (rest : List C). flat_map g (f x) ++ rest) (flat_map-flat_map g f xs)

-- joined lists that are mapped
pub map-flat_map : {A B C : Type 0} (g : B → C) (f : A → List B) (xs : List A) → map g (flat_map f xs) ≡ flat_map (λ a. map g (f a)) xs
map-flat_map g f [] = refl
map-flat_map {A} {B} {C} g f (x ∷ xs) = map-append g (f x) (flat_map f xs) ∙ ap (λ (rest : List C). map g (f x) ++ rest) (map-flat_map g f xs)

-- joined lists of which each item passes
pub filter-flat_map : {A B : Type 0} (q : B → Bool) (f : A → List B) → ((a : A) → filter q (f a) ≡ f a) → (xs : List A) → filter q (flat_map f xs) ≡ flat_map f xs
filter-flat_map q f all [] = refl
filter-flat_map {A} {B} q f all (x ∷ xs) =
    filter-append q (f x) (flat_map f xs)
    ∙ ap (λ (first : List B). first ++ filter q (flat_map f xs)) (all x)
    ∙ ap (λ (rest : List B). f x ++ rest) (filter-flat_map q f all xs)

-- a list for an item, if there is one
pub flat_map-cond : {A B : Type 0} (f : A → List B) (x : A) (test : Bool) → flat_map f (cond test (x ∷ []) []) ≡ cond test (f x) []
flat_map-cond f x true = append-nil (f x)
flat_map-cond f x false = refl

-- a list that is mapped twice
pub map-map : {A B C : Type 0} (g : B → C) (f : A → B) (xs : List A) → map g (map f xs) ≡ map (λ a. g (f a)) xs
map-map g f [] = refl
map-map {A} {B} {C} g f (x ∷ xs) = ap (λ (rest : List C). g (f x) ∷ rest) (map-map g f xs)

map_filter_cons : {A B : Type 0} (v : A → B) (x : A) (t : Bool) (kept : List A) (ys : List B) → map v kept ≡ ys → map v (cond t (x ∷ kept) kept) ≡ cond t (v x ∷ []) [] ++ ys
map_filter_cons {A} {B} v x true kept ys e = ap (λ (rest : List B). v x ∷ rest) e
map_filter_cons v x false kept ys e = e

-- a filtered and mapped list, joined of a list for each item
pub map-filter : {A B : Type 0} (v : A → B) (q : A → Bool) (xs : List A) → map v (filter q xs) ≡ flat_map (λ a. cond (q a) (v a ∷ []) []) xs
map-filter v q [] = refl
map-filter v q (x ∷ xs) = map_filter_cons v x (q x) (filter q xs) (flat_map (λ a. cond (q a) (v a ∷ []) []) xs) (map-filter v q xs)

-- ---- items that are changed

-- the number of items of a mapped list that pass
pub count-map : {A B : Type 0} (p : B → Bool) (f : A → B) (xs : List A) → count_by p (map f xs) ≡ count_by (λ a. p (f a)) xs
count-map {A} {B} p f xs = fold-map (λ (n : ℕ) (b : B). n + cond (p b) 1 0) f 0 xs

changed_cons : {A : Type 0} (q : A → Bool) (f : A → A) (x : A) (before after holds : Bool) → after ≡ before → (holds ≡ false → q (f x) ≡ false) → (left kept : List A) → left ≡ filter q (map f kept) → cond (after && q (f x)) (f x ∷ left) left ≡ filter q (map f (cond (before && holds) (x ∷ kept) kept))
changed_cons {A} q f x true after true same fails left kept e =
    ap (λ (t : Bool). cond (t && q (f x)) (f x ∷ left) left) same ∙ ap (λ (rest : List A). cond (q (f x)) (f x ∷ rest) rest) e
changed_cons {A} q f x true after false same fails left kept e =
    ap (λ (t : Bool). cond (t && q (f x)) (f x ∷ left) left) same ∙ ap (λ (t : Bool). cond t (f x ∷ left) left) (fails refl) ∙ e
changed_cons {A} q f x false after holds same fails left kept e = ap (λ (t : Bool). cond (t && q (f x)) (f x ∷ left) left) same ∙ e

-- a filter by two tests after a change that keeps the first and turns no failure of the second into a pass
pub filter_changed : {A : Type 0} (p q : A → Bool) (f : A → A) → ((a : A) → p (f a) ≡ p a) → ((a : A) → q a ≡ false → q (f a) ≡ false) → (xs : List A) → filter (λ a. p a && q a) (map f xs) ≡ filter q (map f (filter (λ a. p a && q a) xs))
filter_changed p q f same fails [] = refl
filter_changed p q f same fails (x ∷ xs) =
    changed_cons q f x (p x) (p (f x)) (q x) (same x) (fails x) (filter (λ a. p a && q a) (map f xs)) (filter (λ a. p a && q a) xs) (filter_changed p q f same fails xs)

unchanged_cons : {A : Type 0} (p : A → Bool) (x y : A) (left kept : List A) → (y ≡ x) ⊎ ((p x ≡ false) × (p y ≡ false)) → left ≡ kept → cond (p y) (y ∷ left) left ≡ cond (p x) (x ∷ kept) kept
unchanged_cons {A} p x y left kept (inl same) e =
    ap (λ (z : A). cond (p z) (z ∷ left) left) same ∙ ap (λ (rest : List A). cond (p x) (x ∷ rest) rest) e
unchanged_cons {A} p x y left kept (inr fails) e =
    ap (λ (t : Bool). cond t (y ∷ left) left) fails.1 ∙ e ∙ sym (ap (λ (t : Bool). cond t (x ∷ kept) kept) fails.0)

-- a filter after a change that leaves each item alone, or changes one that fails into one that fails
pub filter_unchanged : {A : Type 0} (p : A → Bool) (f : A → A) → ((a : A) → (f a ≡ a) ⊎ ((p a ≡ false) × (p (f a) ≡ false))) → (xs : List A) → filter p (map f xs) ≡ filter p xs
filter_unchanged p f each [] = refl
filter_unchanged p f each (x ∷ xs) = unchanged_cons p x (f x) (filter p (map f xs)) (filter p xs) (each x) (filter_unchanged p f each xs)

both_cons : {A : Type 0} (q : A → Bool) (x : A) (t : Bool) (left kept : List A) → left ≡ filter q kept → cond (t && q x) (x ∷ left) left ≡ filter q (cond t (x ∷ kept) kept)
both_cons {A} q x true left kept e = ap (λ (rest : List A). cond (q x) (x ∷ rest) rest) e
both_cons q x false left kept e = e

-- the items that pass both of two tests
pub filter_both : {A : Type 0} (p q : A → Bool) (xs : List A) → filter (λ a. p a && q a) xs ≡ filter q (filter p xs)
filter_both p q [] = refl
filter_both p q (x ∷ xs) = both_cons q x (p x) (filter (λ a. p a && q a) xs) (filter p xs) (filter_both p q xs)
