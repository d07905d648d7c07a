-- Facts on options, and on lists that are built from options.
use Rattle.pct_names.proofs.Names.{◌&&◌, ◌>>=◌, Bool, cond, false, is_none, is_some, List, None, not, Option, option_map, option_map_or}
use Rattle.pct_names.proofs.Names.{option_or, refl, same_Some, Some, true, ◌∷◌, ◌≡◌}

-- if a mapped option is Some, so is the option
pub mapped_some : {A B : Type 0} (f : A → B) (o : Option A) → is_some (option_map f o) ≡ is_some o
mapped_some f None = refl
mapped_some f (Some a) = refl

-- if a mapped option is None, so is the option
pub mapped_none : {A B : Type 0} (f : A → B) (o : Option A) → is_none (option_map f o) ≡ is_none o
mapped_none f None = refl
mapped_none f (Some a) = refl

-- if a choice of two is None, both are None
pub or_none : {A : Type 0} (o p : Option A) → is_none (option_or o p) ≡ (is_none o && is_none p)
or_none None p = refl
or_none (Some a) p = refl

-- if two are Some together, each is
pub and_some : {A B C : Type 0} (f : A → B → C) (o : Option A) (p : Option B) → is_some (o >>= λ a. option_map (f a) p) ≡ (is_some o && is_some p)
and_some f None p = refl
and_some f (Some a) p = mapped_some (f a) p

-- an option that is none is None
pub none_is : {A : Type 0} (o : Option A) → is_none o ≡ true → o ≡ None
none_is None h = refl
none_is (Some a) h = absurd cc

-- an option that is not None is Some
pub some_not_none : {A : Type 0} (o : Option A) → not (is_none o) ≡ is_some o
some_not_none None = refl
some_not_none (Some a) = refl

-- the first item and the others, each from an option that is Some
pub record BothFrom {A : Type 0} (o : Option A) (p : Option (List A)) (xs : List A) : Type 0 where
  pub first : A
  pub others : List A
  pub one : o ≡ Some first
  pub rest : p ≡ Some others
  pub whole : xs ≡ first ∷ others

-- a list that is Some comes from its first item and the others
pub both_from : {A : Type 0} (o : Option A) (p : Option (List A)) (xs : List A) → (o >>= λ a. option_map (λ (others : List A). a ∷ others) p) ≡ Some xs → BothFrom o p xs
both_from (Some a) (Some others) xs h = record { first = a; others = others; one = refl; rest = refl; whole = cc }
both_from _ _ xs h = absurd cc

-- the first item and the others, each of which is Some, make a list
pub both_some : {A : Type 0} (o : Option A) (os : Option (List A)) (x : A) (xs : List A) → o ≡ Some x → os ≡ Some xs → (o >>= λ y. option_map (λ (ys : List A). y ∷ ys) os) ≡ Some (x ∷ xs)
both_some (Some y) (Some ys) x xs one more = cc
both_some _ _ x xs one more = absurd cc

-- ---- a sequence of options that is Some

pub bind_some : {A B : Type 0} (o : Option A) (f : A → Option B) (y : B) → (o >>= f) ≡ Some y → (x : A) × (o ≡ Some x) × (f x ≡ Some y)
bind_some None f y e = absurd cc
bind_some (Some x) f y e = (x, refl, e)

pub map_some : {A B : Type 0} (f : A → B) (o : Option A) (y : B) → option_map f o ≡ Some y → (x : A) × (o ≡ Some x) × (f x ≡ y)
map_some f None y e = absurd cc
map_some f (Some x) y e = (x, refl, same_Some (f x) y e)

pub cond_cases : {A : Type 0} (P : Type 0) (b : Bool) (x y z : A) → cond b x y ≡ z → (b ≡ true → x ≡ z → P) → (b ≡ false → y ≡ z → P) → P
cond_cases P true x y z e f g = f refl e
cond_cases P false x y z e f g = g refl e
