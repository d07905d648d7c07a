-- Lists of slots that links lead over, both ways.
use Rattle.std.proofs.Common.{◌≡◌, ℕ, zero, suc, ◌<◌, ◌≤◌, ◌≢◌, true, false, cond, not, ◌||◌, nat_eq, nat_lt, eqb, List, [], ◌∷◌, length, refl, sym, ap, ◌∙◌, subst, inl, inr, arith}
use Rattle.std.specs.List.{IsDistinct, AllByRecursion}
use Rattle.std.specs.Prelude.{◌⊎◌}
use Rattle.std.proofs.lemmas.Bool.{cases_eq, both_ways, lt-ltb, le-ltb, eq-eqb, ne_eqb, eqb-true, eqb-false, or_parts, or_cases, or_left, or_right, cond-true, cond-false}
use Rattle.std.proofs.lemmas.Map.Steps.{length-le_from_distinct_below}
use Rattle.pct_stack.specs.Stacks.{without}
use Rattle.pct_stack.specs.Links.{is_in, follow, AreLinked}

-- ---- lists of slots

-- a slot is not one that the list lacks
pub apart : (xs : List ℕ) (s t : ℕ) → is_in xs s ≡ true → is_in xs t ≡ false → s ≢ t
apart xs s t has lacks same = both_ways (is_in xs t) lacks (ap (is_in xs) (sym same) ∙ has)

pub is_in-head : (x : ℕ) (xs : List ℕ) (s : ℕ) → s ≡ x → is_in (x ∷ xs) s ≡ true
is_in-head x xs s same = or_left (nat_eq s x) (is_in xs s) (eq-eqb s x same)

pub is_in-tail : (x : ℕ) (xs : List ℕ) (s : ℕ) → is_in xs s ≡ true → is_in (x ∷ xs) s ≡ true
is_in-tail x xs s has = or_right (nat_eq s x) (is_in xs s) has

pub is_in-rest : (x : ℕ) (xs : List ℕ) (s : ℕ) → s ≢ x → is_in (x ∷ xs) s ≡ is_in xs s
is_in-rest x xs s other = ap (λ b. b || is_in xs s) (ne_eqb s x other)

pub is_in-cases : (x : ℕ) (xs : List ℕ) (s : ℕ) → is_in (x ∷ xs) s ≡ true → (s ≡ x) ⊎ (is_in xs s ≡ true)
is_in-cases x xs s has = elim (or_cases (nat_eq s x) (is_in xs s) has) [
  | inl here ↦ inl (eqb-true s x here)
  | inr there ↦ inr there
]

pub lacks_head : (x : ℕ) (xs : List ℕ) (s : ℕ) → is_in (x ∷ xs) s ≡ false → s ≢ x
lacks_head x xs s lacks = eqb-false s x (or_parts (nat_eq s x) (is_in xs s) lacks).0

pub lacks_tail : (x : ℕ) (xs : List ℕ) (s : ℕ) → is_in (x ∷ xs) s ≡ false → is_in xs s ≡ false
lacks_tail x xs s lacks = (or_parts (nat_eq s x) (is_in xs s) lacks).1

pub without-head : (slot x : ℕ) (xs : List ℕ) → x ≡ slot → without slot (x ∷ xs) ≡ without slot xs
without-head slot x xs same = ap (λ b. cond (not b) (x ∷ without slot xs) (without slot xs)) (eq-eqb x slot same)

pub without-other : (slot x : ℕ) (xs : List ℕ) → x ≢ slot → without slot (x ∷ xs) ≡ x ∷ without slot xs
without-other slot x xs other = ap (λ b. cond (not b) (x ∷ without slot xs) (without slot xs)) (ne_eqb x slot other)

-- a slot that the list lacks is not removed
pub without-none : (slot : ℕ) (xs : List ℕ) → is_in xs slot ≡ false → without slot xs ≡ xs
without-none slot [] lacks = refl
without-none slot (x ∷ xs) lacks =
    without-other slot x xs (λ same. lacks_head x xs slot lacks (sym same)) ∙ ap (λ l. x ∷ l) (without-none slot xs (lacks_tail x xs slot lacks))

-- the other slots stay
pub is_in-without : (slot : ℕ) (xs : List ℕ) (s : ℕ) → s ≢ slot → is_in (without slot xs) s ≡ is_in xs s
is_in-without slot [] s other = refl
is_in-without slot (x ∷ xs) s other = elim (cases_eq x slot) [
  | inl same ↦ ap (λ l. is_in l s) (without-head slot x xs same) ∙ is_in-without slot xs s other ∙ sym (is_in-rest x xs s (λ is. other (is ∙ same)))
  | inr differs ↦ ap (λ l. is_in l s) (without-other slot x xs differs) ∙ ap (λ b. nat_eq s x || b) (is_in-without slot xs s other)
]

-- the slot does not
pub is_in-without_it : (slot : ℕ) (xs : List ℕ) → is_in (without slot xs) slot ≡ false
is_in-without_it slot [] = refl
is_in-without_it slot (x ∷ xs) = elim (cases_eq x slot) [
  | inl same ↦ ap (λ l. is_in l slot) (without-head slot x xs same) ∙ is_in-without_it slot xs
  | inr differs ↦ ap (λ l. is_in l slot) (without-other slot x xs differs) ∙ is_in-rest x (without slot xs) slot (λ is. differs (sym is)) ∙ is_in-without_it slot xs
]

-- ---- links

none_equal : (s : ℕ) (xs : List ℕ) → is_in xs s ≡ false → AllByRecursion (λ y. eqb s y ≡ false) xs
none_equal s [] lacks = tt
none_equal s (x ∷ xs) lacks = (ne_eqb s x (lacks_head x xs s lacks), none_equal s xs (lacks_tail x xs s lacks))

module _ (n : ℕ) (f b : ℕ → ℕ) where
  linked-distinct : (last at : ℕ) (xs : List ℕ) → AreLinked n f b last at xs → IsDistinct eqb xs
  unfolding IsDistinct
  linked-distinct last at [] linked = tt
  linked-distinct last at (x ∷ xs) linked = (none_equal x xs linked.3, linked-distinct x (f x) xs linked.4)

  -- the slots of the list are slots
  pub linked-below : (last at : ℕ) (xs : List ℕ) → AreLinked n f b last at xs → (s : ℕ) → is_in xs s ≡ true → s < n
  linked-below last at [] linked s has = absurd (both_ways false refl has)
  linked-below last at (x ∷ xs) linked s has = elim (is_in-cases x xs s has) [
    | inl here ↦ omega (arith, here, linked.1)
    | inr there ↦ linked-below x (f x) xs linked.4 s there
  ]

  -- so that there are no more of them
  pub linked-few : (last at : ℕ) (xs : List ℕ) → AreLinked n f b last at xs → length xs ≤ n
  linked-few last at xs linked = length-le_from_distinct_below xs n (linked-distinct last at xs linked) (linked-below last at xs linked)

  followed : (fuel last at : ℕ) (xs : List ℕ) → AreLinked n f b last at xs → length xs ≤ fuel → follow n f b fuel at ≡ xs
  followed zero last at [] linked few = refl
  followed zero last at (x ∷ xs) linked few = absurd (omega arith)
  followed (suc fuel) last at [] linked few = cond-false (nat_lt at n) (at ∷ follow n f b fuel (f at)) [] (le-ltb at n linked)
  followed (suc fuel) last at (x ∷ xs) linked few =
      cond-true (nat_lt at n) (at ∷ follow n f b fuel (f at)) [] (lt-ltb at n (omega (arith, linked.0, linked.1)))
      ∙ (λ j. linked.0 j ∷ follow n f b fuel (f (linked.0 j)))
      ∙ ap (λ l. x ∷ l) (followed fuel x (f x) xs linked.4 (omega arith))

  -- the links determine the list
  pub follow-linked : (last at : ℕ) (xs : List ℕ) → AreLinked n f b last at xs → follow n f b n at ≡ xs
  follow-linked last at xs linked = followed n last at xs linked (linked-few last at xs linked)

  -- from no slot they lead nowhere
  pub follow-none : (fuel at : ℕ) → n ≤ at → follow n f b fuel at ≡ []
  follow-none zero at past = refl
  follow-none (suc fuel) at past = cond-false (nat_lt at n) (at ∷ follow n f b fuel (f at)) [] (le-ltb at n past)

  -- the link after a slot leads into the list, or to its end
  pub after : (last at : ℕ) (xs : List ℕ) (slot : ℕ) → AreLinked n f b last at xs → is_in xs slot ≡ true → (n ≤ f slot) ⊎ (is_in xs (f slot) ≡ true)
  after last at [] slot linked has = absurd (both_ways false refl has)
  after last at (x ∷ xs) slot linked has = elim (is_in-cases x xs slot has) [
    | inl here ↦ subst (λ (k : ℕ). (n ≤ f k) ⊎ (is_in (x ∷ xs) (f k) ≡ true)) (sym here) (first xs linked.4)
    | inr there ↦ elim (after x (f x) xs slot linked.4 there) [
      | inl past ↦ inl past
      | inr on ↦ inr (is_in-tail x xs (f slot) on)
    ]
  ]
    where
      first : (ys : List ℕ) → AreLinked n f b x (f x) ys → (n ≤ f x) ⊎ (is_in (x ∷ ys) (f x) ≡ true)
      first [] end = inl end
      first (y ∷ ys) on = inr (is_in-tail x (y ∷ ys) (f x) (is_in-head y ys (f x) on.0))

  -- the link before a slot leads to the one before it
  pub ahead : (last at : ℕ) (xs : List ℕ) (slot : ℕ) → AreLinked n f b last at xs → is_in xs slot ≡ true → (at ≡ slot → b slot ≡ last) × (at ≢ slot → is_in xs (b slot) ≡ true)
  ahead last at [] slot linked has = absurd (both_ways false refl has)
  ahead last at (x ∷ xs) slot linked has = elim (cases_eq x slot) [
    | inl here ↦ ((λ _. ap b (sym here) ∙ linked.2), (λ differs. absurd (differs (linked.0 ∙ here))))
    | inr other ↦
        let there : is_in xs slot ≡ true = sym (is_in-rest x xs slot (λ is. other (sym is))) ∙ has in
        let on = ahead x (f x) xs slot linked.4 there in (
          (λ is. absurd (other (sym linked.0 ∙ is))),
          (λ _. elim (cases_eq (f x) slot) [
            | inl next ↦ is_in-head x xs (b slot) (on.0 next)
            | inr later ↦ is_in-tail x xs (b slot) (on.1 later)
          ]),
        )
  ]

  module _ (f' b' : ℕ → ℕ) where
    -- links of other slots do not matter
    pub linked-frame : (last at : ℕ) (xs : List ℕ) → AreLinked n f b last at xs → ((s : ℕ) → is_in xs s ≡ true → (f' s ≡ f s) × (b' s ≡ b s)) → AreLinked n f' b' last at xs
    linked-frame last at [] linked same = linked
    linked-frame last at (x ∷ xs) linked same =
        let here = same x (is_in-head x xs x refl) in (
          linked.0,
          linked.1,
          here.1 ∙ linked.2,
          linked.3,
          subst (λ (k : ℕ). AreLinked n f' b' x k xs) (sym here.0) (linked-frame x (f x) xs linked.4 (λ s has. same s (is_in-tail x xs s has))),
        )

    -- the first slot has another before it
    pub linked-again : (last last' at : ℕ) (xs : List ℕ) → AreLinked n f b last at xs → (at < n → b' at ≡ last')
        → ((s : ℕ) → is_in xs s ≡ true → f' s ≡ f s) → ((s : ℕ) → is_in xs s ≡ true → s ≢ at → b' s ≡ b s) → AreLinked n f' b' last' at xs
    linked-again last last' at [] linked first nexts befores = linked
    linked-again last last' at (x ∷ xs) linked first nexts befores = (
      linked.0,
      linked.1,
      ap b' (sym linked.0) ∙ first (omega (arith, linked.0, linked.1)),
      linked.3,
      subst (λ (k : ℕ). AreLinked n f' b' x k xs) (sym (nexts x (is_in-head x xs x refl)))
          (linked-frame x (f x) xs linked.4 (λ s has. (nexts s (is_in-tail x xs s has), befores s (is_in-tail x xs s has) (λ is. apart xs s x has linked.3 (is ∙ linked.0))))),
    )

    -- a slot stands before the list
    pub linked-front : (last at slot : ℕ) (xs : List ℕ) → AreLinked n f b last at xs → slot < n → is_in xs slot ≡ false → f' slot ≡ at → b' slot ≡ last → (at < n → b' at ≡ slot)
        → ((s : ℕ) → is_in xs s ≡ true → f' s ≡ f s) → ((s : ℕ) → is_in xs s ≡ true → s ≢ at → b' s ≡ b s) → AreLinked n f' b' last slot (slot ∷ xs)
    linked-front last at slot xs linked inside lacks next before first nexts befores =
        (refl, inside, before, lacks, subst (λ (k : ℕ). AreLinked n f' b' slot k xs) (sym next) (linked-again last slot at xs linked first nexts befores))

    -- the links lead past a slot
    module _ (slot : ℕ)
        (next_other : (s : ℕ) → s ≢ slot → s ≢ b slot → f' s ≡ f s) (next_here : b slot < n → b slot ≢ slot → f' (b slot) ≡ f slot)
        (before_other : (s : ℕ) → s ≢ slot → s ≢ f slot → b' s ≡ b s) (before_here : f slot < n → f slot ≢ slot → b' (f slot) ≡ b slot) where
      pub linked-past : (last at : ℕ) (xs : List ℕ) → AreLinked n f b last at xs → is_in xs slot ≡ true → is_in xs last ≡ false
          → AreLinked n f' b' last (cond (nat_eq at slot) (f slot) at) (without slot xs)
      linked-past last at [] linked has lacks = absurd (both_ways false refl has)
      linked-past last at (x ∷ xs) linked has lacks = elim (cases_eq x slot) [
        | inl here ↦ gone here
        | inr other ↦ stays other (linked-past x (f x) xs linked.4 (sym (is_in-rest x xs slot (λ is. other (sym is))) ∙ has) linked.3)
      ]
        where
          gone : x ≡ slot → AreLinked n f' b' last (cond (nat_eq at slot) (f slot) at) (without slot (x ∷ xs))
          gone here =
              let rest : AreLinked n f b slot (f slot) xs = subst (λ (k : ℕ). AreLinked n f b k (f k) xs) here linked.4 in
              let lacks_slot : is_in xs slot ≡ false = ap (is_in xs) (sym here) ∙ linked.3 in
              let was : b slot ≡ last = ap b (sym here) ∙ linked.2 in
              let lacks_before : is_in xs (b slot) ≡ false = ap (is_in xs) was ∙ lacks_tail x xs last lacks in
              let on : AreLinked n f' b' last (f slot) xs =
              linked-again slot last (f slot) xs rest
              (λ within. before_here within (λ is. both_ways (is_in xs slot) lacks_slot (first xs rest within is)) ∙ was)
              (λ s in_xs. next_other s (apart xs s slot in_xs lacks_slot) (apart xs s (b slot) in_xs lacks_before))
              (λ s in_xs differs. before_other s (apart xs s slot in_xs lacks_slot) differs) in
              subst (λ (k : ℕ). AreLinked n f' b' last k (without slot (x ∷ xs))) (sym (cond-true (nat_eq at slot) (f slot) at (eq-eqb at slot (linked.0 ∙ here))))
              (subst (λ l. AreLinked n f' b' last (f slot) l) (sym (without-head slot x xs here ∙ without-none slot xs lacks_slot)) on)
            where
              first : (ys : List ℕ) → AreLinked n f b slot (f slot) ys → f slot < n → f slot ≡ slot → is_in ys slot ≡ true
              first [] end within is = absurd (omega arith)
              first (y ∷ ys) on within is = is_in-head y ys slot (sym is ∙ on.0)

          stays : x ≢ slot → AreLinked n f' b' x (cond (nat_eq (f x) slot) (f slot) (f x)) (without slot xs) → AreLinked n f' b' last (cond (nat_eq at slot) (f slot) at) (without slot (x ∷ xs))
          stays other on =
              let there : is_in xs slot ≡ true = sym (is_in-rest x xs slot (λ is. other (sym is))) ∙ has in
              let before = ahead x (f x) xs slot linked.4 there in
              let not_next : x ≢ f slot = λ is. elim (after x (f x) xs slot linked.4 there) [
                | inl past ↦ absurd (omega (arith, past, is, linked.1))
                | inr in_xs ↦ apart xs (f slot) x in_xs linked.3 (sym is)
              ] in
              let next : f' x ≡ cond (nat_eq (f x) slot) (f slot) (f x) = elim (cases_eq (f x) slot) [
                | inl is ↦
                    let was : b slot ≡ x = before.0 is in
                    ap f' (sym was) ∙ next_here (omega (arith, was, linked.1)) (λ same. other (sym was ∙ same)) ∙ sym (cond-true (nat_eq (f x) slot) (f slot) (f x) (eq-eqb (f x) slot is))
                | inr differs ↦
                    next_other x other (λ is. apart xs (b slot) x (before.1 differs) linked.3 (sym is)) ∙ sym (cond-false (nat_eq (f x) slot) (f slot) (f x) (ne_eqb (f x) slot differs))
              ] in
              subst (λ (k : ℕ). AreLinked n f' b' last k (without slot (x ∷ xs))) (sym (cond-false (nat_eq at slot) (f slot) at (ne_eqb at slot (λ is. other (sym linked.0 ∙ is)))))
              (subst (λ l. AreLinked n f' b' last at l) (sym (without-other slot x xs other))
              (linked.0, linked.1, before_other x other not_next ∙ linked.2, is_in-without slot xs x other ∙ linked.3, subst (λ (k : ℕ). AreLinked n f' b' x k (without slot xs)) (sym next) on))

  -- the first slot of the list after that
  pub head-past : (last at slot : ℕ) (xs : List ℕ) → AreLinked n f b last at xs → is_in xs slot ≡ true → n ≤ last
      → cond (nat_lt (b slot) n) at (f slot) ≡ cond (nat_eq at slot) (f slot) at
  head-past last at slot xs linked has past =
      let before = ahead last at xs slot linked has in
      elim (cases_eq at slot) [
        | inl is ↦ cond-false (nat_lt (b slot) n) at (f slot) (le-ltb (b slot) n (omega (arith, past, before.0 is))) ∙ sym (cond-true (nat_eq at slot) (f slot) at (eq-eqb at slot is))
        | inr differs ↦ cond-true (nat_lt (b slot) n) at (f slot) (lt-ltb (b slot) n (linked-below last at xs linked (b slot) (before.1 differs))) ∙ sym (cond-false (nat_eq at slot) (f slot) at (ne_eqb at slot differs))
      ]
