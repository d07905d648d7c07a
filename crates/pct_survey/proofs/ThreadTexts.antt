-- The texts of the threads in a set.
use Rattle.std.proofs.lemmas.Fmt.{decimal_injective}
use Rattle.std.proofs.lemmas.Slice.Eq.{bytes_eq-Decides}
use Rattle.std.proofs.lemmas.Bool.Decides.{same_from_decides}
use Rattle.std.specs.BTreeMap.{is_at}
use Rattle.std.specs.BTreeSet.{insert_key}
use Rattle.std.proofs.lemmas.Bool.{eqb-true, eq-eqb}
use Rattle.std.specs.Bool.{Decides}
use Rattle.std.specs.Cmp.{tied_then}
use Rattle.std.specs.Ordering.{is_eq, nat_cmp, ordering_then}
use Rattle.std.specs.declared.cmp.Ordering.{Ordering}
use Rattle.pct_names.proofs.Names.{◌&&◌, ◌||◌, and_from, nat_eq, nat_tests, ◌++◌, ◌<◌, ◌^◌, [], All, All-head, All-tail, and_parts, ap, ap₂, arith, Bool, bytes_eq, decimal, drop, false≢true, get_or, is_digit}
use Rattle.pct_names.proofs.Names.{List, list_all, list_any, map, refl, sym, thread_text, true, ℕ, ◌∙◌, ◌∷◌, ◌≡◌}
use Rattle.pct_expect.proofs.InsertedKeys.{any_inserted}
use Rattle.pct_text.proofs.Numbers.{digits_of_decimal}

-- ---- digits before a dot

same_parts : (a b x y : List ℕ) → list_all is_digit a ≡ true → list_all is_digit b ≡ true → a ++ 46 ∷ x ≡ b ++ 46 ∷ y → (a ≡ b) × (x ≡ y)
same_parts [] [] x y da db e = (refl, ap (drop 1) e)
same_parts [] (c ∷ b) x y da db e =
    let dot : 46 ≡ c = ap (λ (l : List ℕ). get_or l 0 0) e in
    absurd (false≢true (ap is_digit dot ∙ (and_parts (is_digit c) (list_all is_digit b) db).0))
same_parts (c ∷ a) [] x y da db e =
    let dot : c ≡ 46 = ap (λ (l : List ℕ). get_or l 0 0) e in
    absurd (false≢true (sym (ap is_digit dot) ∙ (and_parts (is_digit c) (list_all is_digit a) da).0))
same_parts (c ∷ a) (d ∷ b) x y da db e =
    let here : c ≡ d = ap (λ (l : List ℕ). get_or l 0 0) e in
    let more = same_parts a b x y (and_parts (is_digit c) (list_all is_digit a) da).1 (and_parts (is_digit d) (list_all is_digit b) db).1 (ap (drop 1) e) in
    (ap₂ (λ (n : ℕ) (l : List ℕ). n ∷ l) here more.0, more.1)

-- ---- pairs of numbers

number_is : (x y : ℕ) → is_eq (nat_cmp x y) ≡ nat_eq x y
number_is x y = grind (arith, nat_tests)

-- two pairs are equal in their order exactly where they are equal
same_pair : (p t q u : ℕ) → Decides (is_eq (ordering_then (nat_cmp p q) (nat_cmp t u))) ((p ≡ q) × (t ≡ u))
same_pair p t q u =
    let tests : is_eq (ordering_then (nat_cmp p q) (nat_cmp t u)) ≡ (nat_eq p q && nat_eq t u) = sym (tied_then (nat_cmp p q) (nat_cmp t u)) ∙ ap₂ (λ (a b : Bool). a && b) (number_is p q) (number_is t u) in (
      (λ e. let both = and_parts (nat_eq p q) (nat_eq t u) (sym tests ∙ e) in (eqb-true p q both.0, eqb-true t u both.1)),
      (λ same. tests ∙ and_from (nat_eq p q) (nat_eq t u) (eq-eqb p q same.0) (eq-eqb t u same.1)),
    )

module _ (p t q u : ℕ) (p_fits : p < 2 ^ 32) (t_fits : t < 2 ^ 32) (q_fits : q < 2 ^ 32) (u_fits : u < 2 ^ 32) where
  same_thread : thread_text p t ≡ thread_text q u → (p ≡ q) × (t ≡ u)
  unfolding thread_text
  same_thread e =
      let parts = same_parts (decimal p) (decimal q) (decimal t) (decimal u) (digits_of_decimal p) (digits_of_decimal q) e in
      (decimal_injective p q (omega (arith, p_fits)) (omega (arith, q_fits)) parts.0, decimal_injective t u (omega (arith, t_fits)) (omega (arith, u_fits)) parts.1)

  -- threads are compared as their texts are
  compared : is_eq (ordering_then (nat_cmp p q) (nat_cmp t u)) ≡ bytes_eq (thread_text p t) (thread_text q u)
  compared =
      let texts = bytes_eq-Decides (thread_text p t) (thread_text q u) in
      same_from_decides {P = (p ≡ q) × (t ≡ u)} (is_eq (ordering_then (nat_cmp p q) (nat_cmp t u))) (bytes_eq (thread_text p t) (thread_text q u)) (same_pair p t q u)
      ((λ e. same_thread (texts.0 e)), (λ same. texts.1 (ap₂ thread_text same.0 same.1)))

-- ---- the keys of a set

abbrev pub order_of : ℕ × ℕ → ℕ × ℕ → Ordering
order_of a b = ordering_then (nat_cmp a.0 b.0) (nat_cmp a.1 b.1)

abbrev pub text_of : ℕ × ℕ → List ℕ
text_of thread = thread_text thread.0 thread.1

abbrev pub Fits : ℕ × ℕ → Type 0
Fits thread = (thread.0 < 2 ^ 32) × (thread.1 < 2 ^ 32)

pub any_thread : (thread : ℕ × ℕ) (keys : List (ℕ × ℕ)) → Fits thread → All Fits keys → list_any (is_at (order_of thread)) keys ≡ list_any (bytes_eq (text_of thread)) (map text_of keys)
any_thread thread [] fits all = refl
any_thread thread (key ∷ keys) fits all =
    let here = All-head Fits key keys all in
    ap₂ (λ (a b : Bool). a || b) (compared thread.0 thread.1 key.0 key.1 fits.0 fits.1 here.0 here.1) (any_thread thread keys fits (All-tail Fits key keys all))

any_text : (text : List ℕ) (keys : List (ℕ × ℕ)) → list_any (λ key. bytes_eq text (text_of key)) keys ≡ list_any (bytes_eq text) (map text_of keys)
any_text text [] = refl
any_text text (key ∷ keys) = ap (λ (b : Bool). bytes_eq text (text_of key) || b) (any_text text keys)

pub put_in : (old new : List (ℕ × ℕ)) (key : ℕ × ℕ) → new ≡ insert_key order_of old key → (text : List ℕ)
    → list_any (bytes_eq text) (map text_of new) ≡ (bytes_eq text (text_of key) || list_any (bytes_eq text) (map text_of old))
put_in old new key keys text =
    ap (λ (ks : List (ℕ × ℕ)). list_any (bytes_eq text) (map text_of ks)) keys
    ∙ sym (any_text text (insert_key order_of old key))
    ∙ any_inserted order_of (λ (k : ℕ × ℕ). bytes_eq text (text_of k))
    (λ k x same. let pair = (same_pair k.0 k.1 x.0 x.1).0 (ap is_eq same) in ap (bytes_eq text) (ap₂ thread_text pair.0 pair.1)) old key
    ∙ ap (λ (b : Bool). bytes_eq text (text_of key) || b) (any_text text old)
