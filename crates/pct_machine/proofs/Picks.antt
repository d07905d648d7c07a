-- What a number chooses of candidates and of others before them, of one process after the other.
use Rattle.pct_names.proofs.Names.{◌%◌, ◌+◌, ◌++◌, ◌-◌, ◌<◌, [], ap, arith, Bool, Candidate, cond, false, le-ltb, length}
use Rattle.pct_names.proofs.Names.{List, nat_lt, None, Option, refl, slice_get, suc, sym, true, zero, ℕ, ◌∙◌, ◌∷◌, ◌≡◌}
use Rattle.pct_names.proofs.Names.{◌≤◌}
use Rattle.std.proofs.Math.Nat.{mod-lt, add-zero}
use Rattle.std.proofs.lemmas.Bool.{lt-ltb, ltb-true, ltb-false}
use Rattle.std.proofs.lemmas.List.{length-append}
use Rattle.pct_machine.specs.Candidates.{Picked, Here, Before, pick_at, pick_after}

-- ---- items of joined lists

item_left : {T : Type 0} (xs ys : List T) (j : ℕ) → j < length xs → slice_get (xs ++ ys) j ≡ slice_get xs j
item_left [] ys j less = absurd (omega (arith, less))
item_left (x ∷ xs) ys zero less = refl
item_left (x ∷ xs) ys (suc j) less = item_left xs ys j (omega (arith, less))

add-suc_left : (n j : ℕ) → suc n + j ≡ suc (n + j)
add-suc_left n j = omega (arith)

item_right : {T : Type 0} (xs ys : List T) (j : ℕ) → slice_get (xs ++ ys) (length xs + j) ≡ slice_get ys j
item_right [] ys j = ap (slice_get ys) (omega (arith))
item_right (x ∷ xs) ys j = ap (slice_get (x ∷ (xs ++ ys))) (add-suc_left (length xs) j) ∙ item_right xs ys j

-- ---- by the number

module _ (before : ℕ) where
  abbrev by : Bool → ℕ → List Candidate → Picked
  by earlier index cs = cond earlier (Before index) (Here (slice_get cs (index - before)))

  here_by : (earlier : Bool) (index : ℕ) (cs : List Candidate) (c : Option Candidate) → by earlier index cs ≡ Here c → (earlier ≡ false) × (slice_get cs (index - before) ≡ c)
  here_by true index cs c is = absurd (cc (is))
  here_by false index cs c is = (refl, cc (is))

  before_by : (earlier : Bool) (index i : ℕ) (cs : List Candidate) → by earlier index cs ≡ Before i → (earlier ≡ true) × (index ≡ i)
  before_by true index i cs is = (refl, cc (is))
  before_by false index i cs is = absurd (cc (is))

  pub among : (index : ℕ) (cs : List Candidate) → before ≤ index → pick_at before index cs ≡ Here (slice_get cs (index - before))
  among index cs le = ap (λ b. by b index cs) (le-ltb index before le)

  earlier : (index : ℕ) (cs : List Candidate) → index < before → pick_at before index cs ≡ Before index
  earlier index cs less = ap (λ b. by b index cs) (lt-ltb index before less)

  -- without candidates
  pub none_here : (number : ℕ) → before ≡ 0 → Here None ≡ pick_after before number []
  unfolding pick_after
  none_here number is = sym (among (number % (before + 0)) [] (omega (arith, is)))

  pub one_before : (number : ℕ) → 0 < before → Before (number % before) ≡ pick_after before number []
  unfolding pick_after
  one_before number some =
      sym (earlier (number % before) [] (mod-lt number some)) ∙ ap (λ (n : ℕ). pick_at before (number % n) []) (sym (add-zero before))

module _ (before n number : ℕ) (cs rest : List Candidate) (count : n ≡ length cs) where
  abbrev index : ℕ
  index = number % (before + length (cs ++ rest))

  after : number % (before + n + length rest) ≡ index
  after = ap (λ (k : ℕ). number % k) (omega (arith, count, length-append cs rest))

  -- one of the candidates after these
  pub later : (c : Option Candidate) → Here c ≡ pick_after (before + n) number rest → Here c ≡ pick_after before number (cs ++ rest)
  unfolding pick_after
  later c is =
      let there : ℕ = number % (before + n + length rest) in
      let here = here_by (before + n) (nat_lt there (before + n)) there rest c (sym is) in
      let past : before + n ≤ there = ltb-false there (before + n) here.0 in
      let same : there ≡ index = after in
      let at : length cs + (there - (before + n)) ≡ index - before = omega (arith, past, count, same) in
      ap Here (sym here.1 ∙ sym (item_right cs rest (there - (before + n))) ∙ ap (slice_get (cs ++ rest)) at)
      ∙ sym (among before index (cs ++ rest) (omega (arith, past, same)))

  -- one before these
  pub still_before : (i : ℕ) → Before i ≡ pick_after (before + n) number rest → i < before → Before i ≡ pick_after before number (cs ++ rest)
  unfolding pick_after
  still_before i is less =
      let at : ℕ = number % (before + n + length rest) in
      let there = before_by (before + n) (nat_lt at (before + n)) at i rest (sym is) in
      let same : i ≡ index = sym there.1 ∙ after in
      ap Before same ∙ sym (earlier before index (cs ++ rest) (omega (arith, less, same)))

  -- one of these
  pub one_of_these : (i : ℕ) → Before i ≡ pick_after (before + n) number rest → before ≤ i → (i - before < n) × (pick_after before number (cs ++ rest) ≡ Here (slice_get cs (i - before)))
  unfolding pick_after
  one_of_these i is le =
      let at : ℕ = number % (before + n + length rest) in
      let there = before_by (before + n) (nat_lt at (before + n)) at i rest (sym is) in
      let less : i < before + n = omega (arith, ltb-true at (before + n) there.0, there.1) in
      let same : index ≡ i = sym after ∙ there.1 in
      let few : i - before < n = omega (arith, less, le) in (
        few,
        among before index (cs ++ rest) (omega (arith, le, same))
            ∙ ap (λ (k : ℕ). Here (slice_get (cs ++ rest) (k - before))) same
            ∙ ap Here (item_left cs rest (i - before) (omega (arith, few, count))),
      )
