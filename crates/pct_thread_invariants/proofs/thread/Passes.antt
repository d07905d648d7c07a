-- The passes of a thread over destructors: what its data have of the current one, beside what its events report.
use Rattle.pct_names.proofs.Names.{◌<◌, [], All, All-cons, All-nil, All-replicate, All-set, All-weaker, and_left, and_parts, ap, arith}
use Rattle.pct_names.proofs.Names.{Bool, cases_lt, false, false_from_ne_true, false≢true, get_or, get_or_past, inl, inr, key_place, le_refl}
use Rattle.pct_names.proofs.Names.{length, List, list_any, list_any_none, MAX_KEYS, nat_eq, or_cases, refl, replicate, set, subst, suc, sym}
use Rattle.pct_names.proofs.Names.{true, zero, ℕ, ◌∙◌, ◌∷◌, ◌≡◌, ◌≤◌}
use Rattle.std.proofs.Common.{ne_eqb, eqb-true}
use Rattle.pct_laws.specs.Once.{is_pair}
use Rattle.pct_thread_invariants.proofs.keys.KeyPlaces.{default_set, default_stays}

-- the place is in the pass
abbrev pub is_in : List Bool → ℕ → Bool
is_in in_pass place = get_or in_pass place false

module _ (passes : ℕ) where
  -- a thread in a pass, with the places that are in it; its events report the passes that it began, and the destructors that it called
  pub record PassesFit (pass : ℕ) (in_pass : List Bool) (begun : ℕ) (destroyed : List (ℕ × ℕ)) : Type 0 where
    pub current : begun ≡ pass
    pub within : pass ≤ passes
    -- no destructor was called in a later pass
    pub earlier : All (λ (pair : ℕ × ℕ). pair.0 ≤ pass) destroyed
    -- the place of a key whose destructor was called in the pass is not in it
    pub taken : (key : ℕ) → list_any (is_pair pass key) destroyed ≡ true → is_in in_pass (key_place key) ≡ false
    -- before the first pass no place is in one
    pub no_pass : pass ≡ 0 → All (λ (is : Bool). is ≡ false) in_pass

  -- a new thread
  pub first_pass : PassesFit 0 (replicate MAX_KEYS false) 0 []
  first_pass = record {
    current = refl;
    within = omega arith;
    earlier = All-nil (λ (pair : ℕ × ℕ). pair.0 ≤ 0);
    taken = λ key any. absurd (false≢true any);
    no_pass = λ none. All-replicate (λ (is : Bool). is ≡ false) MAX_KEYS false refl;
  }

  module _ (pass : ℕ) (in_pass : List Bool) (begun : ℕ) (destroyed : List (ℕ × ℕ)) (fit : PassesFit pass in_pass begun destroyed) where
    -- a place leaves the pass
    pub leaves_pass : (place : ℕ) → PassesFit pass (set in_pass place false) begun destroyed
    leaves_pass place = record {
      current = fit.current;
      within = fit.within;
      earlier = fit.earlier;
      taken = λ key any. default_stays in_pass place (key_place key) false (fit.taken key any);
      no_pass = λ none. All-set (λ (is : Bool). is ≡ false) in_pass place false refl (fit.no_pass none);
    }

    -- the destructor of a key is called
    pub takes_key : (k : ℕ) → PassesFit pass (set in_pass (key_place k) false) begun ((pass, k) ∷ destroyed)
    takes_key k = record {
      current = fit.current;
      within = fit.within;
      earlier = All-cons (λ (pair : ℕ × ℕ). pair.0 ≤ pass) (pass, k) destroyed (le_refl pass) fit.earlier;
      taken = λ key any. elim (or_cases (is_pair pass key (pass, k)) (list_any (is_pair pass key) destroyed) any) [
        | inl it ↦ subst (λ (n : ℕ). is_in (set in_pass (key_place k) false) (key_place n) ≡ false) (eqb-true k key (and_parts (nat_eq pass pass) (nat_eq k key) it).1) (default_set in_pass (key_place k) false)
        | inr before ↦ default_stays in_pass (key_place k) (key_place key) false (fit.taken key before)
      ];
      no_pass = λ none. All-set (λ (is : Bool). is ≡ false) in_pass (key_place k) false refl (fit.no_pass none);
    }

    -- no destructor was called in the next pass
    none_later : (key : ℕ) → list_any (is_pair (suc pass) key) destroyed ≡ false
    none_later key =
        list_any_none (is_pair (suc pass) key) destroyed
        (All-weaker (λ (pair : ℕ × ℕ). pair.0 ≤ pass) (λ (pair : ℕ × ℕ). is_pair (suc pass) key pair ≡ false) (λ pair low. and_left (nat_eq pair.0 (suc pass)) (nat_eq pair.1 key) (ne_eqb pair.0 (suc pass) (λ same. absurd (omega (arith, low, same))))) destroyed fit.earlier)

    -- the next pass begins
    pub begins_pass : pass < passes → (next : List Bool) → PassesFit (suc pass) next (suc begun) destroyed
    begins_pass more next = record {
      current = ap suc fit.current;
      within = omega (arith, more);
      earlier = All-weaker (λ (pair : ℕ × ℕ). pair.0 ≤ pass) (λ (pair : ℕ × ℕ). pair.0 ≤ suc pass) (λ pair low. omega (arith, low)) destroyed fit.earlier;
      taken = λ key any. absurd (false≢true (sym (none_later key) ∙ any));
      no_pass = λ none. absurd (omega (arith, none));
    }

    -- where a place is in the pass, one has begun
    pub has_pass : (place : ℕ) → is_in in_pass place ≡ true → 0 < pass
    has_pass place is = positive pass refl
      where
        no_place : pass ≡ 0 → is_in in_pass place ≡ false
        no_place none = elim (cases_lt place (length in_pass)) [
          | inl low ↦ fit.no_pass none place false low
          | inr past ↦ get_or_past in_pass place false past
        ]

        positive : (n : ℕ) → pass ≡ n → 0 < n
        positive zero none = absurd (false≢true (sym (no_place none) ∙ is))
        positive (suc n) same = omega arith

    -- the destructor of a key whose place is in the pass was not called in it
    pub not_taken : (key : ℕ) → is_in in_pass (key_place key) ≡ true → list_any (is_pair pass key) destroyed ≡ false
    not_taken key is = false_from_ne_true (list_any (is_pair pass key) destroyed) (λ any. false≢true (sym (fit.taken key any) ∙ is))
