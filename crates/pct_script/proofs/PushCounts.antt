-- The first return between a push and its pop, found by counting pushes and pops.
use Rattle.pct_names.proofs.Names.{◌+◌, [], ap, arith, Bool, cond, count_by, false, first_wrong, is_in_push, is_pop, is_push, List}
use Rattle.pct_names.proofs.Names.{Numbered, Option, refl, Role, Some, sum_by-cons, true, ℕ, ◌∙◌, ◌∷◌, ◌≡◌}
use Rattle.pct_script.specs.PushCounts.{one_if, return_after}

one_more : (t : Bool) (n m : ℕ) → m ≡ cond t 1 0 + n → m ≡ n + one_if t
one_more true n m e = omega arith
one_more false n m e = omega arith

counted : (test : Role → Bool) (r : Role) (before : List Role) → count_by test (r ∷ before) ≡ count_by test before + one_if (test r)
counted test r before = one_more (test r) (count_by test before) (count_by test (r ∷ before)) (sum_by-cons (λ (x : Role). cond (test x) 1 0) r before)

-- the rule depends on the earlier lines by their counts alone
counts_are : (before : List Role) (lines : List (Numbered Role)) → first_wrong is_in_push before lines ≡ return_after (count_by is_push before) (count_by is_pop before) lines
unfolding first_wrong return_after
counts_are before [] = refl
counts_are before (l ∷ lines) =
    let pushes = counted is_push l.1 before in
    let pops = counted is_pop l.1 before in
    ap (λ (o : Option ℕ). cond (is_in_push before l.1) (Some l.0) o)
    (counts_are (l.1 ∷ before) lines ∙ ap (λ (n : ℕ). return_after n (count_by is_pop (l.1 ∷ before)) lines) pushes
    ∙ ap (λ (n : ℕ). return_after (count_by is_push before + one_if (is_push l.1)) n lines) pops)

-- at the start both counts are 0
pub by_counts : (lines : List (Numbered Role)) → first_wrong is_in_push [] lines ≡ return_after 0 0 lines
by_counts lines = counts_are [] lines
