-- The names of the globals for the ids of threads.
use Rattle.pct_names.proofs.Names.{◌%◌, ◌+◌, ◌++◌, ◌-◌, ◌/◌, ◌<◌, [], ap, arith, Bool, cond, decimal, decimal_digit, decimal_step, false}
use Rattle.pct_names.proofs.Names.{get_or, get_or-map-range_with_len, length, List, map, name_at, nat_lt, range_with_len, refl, suc, sym}
use Rattle.pct_names.proofs.Names.{true, unwrap_or-slice_get, zero, ℕ, ◌∙◌, ◌∷◌, ◌≡◌, ◌≤◌}
use Rattle.std.proofs.lemmas.Bool.{ltb-true, ltb-false}
use Rattle.pct_vectors.specs.GeneratedContents.{thread_name, global_names}

-- a number of at most two digits
text_by : (i : ℕ) (short : Bool) → nat_lt i 10 ≡ short → i < 100 → cond short (116 ∷ (48 + i) ∷ []) (116 ∷ (48 + i / 10) ∷ (48 + i % 10) ∷ []) ≡ 116 ∷ decimal i
text_by i true is few = ap (λ (ds : List ℕ). 116 ∷ ds) (sym (decimal_digit i (ltb-true i 10 is)))
text_by i false is few =
    let first = decimal_digit (i / 10) (omega (arith, few)) in
    ap (λ (ds : List ℕ). 116 ∷ ds) (sym (decimal_step i (ltb-false i 10 is) (omega (arith, few)) ∙ ap (λ (ds : List ℕ). ds ++ (48 + i % 10) ∷ []) first))

pub thread_text : (i : ℕ) → i < 100 → thread_name i ≡ 116 ∷ decimal i
unfolding thread_name
thread_text i few = text_by i (nat_lt i 10) refl few

-- the id of a thread is in the global with its name
pub name_of_id : (threads i : ℕ) → 1 ≤ i → i ≤ threads → threads ≤ 28 → name_at (global_names threads) (2 + i) ≡ 116 ∷ decimal i
unfolding name_at
name_of_id threads zero some within few = absurd (omega (arith, some))
name_of_id threads (suc j) some within few =
    let three : 2 + suc j ≡ suc (suc (suc j)) = omega arith in
    unwrap_or-slice_get (global_names threads) (2 + suc j) []
    ∙ ap (λ (k : ℕ). get_or (global_names threads) k []) three
    ∙ get_or-map-range_with_len thread_name 1 threads j (suc j) [] (omega (arith, within)) (omega arith)
    ∙ thread_text (suc j) (omega (arith, within, few))
