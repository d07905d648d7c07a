-- A lemma on the rest of a list that is moved to the front.
use Rattle.std.proofs.Common.{◌≡◌, ℕ, ◌+◌, ◌-◌, ◌≤◌, List, length, take, drop, sym, ap, ◌∙◌, arith, length-drop}
use Rattle.std.proofs.lemmas.List.{drop-take}
use Rattle.std.proofs.Math.Seq.{take-paste}
use lib.Seq.{paste}
use Rattle.std.specs.List.{copy_within}

-- the first `end` items without their first n, copied to index 0
pub moved_rest : (xs : List ℕ) (n end : ℕ) → n ≤ end → end ≤ length xs → take (end - n) (copy_within xs n end 0) ≡ drop n (take end xs)
moved_rest xs n end le fits =
    let m = end - n in
    let rest = drop n xs in
    let size : m ≤ length rest = omega (arith, length-drop n xs) in
    let zero : m ≡ 0 + m = omega arith in
    let all : n + m ≡ end = omega arith in
    ap (λ k. take k (paste xs 0 rest m)) zero
    ∙ take-paste xs 0 rest m (omega arith) size
    ∙ sym (drop-take n m xs)
    ∙ ap (λ k. drop n (take k xs)) all
