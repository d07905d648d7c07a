-- The law of cleanup handlers and destructors, by what is kept of a thread.
use Rattle.std.proofs.Common.{◌≡◌, ℕ, suc, ◌-◌, Bool, not, ◌&&◌, ◌||◌, List, [], ◌∷◌, length, refl, ap, ap₂, nat_eq, nat_lt, nat_le, arith}
use Rattle.std.specs.Prelude.{is_none}
use Rattle.std.specs.List.{list_any}
use Rattle.std.proofs.lemmas.Bool.{and_parts, and_from, eq-eqb, eqb-true, lt-ltb, ltb-true, ne_eqb}
use Rattle.pct_model.specs.declared.event.What.{What}
use Rattle.pct_model.specs.declared.event.What.TheVariants as what
use Rattle.pct_model.specs.LineParsing.{is_empty}
use Rattle.pct_model.specs.StopTable.{has_begun_to_end}
use Rattle.pct_laws.specs.Once as Once
use Rattle.pct_laws.specs.Once.{is_pair, value_of_end}
use Rattle.pct_laws.specs.ThreadSummary.{ThreadSummary}
use Rattle.pct_audit.specs.CleanupTests.{is_newest, allows, snapshot_of}
use Rattle.pct_audit.specs.Stacks.{newest}
use Rattle.pct_audit.proofs.SameTests.{same_tests}

newest_told : (f a : ℕ) (handlers : List (ℕ × ℕ)) → is_newest f a (newest handlers) ≡ Once.is_newest f a handlers
newest_told f a [] = refl
newest_told f a (handler ∷ older) = refl

empty_told : (handlers : List (ℕ × ℕ)) → nat_eq (length handlers) 0 ≡ is_empty handlers
empty_told [] = refl
empty_told (handler ∷ older) = ne_eqb (suc (length older)) 0 (λ is. absurd (omega (arith, is)))

next_told : (n k : ℕ) → (nat_lt 0 n && nat_eq (n - 1) k) ≡ nat_eq n (suc k)
next_told n k =
    same_tests (nat_lt 0 n && nat_eq (n - 1) k) (nat_eq n (suc k))
    (λ is. let parts = and_parts (nat_lt 0 n) (nat_eq (n - 1) k) is in eq-eqb n (suc k) (omega (arith, ltb-true 0 n parts.0, eqb-true (n - 1) k parts.1)))
    (λ is. let next = eqb-true n (suc k) is in and_from (nat_lt 0 n) (nat_eq (n - 1) k) (lt-ltb 0 n (omega (arith, next))) (eq-eqb (n - 1) k (omega (arith, next))))

pub allows_told : (passes : ℕ) (w : What) (s : ThreadSummary) (destroyed : Bool)
    → ((pass key f v : ℕ) → w ≡ what.DtorRun pass key f v → destroyed ≡ list_any (is_pair pass key) s.destroyed) → allows passes w (snapshot_of s) destroyed ≡ Once.may_come passes w s
unfolding allows
allows_told passes (what.Popped f a run) s destroyed is = ap (λ b. b && (not (has_begun_to_end s.reason) || nat_lt (length s.left) (length s.handlers))) (newest_told f a s.handlers)
allows_told passes (what.HandlerRun f a) s destroyed is = ap (λ b. b && has_begun_to_end s.reason && nat_eq (length s.handlers) (length s.left)) (newest_told f a s.handlers)
allows_told passes (what.EndedWith v) s destroyed is = ap (λ b. has_begun_to_end s.reason && is_none s.ended && b && nat_eq v (value_of_end s.reason)) (empty_told s.handlers)
allows_told passes (what.PassBegun n) s destroyed is =
    ap₂ (λ (empty next : Bool). has_begun_to_end s.reason && empty && next && nat_le n passes) (empty_told s.handlers) (next_told n s.passes)
allows_told passes (what.DtorRun pass key f v) s destroyed is =
    ap₂ (λ (empty was : Bool). nat_eq pass s.passes && nat_lt 0 pass && empty && not was) (empty_told s.handlers) (is pass key f v refl)
allows_told passes _ s destroyed is = refl
