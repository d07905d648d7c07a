-- Conditions in the same group.
use Rattle.pct_names.proofs.Names.{◌&&◌, ◌+◌, ◌-◌, ◌<◌, ap, arith, Bool, false, if◌then◌else◌, List, nat_eq, nat_lt, not, refl, SharedState}
use Rattle.pct_names.proofs.Names.{sym, true, ◌||◌, ℕ, ◌∙◌, ◌≡◌, ◌≤◌}
use Rattle.std.proofs.lemmas.Bool.{eq-eqb, eqb-true, le-ltb, lt-ltb, ltb-true, ne_eqb, true≢false}
use Rattle.pct_model.specs.Environment.{Environment}
use Rattle.pct_transitions.specs.declared.readiness.ReadyWhen.{ReadyWhen}
use Rattle.pct_transitions.specs.declared.readiness.ReadyWhen.TheVariants as ready
use Rattle.pct_transitions.specs.Readiness.{is_met}
use Rattle.pct_ready_sets.specs.ReadyGroups.{indexed, group_of, is_in_group, is_conditional, condition_on, is_alike}

-- ---- the conditions that depend on no others

past_one : (n : ℕ) (met : Bool) → 2 ≤ n → nat_eq n 1 ≡ (met && not (not (nat_eq n 0 || nat_eq n 1)))
past_one n met above = either (nat_eq n 0) (nat_eq n 1) met (ne_eqb n 0 (λ is. omega (arith, is, above))) (ne_eqb n 1 (λ is. omega (arith, is, above))) where
  either : (x y b : Bool) → x ≡ false → y ≡ false → y ≡ (b && not (not (x || y)))
  either true y b x_is y_is = absurd (true≢false x_is)
  either false true b x_is y_is = absurd (true≢false y_is)
  either false false true x_is y_is = refl
  either false false false x_is y_is = refl

past_indexed : (first m : ℕ) → 2 ≤ first → 2 ≤ indexed first m
past_indexed first m above = by (nat_lt m 32) where
  by : (b : Bool) → 2 ≤ (if b then first + m else 2)
  by true = omega (arith, above)
  by false = omega arith

-- they hold exactly if they are in group 1
pub now_or_conditional : (shared : SharedState) (environment : Environment) (c : ReadyWhen) → is_in_group 1 c ≡ (is_met shared environment c && not (is_conditional c))
now_or_conditional shared environment ready.Never = refl
now_or_conditional shared environment ready.Now = refl
now_or_conditional shared environment (ready.MutexFree m) = past_one (indexed 3 m) (is_met shared environment (ready.MutexFree m)) (past_indexed 3 m (omega arith))
now_or_conditional shared environment (ready.CountAboveZero s) = past_one (indexed 35 s) (is_met shared environment (ready.CountAboveZero s)) (past_indexed 35 s (omega arith))
now_or_conditional shared environment (ready.OnceNotBusy o) = past_one (indexed 67 o) (is_met shared environment (ready.OnceNotBusy o)) (past_indexed 67 o (omega arith))
now_or_conditional shared environment (ready.ThreadEnded id) = past_one 2 (is_met shared environment (ready.ThreadEnded id)) (omega arith)
now_or_conditional shared environment (ready.ChildEnded pid) = past_one 2 (is_met shared environment (ready.ChildEnded pid)) (omega arith)

-- ---- the conditions of a group

-- the condition of a group other than 2
abbrev of_group : ℕ → ReadyWhen
of_group g = if nat_lt g 1 then ready.Never else if nat_lt g 2 then ready.Now else if nat_lt g 35 then ready.MutexFree (g - 3) else if nat_lt g 67 then ready.CountAboveZero (g - 35) else ready.OnceNotBusy (g - 67)

-- it has an index
of_indexed : (first m : ℕ) (c : ReadyWhen) → nat_eq (indexed first m) 2 ≡ false → (nat_lt m 32 ≡ true → c ≡ of_group (first + m)) → c ≡ of_group (indexed first m)
of_indexed first m c own small = by (nat_lt m 32) own small where
  by : (b : Bool) → nat_eq (if b then first + m else 2) 2 ≡ false → (b ≡ true → c ≡ of_group (first + m)) → c ≡ of_group (if b then first + m else 2)
  by true own small = small refl
  by false own small = absurd (true≢false own)

by_group : (c : ReadyWhen) → is_in_group 2 c ≡ false → c ≡ of_group (group_of c)
by_group ready.Never own = refl
by_group ready.Now own = refl
by_group (ready.MutexFree m) own = of_indexed 3 m (ready.MutexFree m) own (λ small.
    let below : m < 32 = ltb-true m 32 small in
    let is : m ≡ 3 + m - 3 = omega arith in
    rw (le-ltb (3 + m) 1 (omega arith), le-ltb (3 + m) 2 (omega arith), lt-ltb (3 + m) 35 (omega (arith, below))) (ap ready.MutexFree is))
by_group (ready.CountAboveZero s) own = of_indexed 35 s (ready.CountAboveZero s) own (λ small.
    let below : s < 32 = ltb-true s 32 small in
    let is : s ≡ 35 + s - 35 = omega arith in
    rw (le-ltb (35 + s) 1 (omega arith), le-ltb (35 + s) 2 (omega arith), le-ltb (35 + s) 35 (omega arith), lt-ltb (35 + s) 67 (omega (arith, below))) (ap ready.CountAboveZero is))
by_group (ready.OnceNotBusy o) own = of_indexed 67 o (ready.OnceNotBusy o) own (λ small.
    let is : o ≡ 67 + o - 67 = omega arith in
    rw (le-ltb (67 + o) 1 (omega arith), le-ltb (67 + o) 2 (omega arith), le-ltb (67 + o) 35 (omega arith), le-ltb (67 + o) 67 (omega arith)) (ap ready.OnceNotBusy is))
by_group (ready.ThreadEnded id) own = absurd (true≢false own)
by_group (ready.ChildEnded pid) own = absurd (true≢false own)

-- the slots of a group have the same condition
pub alike_same : (conditions : List ReadyWhen) (slot k : ℕ) → is_alike conditions slot k ≡ true → condition_on conditions k ≡ condition_on conditions slot
alike_same conditions slot k alike = by (is_in_group 2 (condition_on conditions slot)) refl alike where
  by : (b : Bool) → is_in_group 2 (condition_on conditions slot) ≡ b → (if b then nat_eq k slot else is_in_group (group_of (condition_on conditions slot)) (condition_on conditions k)) ≡ true → condition_on conditions k ≡ condition_on conditions slot
  by true is alike = ap (condition_on conditions) (eqb-true k slot alike)
  by false is alike =
      let same : group_of (condition_on conditions k) ≡ group_of (condition_on conditions slot) = eqb-true _ _ alike in
      by_group (condition_on conditions k) (ap (λ (g : ℕ). nat_eq g 2) same ∙ is) ∙ ap of_group same ∙ sym (by_group (condition_on conditions slot) is)

-- a slot is in its own group
pub own_alike : (conditions : List ReadyWhen) (slot : ℕ) → is_alike conditions slot slot ≡ true
own_alike conditions slot = by (is_in_group 2 (condition_on conditions slot)) where
  by : (b : Bool) → (if b then nat_eq slot slot else is_in_group (group_of (condition_on conditions slot)) (condition_on conditions slot)) ≡ true
  by true = eq-eqb slot slot refl
  by false = eq-eqb (group_of (condition_on conditions slot)) (group_of (condition_on conditions slot)) refl
