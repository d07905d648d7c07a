-- The processes of a state are numbered in the order in which they were made, and a transition makes at most one.
use Rattle.pct_names.proofs.Names.{◌+◌, ◌++◌, ◌<◌, [], All, All-head, All-tail, and_left, and_parts, ap, arith, Bool, changed, child_by}
use Rattle.pct_names.proofs.Names.{child_of, cond, false, flat_map, has_ended, is_live_process, length, List, map, MAX_PROCESSES, nat_eq}
use Rattle.pct_names.proofs.Names.{nat_lt, None, none-some, not, Option, pid_after, Process, process_made, ProcessAction, refl, Relative}
use Rattle.pct_names.proofs.Names.{same_Some, Some, subst, suc, sym, Transition, true, ℕ, ◌∙◌, ◌∷◌, ◌≡◌}
use Rattle.std.proofs.Common.{append-nil, ne_eqb, eqb-true}
use Rattle.pct_model.specs.declared.transition.ProcessAction.TheVariants as process_action
use Rattle.pct_engine_laws.proofs.ListFacts.{flat_map_agree, map-flat_map}
use Rattle.pct_engine_laws.proofs.WhatTransitionsMake.{MakesProcess}

-- the processes are numbered from a number on, in their order
abbrev pub AreNumbered : ℕ → List Process → Type 0
AreNumbered start [] = Unit {0}
AreNumbered start (p ∷ ps) = (p.pid ≡ start) × AreNumbered (suc start) ps

-- a change of processes that keeps their ids
pub numbered_after : (change : Process → Process) → ((p : Process) → (change p).pid ≡ p.pid) → (start : ℕ) (ps : List Process) → AreNumbered start ps → AreNumbered start (map change ps)
numbered_after change same start [] numbered = tt
numbered_after change same start (p ∷ ps) numbered = (same p ∙ numbered.0, numbered_after change same (suc start) ps numbered.1)

-- processes, and then others, whose numbers go on from theirs
pub numbered_then : (start next : ℕ) (ps others : List Process) → start + length ps ≡ next → AreNumbered start ps → AreNumbered next others → AreNumbered start (ps ++ others)
numbered_then start next [] others is numbered later = subst (λ (k : ℕ). AreNumbered k others) (omega (arith, is)) later
numbered_then start next (p ∷ ps) others is numbered later = (numbered.0, numbered_then (suc start) next ps others (omega (arith, is)) numbered.1 later)

-- the id of a new process is the number of the next one
pub new_pid_is_next : (made pid : ℕ) (relatives : List Relative) → pid_after made relatives ≡ Some pid → pid ≡ suc made
new_pid_is_next made pid relatives is = by (nat_lt (length relatives) MAX_PROCESSES) is where
  by : (room : Bool) → cond room (Some (suc made)) None ≡ Some pid → pid ≡ suc made
  by true is = sym (same_Some (suc made) pid is)
  by false is = absurd (none-some pid is)

-- ---- the processes that a transition makes

-- the id of a child
pub child_pid : (tid pid : ℕ) (p : Process) → (child_of tid pid p).pid ≡ pid
unfolding child_of
child_pid tid pid p = refl

module _ (pid tid : ℕ) (o : Transition) where
  -- a process with another id makes none
  none_made : (start : ℕ) (ps : List Process) → pid < start → AreNumbered start ps → flat_map (process_made pid tid o) ps ≡ []
  none_made start [] low numbered = refl
  none_made start (p ∷ ps) low numbered =
      let other : nat_eq p.pid pid ≡ false = ne_eqb p.pid pid (λ same. absurd (omega (arith, same, numbered.0, low))) in
      ap (λ (live : Bool). cond live (child_by tid (changed tid o p) o.process) [] ++ flat_map (process_made pid tid o) ps) (and_left (nat_eq p.pid pid) (not (has_ended p)) other)
      ∙ none_made (suc start) ps (omega (arith, low)) numbered.1

  module _ (next : ℕ) (makes : MakesProcess (λ child. child ≡ next) o.process) (P : Process → Type 0) (Q : List Process → Type 0) (none : Q []) (one : (p : Process) → P p → Q (child_of tid next (changed tid o p) ∷ [])) where
    made_with : (p : Process) → P p → (a : Option ProcessAction) → MakesProcess (λ child. child ≡ next) a → Q (child_by tid (changed tid o p) a)
    unfolding child_by
    made_with p has (Some (process_action.Make child)) is = subst (λ (k : ℕ). Q (child_of tid k (changed tid o p) ∷ [])) (sym is) (one p has)
    made_with p has _ is = none

    -- what holds of none, and of the child with the next number of a process that has a property, holds of the processes that the
    -- transition makes
    pub made_by : (start : ℕ) (ps : List Process) → AreNumbered start ps → All P ps → Q (flat_map (process_made pid tid o) ps)
    made_by start [] numbered all = none
    made_by start (p ∷ ps) numbered all = by (is_live_process pid p) refl (made_by (suc start) ps numbered.1 (All-tail P p ps all)) where
      children : List Process
      children = child_by tid (changed tid o p) o.process

      by : (live : Bool) → is_live_process pid p ≡ live → Q (flat_map (process_made pid tid o) ps) → Q (cond live children [] ++ flat_map (process_made pid tid o) ps)
      by true lives others =
          let same : p.pid ≡ pid = eqb-true p.pid pid (and_parts (nat_eq p.pid pid) (not (has_ended p)) lives).0 in
          let alone : flat_map (process_made pid tid o) ps ≡ [] = none_made (suc start) ps (omega (arith, same, numbered.0)) numbered.1 in
          subst Q (sym (ap (λ (rest : List Process). children ++ rest) alone ∙ append-nil children)) (made_with p (All-head P p ps all) o.process makes)
      by false lives others = others
