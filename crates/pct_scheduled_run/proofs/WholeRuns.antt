-- The first entries of a run, and runs to their end: nothing comes after a closed run, and two whole runs that go on alike are one.
use Rattle.pct_names.proofs.Names.{◌++◌, ◌<◌, [], ap, arith, cases_order, Config, drop, Entry, get_or, Go, inl, inr, is_some, length, List}
use Rattle.pct_names.proofs.Names.{None, none-some, opening, Option, option_and_then, refl, Run, run, run_from, run_step, same_Some, Script}
use Rattle.pct_names.proofs.Names.{slice_get, slice_get-get_or, Some, suc, sym, take, take-append-drop, take-append_seam, take-length}
use Rattle.pct_names.proofs.Names.{take-suc, verdict_of, zero, ℕ, ◌∙◌, ◌∷◌, ◌≡◌, ◌≤◌}
use Rattle.std.proofs.Common.{length-append, length-take-le, append-nil}
use Rattle.std.proofs.lemmas.List.{append_assoc}
use Rattle.pct_model.specs.declared.stop.Verdict.TheVariants as verdict
use Rattle.pct_engine_laws.proofs.LongerRuns.{run_parts, run_within}
use Rattle.pct_engine_laws.proofs.OpenRuns.{goes_on_while_open}
use Rattle.pct_scheduled_run.specs.ScheduledRuns.{IsWholeRun}

-- ---- the first entries of a run

-- a step, and the first entries after it
first_step : (script : Script) (config : Config) (end : Run) (before after : List Entry) → ((next : Run) → run_from script config next (before ++ after) ≡ Some end → (x : Run) × (run_from script config next before ≡ Some x))
    → (o : Option Run) → option_and_then (λ next. run_from script config next (before ++ after)) o ≡ Some end → (x : Run) × (option_and_then (λ next. run_from script config next before) o ≡ Some x)
first_step script config end before after first None ran = absurd (none-some end ran)
first_step script config end before after first (Some next) ran = first next ran

-- the first entries of a run are a run
first_from : (script : Script) (config : Config) (r end : Run) (before after : List Entry) → run_from script config r (before ++ after) ≡ Some end → (x : Run) × (run_from script config r before ≡ Some x)
unfolding run_from
first_from script config r end [] after ran = (r, refl)
first_from script config r end (e ∷ before) after ran = first_step script config end before after (λ next. first_from script config next end before after) (run_step script config r e) ran

pub first_run : (script : Script) (config : Config) (entries : List Entry) (end : Run) (k : ℕ) → run script config entries ≡ Some end → k ≤ length entries → (x : Run) × (run script config (take k entries) ≡ Some x)
first_run script config entries end k ran within =
    let parts = run_parts script config entries end ran in
    let split : run_from script config (record { world = opening script; events = [] }) (take k entries ++ drop k entries) ≡ Some end = ap (run_from script config (record { world = opening script; events = [] })) (take-append-drop k entries) ∙ parts.ran in
    let first = first_from script config (record { world = opening script; events = [] }) end (take k entries) (drop k entries) split in
    (first.0, run_within script config (take k entries) parts.limits (omega (arith, parts.within, length-take-le k entries within, within)) ∙ first.1)

-- ---- closed runs

-- a run whose verdict is not `Open` has no entry after it
pub nothing_after : (script : Script) (config : Config) (entries rest : List Entry) (after end : Run) → run script config entries ≡ Some after → ¬ (verdict_of script config after.world (length entries) ≡ verdict.Open) → run script config (entries ++ rest) ≡ Some end → rest ≡ []
nothing_after script config entries [] after end is closed ran = refl
nothing_after script config entries (e ∷ rest) after end is closed ran =
    let n = length (entries ++ e ∷ []) in
    let split : (entries ++ e ∷ []) ++ rest ≡ entries ++ e ∷ rest = append_assoc entries (e ∷ []) rest in
    let first = first_run script config ((entries ++ e ∷ []) ++ rest) end n (ap (run script config) split ∙ ran) (omega (arith, length-append (entries ++ e ∷ []) rest)) in
    let more : run script config (entries ++ e ∷ []) ≡ Some first.0 = ap (run script config) (sym (take-append_seam (entries ++ e ∷ []) rest)) ∙ first.1 in
    absurd (closed ((goes_on_while_open script config entries after e is).0 (ap is_some more)).0)

-- ---- one schedule

-- any entry, for the lists that have one
abbrev any_entry : Entry
any_entry = record { worker = 0; pid = 0; tid = 0; alt = Go }

module _ (script : Script) (config : Config) (one other : List Entry) (whole_one : IsWholeRun script config one) (whole_other : IsWholeRun script config other)
    (same_next : (k : ℕ) (before : Run) → k < length one → k < length other → run script config (take k one) ≡ Some before → run script config (take k other) ≡ Some before → slice_get one k ≡ slice_get other k) where
  -- the entries at an index, after the same entries
  next_is_one : (k : ℕ) → k < length one → k < length other → take k one ≡ take k other → get_or one k any_entry ≡ get_or other k any_entry
  next_is_one k in_one in_other same =
      let before = first_run script config one whole_one.after k whole_one.is_run (omega (arith, in_one)) in
      same_Some _ _
      (sym (slice_get-get_or one k any_entry in_one)
      ∙ same_next k before.0 in_one in_other before.1 (ap (run script config) (sym same) ∙ before.1)
      ∙ slice_get-get_or other k any_entry in_other)

  first_is_one : (k : ℕ) → k ≤ length one → k ≤ length other → take k one ≡ take k other
  first_is_one zero in_one in_other = refl
  first_is_one (suc k) in_one in_other =
      let same = first_is_one k (omega (arith, in_one)) (omega (arith, in_other)) in
      take-suc one k any_entry (omega (arith, in_one))
      ∙ ap (λ (xs : List Entry). xs ++ get_or one k any_entry ∷ []) same
      ∙ ap (λ (e : Entry). take k other ++ e ∷ []) (next_is_one k (omega (arith, in_one)) (omega (arith, in_other)) same)
      ∙ sym (take-suc other k any_entry (omega (arith, in_other)))

  -- the longer schedule has nothing after the shorter one
  ends_with : length one ≤ length other → other ≡ one
  ends_with shorter =
      let n = length one in
      let first : one ≡ take n other = sym (take-length one) ∙ first_is_one n (omega arith) shorter in
      let split : one ++ drop n other ≡ other = ap (λ (xs : List Entry). xs ++ drop n other) first ∙ take-append-drop n other in
      let none : drop n other ≡ [] = nothing_after script config one (drop n other) whole_one.after whole_other.after whole_one.is_run whole_one.is_closed (ap (run script config) split ∙ whole_other.is_run) in
      sym split ∙ ap (λ (xs : List Entry). one ++ xs) none ∙ append-nil one

-- two whole runs of which each goes on after some entries as the other does after these entries are one
pub whole_is_one : (script : Script) (config : Config) (one other : List Entry) → IsWholeRun script config one → IsWholeRun script config other
    → ((k : ℕ) (before : Run) → k < length one → k < length other → run script config (take k one) ≡ Some before → run script config (take k other) ≡ Some before → slice_get one k ≡ slice_get other k)
    → one ≡ other
whole_is_one script config one other whole_one whole_other same_next =
    elim (cases_order (length one) (length other)) [
      | inl same ↦ sym (ends_with script config one other whole_one whole_other same_next (omega (arith, same)))
      | inr (inl shorter) ↦ sym (ends_with script config one other whole_one whole_other same_next (omega (arith, shorter)))
      | inr (inr longer) ↦ ends_with script config other one whole_other whole_one (λ k before in_other in_one ran_other ran_one. sym (same_next k before in_one in_other ran_one ran_other)) (omega (arith, longer))
    ]
