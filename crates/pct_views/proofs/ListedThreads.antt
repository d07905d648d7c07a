-- The threads of a process that is shown, as they are listed.
use Rattle.pct_names.proofs.Names.{[], All, Alt, ap, arith, Bool, cases_lt, cond, false, Family, filter, get_or_past, has_timeouts, inl}
use Rattle.pct_names.proofs.Names.{inr, is_some, length, List, map, none-some, same_Some, Some, subst, sym, Thread, true, ℕ, ◌∙◌, ◌∷◌, ◌≡◌}
use Rattle.pct_names.proofs.Names.{◌≤◌}
use Rattle.pct_engine_laws.specs.Seen.{SeenSlot, SeenProcess}
use Rattle.pct_engine_laws.specs.SeenSteps.{choices_in}
use Rattle.pct_process.specs.FamilyViews.{other_processes}
use Rattle.pct_process.specs.ProcessViews.{ProcessData, first_of, slot_on, thread_on_slot}
use Rattle.pct_transitions.specs.ProcessSteps.{with_data}
use Rattle.pct_step_context.specs.Programs.{ProgramValue}
use Rattle.pct_place.specs.ProcessSteps.{data_in}
use Rattle.pct_place.specs.ShownProcesses.{ShowsProcess}
use Rattle.pct_place.specs.declared.process_view.ProcessView.{ProcessView}
use Rattle.pct_view_laws.specs.Listed.{ListedThread, is_unended}
use Rattle.pct_view_laws.specs.SeenViews.{listed_in}
use Rattle.pct_views.specs.ShownThreads.{listed_at}

-- a slot has at most one thread, where each slot of a process has
few_on : (slots : List SeenSlot) (k : ℕ) → All (λ s. length s.here ≤ 1) slots → length (slot_on slots k).here ≤ 1
few_on slots k single =
    elim (cases_lt k (length slots)) [
      | inl inside ↦ single k _ inside
      | inr past ↦ subst (λ (s : SeenSlot). length s.here ≤ 1) (sym (get_or_past slots k (record { made = 0; here = [] }) past)) (omega arith)
    ]

-- of at most one thread, the one that is listed is this one
one_of : (f : Thread → ListedThread) (here : List Thread) (t : Thread) (l : ListedThread) → length here ≤ 1 → first_of here ≡ Some t → map f (filter is_unended here) ≡ l ∷ [] → f t ≡ l
one_of f [] t l few first is = absurd (none-some t first)
one_of f (u ∷ []) t l few first is = by (is_unended u) is where
  by : (b : Bool) → map f (cond b (u ∷ []) []) ≡ l ∷ [] → f t ≡ l
  by true one = ap f (sym (same_Some u t first)) ∙ cc
  by false none = cc
one_of f (u ∷ next ∷ rest) t l few first is = absurd (omega (arith, few))

-- the choices of a thread of a process with this data, of a run of a program
abbrev choices_by : ProgramValue → ℕ → Family → ProcessData → Thread → List Alt
choices_by program slots family d t = choices_in program.script (has_timeouts program.config.format) slots family (with_data d) t

-- of a thread of a process that is shown
module _ (program : ProgramValue) (family : Family) (p : SeenProcess) (view : ProcessView) (shown : ShowsProcess program family p view) (t : Thread) where
  abbrev d : ProcessData
  d = view.state.now

  -- the choices
  pub choices_are : choices_by view.around.program.now (length d.slots) (other_processes view.around.family) d t ≡ choices_in program.script (has_timeouts program.config.format) program.config.slots family p t
  choices_are =
      (λ i. choices_by (shown.program_is i) (length (shown.state_is i).slots) (shown.family_is i) (shown.state_is i) t)
      ∙ ap (λ (n : ℕ). choices_by program n family (data_in p) t) shown.can_step.all

  abbrev listed : Thread → ListedThread
  listed u = listed_in program.script program.config family p u

  -- a thread on a slot that is listed is the one on the slot
  pub listed_alone : (slot : ℕ) (l : ListedThread) → All (λ s. length s.here ≤ 1) d.slots → thread_on_slot d.slots slot ≡ Some t → listed_at program family p slot ≡ l ∷ [] → listed t ≡ l
  listed_alone slot l single at is = by (is_some p.ended) is where
    by : (ended : Bool) → cond ended [] (map listed (filter is_unended (slot_on p.slots slot).here)) ≡ l ∷ [] → listed t ≡ l
    by true none = cc
    by false one =
        let each : All (λ s. length s.here ≤ 1) p.slots = subst (λ (d : ProcessData). All (λ s. length s.here ≤ 1) d.slots) shown.state_is single in
        one_of listed (slot_on p.slots slot).here t l (few_on p.slots slot each) (subst (λ (d : ProcessData). thread_on_slot d.slots slot ≡ Some t) shown.state_is at) one
