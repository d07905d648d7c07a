-- The schedules of runs that one worker makes alone: from its turns so far, and the end of the run.
use Rattle.pct_names.proofs.Names.{◌*◌, ◌+◌, ◌++◌, ◌-◌, ◌<◌, [], All, All-cons, All-head, All-nil, All-tail, ap, arith, cases_order, chosen}
use Rattle.pct_names.proofs.Names.{Config, Entry, false, IfSome, inl, inr, is_some, length, List, map, None, Option, refl, Run, run, RunOptions}
use Rattle.pct_names.proofs.Names.{Script, Some, subst, suc, sym, take-append_seam, true, ℕ, ◌∙◌, ◌∷◌, ◌≡◌, ◌≤◌, ◌⊎◌}
use Rattle.std.specs.Prelude.{IfNone}
use Rattle.std.proofs.Common.{append-nil, length-append}
use Rattle.std.proofs.Math.Nat.{zero-add}
use Rattle.std.proofs.lemmas.Bool.{eq-eqb}
use Rattle.rand_pcg.specs.Lcg.{Lcg}
use Rattle.pct_engine.specs.EngineStates.{EngineValue, IsChoice, IsRunOf}
use Rattle.pct_engine.proofs.ChosenEntries.{is_open}
use Rattle.pct_scheduled_run.specs.ScheduledRuns.{AreChosenBy, IsChosenAt, IsContinuedBy, IsWholeRun}
use Rattle.pct_scheduled_run.specs.SeedSchedules.{SeedSchedule}
use Rattle.pct_scheduled_run.specs.Streams.{after_words, draws, stream_of}
use Rattle.pct_scheduled_run.proofs.ContinuedRuns.{chosen_next}
use Rattle.pct_scheduled_run.proofs.WholeRuns.{first_run, nothing_after}
use Rattle.pct_scheduled_run.proofs.Words.{draws_after, no_words, words_next}
use Rattle.pct_workers.specs.Work.{RiseWithin}
use Rattle.pct_workers.specs.Schedules.{HasTurns, WorkersSchedule}
use Rattle.pct_shared.specs.Views.{places_from}
use Rattle.pct_workers.proofs.LongerChoices.{chosen_with_more, numbers_after}
use Rattle.pct_workers.proofs.RisingNumbers.{place_own, places_before}

-- ---- the turns so far

-- each turn made an entry, which its two words chose
pub record MadeSoFar (made : ℕ) (first picks : Lcg) (before now : EngineValue) : Type 0 where
  pub same : now ≡ record before { history = now.history }
  pub count : length now.history ≡ made
  pub chosen_each : (k : ℕ) → k < length now.history → IsChosenAt (draws first) 1 before.script before.config now.history k k
  pub words : picks ≡ after_words (2 * made) first

-- no turn is made
pub made_none : (first : Lcg) (engine : EngineValue) → engine.history ≡ [] → MadeSoFar 0 first first engine engine
made_none first engine none = record {
  same = refl;
  count = ap (λ (entries : List Entry). length entries) none;
  chosen_each = λ k within. absurd (omega (arith, within, ap (λ (entries : List Entry). length entries) none));
  words = sym (no_words first);
}

-- the entry of a turn comes after those of the turns before it
chosen_more : (draws : ℕ → ℕ × ℕ) (script : Script) (config : Config) (entries : List Entry) (e : Entry) (after : Run) → run script config entries ≡ Some after
    → Some e ≡ chosen script config after.world 1 (draws (length entries)).0 (draws (length entries)).1 → ((k : ℕ) → k < length entries → IsChosenAt draws 1 script config entries k k)
    → (k : ℕ) → k < length (entries ++ e ∷ []) → IsChosenAt draws 1 script config (entries ++ e ∷ []) k k
chosen_more draws script config entries e after is_run picked each k within =
    elim (cases_order k (length entries)) [
      | inl last ↦ subst (λ (n : ℕ). IsChosenAt draws 1 script config (entries ++ e ∷ []) n n) (sym last) (chosen_next draws 1 (length entries) script config entries [] e after is_run picked)
      | inr (inl earlier) ↦ chosen_with_more draws 1 script config entries (e ∷ []) k k earlier (each k earlier)
      | inr (inr past) ↦ absurd (omega (arith, past, within, length-append entries (e ∷ [])))
    ]

-- a turn more, which made an entry
with_entry : (made : ℕ) (first picks next : Lcg) (before old new : EngineValue) (after : Run) (pair : ℕ × ℕ) (e : Entry) → MadeSoFar made first picks before old → pair ≡ draws picks 0 → next ≡ after_words 2 picks
    → IsRunOf old after → IsChoice old after 1 pair.0 pair.1 (Some e) → new ≡ record old { history = old.history ++ e ∷ [] } → MadeSoFar (made + 1) first next before new
with_entry made first picks next before old new after pair e so_far drawn words_are is_run choice is =
    let numbers : pair ≡ draws first (length old.history) = drawn ∙ ap (λ (words : Lcg). draws words 0) so_far.words ∙ draws_after first made ∙ ap (draws first) (sym so_far.count) in
    let ran : run before.script before.config old.history ≡ Some after = subst (λ (x : EngineValue). run x.script x.config old.history ≡ Some after) so_far.same is_run in
    let picked : Some e ≡ chosen before.script before.config after.world 1 (draws first (length old.history)).0 (draws first (length old.history)).1 =
    choice.scheduled (is_open old after 1 pair.0 pair.1 e choice)
    ∙ ap (λ (x : EngineValue). chosen x.script x.config after.world 1 pair.0 pair.1) so_far.same
    ∙ ap (λ (two : ℕ × ℕ). chosen before.script before.config after.world 1 two.0 two.1) numbers in
    let longer : new.history ≡ old.history ++ e ∷ [] = ap (λ (x : EngineValue). x.history) is in
    record {
      same = is ∙ ap (λ (x : EngineValue). record x { history = old.history ++ e ∷ [] }) so_far.same ∙ ap (λ (x : EngineValue). record before { history = x.history }) (sym is);
      count = omega (arith, ap (λ (entries : List Entry). length entries) longer, length-append old.history (e ∷ []), so_far.count);
      chosen_each =
          subst (λ (entries : List Entry). (k : ℕ) → k < length entries → IsChosenAt (draws first) 1 before.script before.config entries k k) (sym longer)
          (chosen_more (draws first) before.script before.config old.history e after ran picked so_far.chosen_each);
      words = words_next first picks next made so_far.words words_are;
    }

-- a turn at which an entry is made is one more, and one at which there is none ends the run
module _ (made : ℕ) (first picks : Lcg) (before old new : EngineValue) (pair : ℕ × ℕ) (so_far : MadeSoFar made first picks before old) (ran : (after : Run) × IsRunOf old after) where
  pub made_more : (next : Lcg) (answer : Option Entry) → pair ≡ draws picks 0 → next ≡ after_words 2 picks → ((after : Run) → IsRunOf old after → IsChoice old after 1 pair.0 pair.1 answer)
      → IfSome answer (λ e. new ≡ record old { history = old.history ++ e ∷ [] }) → is_some answer ≡ true → MadeSoFar (made + 1) first next before new
  made_more next None drawn words_are choice is some = absurd cc
  made_more next (Some e) drawn words_are choice is some = with_entry made first picks next before old new ran.0 pair e so_far drawn words_are ran.1 (choice ran.0 ran.1) is

  pub made_all : (answer : Option Entry) → ((after : Run) → IsRunOf old after → IsChoice old after 1 pair.0 pair.1 answer) → IfNone answer (new ≡ old) → is_some answer ≡ false
      → IsWholeRun before.script before.config new.history
  made_all None choice is none =
      subst (λ (x : EngineValue). IsWholeRun before.script before.config x.history) (sym is)
      (subst (λ (x : EngineValue). IsWholeRun x.script x.config old.history) so_far.same (record { after = ran.0; is_run = ran.1; is_closed = (choice ran.0 ran.1).legal }))
  made_all (Some e) choice is none = absurd cc

-- ---- the places and the turns of the entries

-- the entry at each place has the turn after as many turns
abbrev turns_from : ℕ → List Entry → List (ℕ × ℕ)
turns_from at [] = []
turns_from at (e ∷ entries) = (at, suc at) ∷ turns_from (suc at) entries

turns-places : (at : ℕ) (entries : List Entry) → All (λ e. e.worker ≡ 1) entries → map (λ pair. pair.0) (turns_from at entries) ≡ places_from 1 at entries
turns-places at [] own = refl
turns-places at (e ∷ entries) own =
    ap (λ (l : List ℕ). at ∷ l) (turns-places (suc at) entries (All-tail (λ (x : Entry). x.worker ≡ 1) e entries own))
    ∙ sym (place_own 1 at e entries (eq-eqb e.worker 1 (All-head (λ (x : Entry). x.worker ≡ 1) e entries own)))

turns-rise : (at turns : ℕ) (entries : List Entry) → at + length entries ≤ turns → RiseWithin at turns (map (λ pair. pair.1) (turns_from at entries))
turns-rise at turns [] few = omega (arith, few)
turns-rise at turns (e ∷ entries) few = (omega arith, turns-rise (suc at) turns entries (omega (arith, few)))

turns-length : (at : ℕ) (entries : List Entry) → length (turns_from at entries) ≡ length entries
turns-length at [] = refl
turns-length at (e ∷ entries) = ap suc (turns-length (suc at) entries)

turns-each : (P : ℕ × ℕ → Type 0) (at : ℕ) (entries : List Entry) → ((k : ℕ) → at ≤ k → k < at + length entries → P (k, suc k)) → All P (turns_from at entries)
turns-each P at [] each = All-nil P
turns-each P at (e ∷ entries) each =
    All-cons P (at, suc at) (turns_from (suc at) entries) (each at (omega arith) (omega arith)) (turns-each P (suc at) entries (λ k past within. each k (omega (arith, past)) (omega (arith, within))))

-- ---- the schedule

-- what a worker made alone, and a run that the number 0 ended
module _ (script : Script) (options : RunOptions) (worked rest : List Entry) (lone : options.workers ≡ 1) (few : length worked ≤ options.turns)
    (chosen_each : (k : ℕ) → k < length worked → IsChosenAt (draws (stream_of options.seed 1)) 1 script options.config worked k k) (ended : length worked < options.turns → IsWholeRun script options.config worked)
    (whole : IsWholeRun script options.config (worked ++ rest)) (choices : AreChosenBy (draws (stream_of options.seed 0)) 0 script options.config (length worked) (worked ++ rest)) where
  own_all : All (λ e. e.worker ≡ 1) worked
  own_all =
      let before = first_run script options.config (worked ++ rest) whole.after (length worked) whole.is_run (omega (arith, length-append worked rest)) in
      numbers_after (draws (stream_of options.seed 1)) 1 script options.config [] worked before.0 (ap (run script options.config) (sym (take-append_seam worked rest)) ∙ before.1)
      (λ k within. subst (λ (place : ℕ). IsChosenAt (draws (stream_of options.seed 1)) 1 script options.config worked place k) (sym (zero-add k)) (chosen_each k (omega (arith, within))))

  others : All (λ e. e.worker ≡ 0) rest
  others = numbers_after (draws (stream_of options.seed 0)) 0 script options.config worked rest whole.after whole.is_run choices

  -- the worker took all its turns, or nothing comes after its entries
  all_or_ended : (length worked ≡ options.turns) ⊎ (rest ≡ [])
  all_or_ended = elim (cases_order (length worked) options.turns) [
    | inl all ↦ inl all
    | inr (inl fewer) ↦ inr (nothing_after script options.config worked rest (ended fewer).after whole.after (ended fewer).is_run (ended fewer).is_closed whole.is_run)
    | inr (inr more) ↦ absurd (omega (arith, few, more))
  ]

  not_longer : rest ≡ [] → length (worked ++ rest) ≡ length worked
  not_longer none = ap (λ (l : List Entry). length (worked ++ l)) none ∙ ap (λ (l : List Entry). length l) (append-nil worked)

  -- an entry past the turns comes after all turns
  all_before : (length worked ≡ options.turns) ⊎ (rest ≡ []) → (k : ℕ) → options.turns + k < length (worked ++ rest) → length worked ≡ options.turns
  all_before (inl all) k within = all
  all_before (inr none) k within = absurd (omega (arith, within, not_longer none, few))

  -- an entry within the turns is the worker's
  is_worked : (length worked ≡ options.turns) ⊎ (rest ≡ []) → (k : ℕ) → k < length (worked ++ rest) → k < options.turns → k < length worked
  is_worked (inl all) k within early = omega (arith, all, early)
  is_worked (inr none) k within early = omega (arith, within, not_longer none)

  chosen_in_all : (k : ℕ) → k < length worked → IsChosenAt (draws (stream_of options.seed 1)) 1 script options.config (worked ++ rest) k k
  chosen_in_all k within = chosen_with_more (draws (stream_of options.seed 1)) 1 script options.config worked rest k k within (chosen_each k within)

  seed_schedule : SeedSchedule script options.config options.seed options.turns (worked ++ rest)
  seed_schedule = record {
    whole = whole;
    worked = λ k within early. chosen_in_all k (is_worked all_or_ended k within early);
    finished = λ k within.
        let all = all_before all_or_ended k within in
        subst (λ (n : ℕ). IsChosenAt (draws (stream_of options.seed 0)) 0 script options.config (worked ++ rest) (n + k) k) all (choices k (omega (arith, all, within)));
  }

  worker_turns : HasTurns script options.config options.seed options.turns 1 (worked ++ rest)
  worker_turns = record {
    at = turns_from 0 worked;
    places_are = turns-places 0 worked own_all ∙ sym (places_before 1 0 worked rest (λ is. absurd (omega (arith, is))) others);
    rise = turns-rise 0 options.turns worked (omega (arith, few));
    few = omega (arith, few, turns-length 0 worked);
    chosen_each =
        turns-each (λ (pair : ℕ × ℕ). IsChosenAt (draws (stream_of options.seed 1)) 1 script options.config (worked ++ rest) pair.0 (pair.1 - 1)) 0 worked
        (λ k past within.
        let turn : k ≡ suc k - 1 = omega arith in
        subst (λ (n : ℕ). IsChosenAt (draws (stream_of options.seed 1)) 1 script options.config (worked ++ rest) k n) turn (chosen_in_all k (omega (arith, within))));
  }

  schedule_alone : WorkersSchedule script options (worked ++ rest)
  schedule_alone = record {
    whole = whole;
    shared = worked;
    alone = rest;
    split = refl;
    numbers = λ k d within. let is = own_all k d within in (omega (arith, is), omega (arith, is, lone));
    number_0 = others;
    each = λ number some within.
        let one : 1 ≡ number = omega (arith, some, within, lone) in
        subst (λ (n : ℕ). HasTurns script options.config options.seed options.turns n (worked ++ rest)) one worker_turns;
    finished = choices;
    lone = λ is. seed_schedule;
  }

-- a run that one worker made alone, and the number 0 ended
pub schedule_of_one : (opening worked made : EngineValue) (options : RunOptions) → opening.config ≡ options.config → options.workers ≡ 1 → worked ≡ record opening { history = worked.history }
    → ((k : ℕ) → k < length worked.history → IsChosenAt (draws (stream_of options.seed 1)) 1 opening.script opening.config worked.history k k) → length worked.history ≤ options.turns
    → (length worked.history < options.turns → IsWholeRun opening.script opening.config worked.history)
    → made ≡ record worked { history = made.history } → IsContinuedBy (draws (stream_of options.seed 0)) 0 worked.script worked.config worked.history made.history
    → (made.script ≡ opening.script) × (made.config ≡ opening.config) × WorkersSchedule opening.script options made.history
schedule_of_one opening worked made options config_is lone same chosen_each few ended then_same then_ended =
    let budgets : worked.config ≡ options.config = ap (λ (x : EngineValue). x.config) same ∙ config_is in
    let script_is : worked.script ≡ opening.script = ap (λ (x : EngineValue). x.script) same in
    let continued : IsContinuedBy (draws (stream_of options.seed 0)) 0 opening.script options.config worked.history made.history =
    subst (λ (config : Config). IsContinuedBy (draws (stream_of options.seed 0)) 0 opening.script config worked.history made.history) budgets
    (subst (λ (script : Script). IsContinuedBy (draws (stream_of options.seed 0)) 0 script worked.config worked.history made.history) script_is then_ended) in
    let schedule : WorkersSchedule opening.script options (worked.history ++ continued.rest) =
    schedule_alone opening.script options worked.history continued.rest lone few
    (subst (λ (config : Config). (k : ℕ) → k < length worked.history → IsChosenAt (draws (stream_of options.seed 1)) 1 opening.script config worked.history k k) config_is chosen_each)
    (subst (λ (config : Config). length worked.history < options.turns → IsWholeRun opening.script config worked.history) config_is ended)
    (subst (IsWholeRun opening.script options.config) continued.begins continued.whole)
    (subst (AreChosenBy (draws (stream_of options.seed 0)) 0 opening.script options.config (length worked.history)) continued.begins continued.choices) in (
      ap (λ (x : EngineValue). x.script) then_same ∙ script_is,
      ap (λ (x : EngineValue). x.config) then_same ∙ ap (λ (x : EngineValue). x.config) same,
      subst (WorkersSchedule opening.script options) (sym continued.begins) schedule,
    )
