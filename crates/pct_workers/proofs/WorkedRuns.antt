-- The schedules of runs that workers make: from what each worker did, the closing of the host, and the end of the run.
use Rattle.pct_names.proofs.Names.{◌+◌, ◌++◌, ◌-◌, ◌<◌, [], All, ap, arith, Config, Entry}
use Rattle.pct_names.proofs.Names.{get_or, get_or_from_slice_get, inl, inr, length, List, map, refl}
use Rattle.pct_names.proofs.Names.{RunOptions, slice_get, slice_get-get_or, slice_get_cases, slice_get_within, slice_index_or, Some, subst}
use Rattle.pct_names.proofs.Names.{suc, sym, zero, ℕ, ◌∙◌, ◌≡◌, ◌≢◌, ◌≤◌}
use Rattle.rand_pcg.specs.Lcg.{Lcg}
use Rattle.pct_engine.specs.EngineStates.{EngineValue}
use Rattle.pct_scheduled_run.specs.ScheduledRuns.{AreChosenBy, IsChosenAt, IsContinuedBy, IsWholeRun}
use Rattle.pct_scheduled_run.specs.Streams.{draws, stream_of}
use Rattle.pct_shared.specs.declared.view.Opening.{Opening}
use Rattle.pct_shared.specs.declared.view.Known.{Known}
use Rattle.pct_shared.specs.declared.worker.Worker.{Worker}
use Rattle.pct_shared.specs.Hosts.{AreAllWorkers, AreNewWorkers, IsClosing, IsNewWorker, IsOpening, IsWorkerOf}
use Rattle.pct_workers.specs.Work.{RiseWithin, Worked}
use Rattle.pct_shared.specs.Passes.{IsPassOf, SharedValue}
use Rattle.pct_workers.specs.Schedules.{HasTurns, WorkersSchedule}
use Rattle.pct_shared.specs.Views.{IsPrefix, opened, places}
use Rattle.pct_workers.proofs.LongerChoices.{chosen_in_longer, numbers_after}
use Rattle.pct_shared.proofs.OwnEntries.{prefix_trans}
use Rattle.pct_workers.proofs.RisingNumbers.{places_before, rise_wider}

-- ---- what the workers did

-- a worker that was new, after its turns
pub record HasWorked (host : SharedValue) (seed turns number : ℕ) (w : Worker) : Type 0 where
  pub before : Worker
  pub new : IsNewWorker host seed number before
  pub worked : Worked turns before w

-- the worker at each index did so
worked_by : (host : SharedValue) (count seed turns : ℕ) (before after : List Worker) → AreNewWorkers host count seed before → length after ≡ length before
    → ((index : ℕ) (d : Worker) → index < length before → Worked turns (slice_index_or before index d) (slice_index_or after index d))
    → (index : ℕ) (w : Worker) → slice_get after index ≡ Some w → HasWorked host seed turns (suc index) w
worked_by host count seed turns before after new as_many each index w at =
    let inside : index < length before = omega (arith, slice_get_within after index w at, as_many) in
    record {
      before = get_or before index w;
      new = new.each index (get_or before index w) (slice_get-get_or before index w inside);
      worked = subst (Worked turns (get_or before index w)) (get_or_from_slice_get after index w w at) (each index w inside);
    }

worked_pass : (host : SharedValue) (seed turns number : ℕ) (w : Worker) → HasWorked host seed turns number w → IsPassOf host w.pass
worked_pass host seed turns number w done = record {
  same_host = done.worked.took.host ∙ done.new.pass_of.same_host;
  opening = done.worked.took.opening ∙ done.new.pass_of.opening;
}

worked_number : (host : SharedValue) (seed turns number : ℕ) (w : Worker) → HasWorked host seed turns number w → w.pass.view.known.number ≡ number
worked_number host seed turns number w done = done.worked.took.number ∙ ap (λ (k : Known). k.number) done.new.known

-- the worker with a number stands at the index below it
worker_with : (host : SharedValue) (seed turns : ℕ) (workers : List Worker) → ((index : ℕ) (w : Worker) → slice_get workers index ≡ Some w → HasWorked host seed turns (suc index) w)
    → (number : ℕ) → 0 < number → number ≤ length workers → ((index : ℕ) × (w : Worker) × (slice_get workers index ≡ Some w) × HasWorked host seed turns number w)
worker_with host seed turns workers each zero some few = absurd (omega (arith, some))
worker_with host seed turns workers each (suc index) some few =
    elim ((slice_get_cases workers index).1) [
      | inl found ↦ (index, found.0, found.2, each index found.0 found.2)
      | inr past ↦ absurd (omega (arith, few, past.0))
    ]

-- the passes of new workers are of the host
pub all_new : (host : SharedValue) (count seed : ℕ) (workers : List Worker) → AreNewWorkers host count seed workers → All (λ w. IsPassOf host w.pass) workers
all_new host count seed workers new k d within = (new.each k (get_or workers k d) (slice_get-get_or workers k d within)).pass_of

-- the workers are all those of the host
pub all_worked : (host : SharedValue) (count seed turns : ℕ) (before after : List Worker) → host.opening.workers ≡ count → AreNewWorkers host count seed before → length after ≡ length before
    → ((index : ℕ) (d : Worker) → index < length before → Worked turns (slice_index_or before index d) (slice_index_or after index d)) → AreAllWorkers host after
all_worked host count seed turns before after count_is new as_many each =
    let done = worked_by host count seed turns before after new as_many each in
    record {
      each = λ k d within. worked_pass host seed turns (suc k) (get_or after k d) (done k (get_or after k d) (slice_get-get_or after k d within));
      all = λ number some few.
          let found = worker_with host seed turns after done number some (omega (arith, few, count_is, new.count_is, as_many)) in
          (found.0, found.1, found.2, worked_number host seed turns number found.1 found.3);
    }

-- ---- the turns of a worker

-- a choice, told of the opening
chosen_as : (words same_words : Lcg) (number same_number : ℕ) (o same_opening : Opening) (takes : ℕ) (seen : List Entry) (place take : ℕ) → words ≡ same_words → number ≡ same_number → o ≡ same_opening → takes ≡ 0
    → IsChosenAt (draws words) number (opened o).script (opened o).config seen place (take - suc takes) → IsChosenAt (draws same_words) same_number (opened same_opening).script (opened same_opening).config seen place (take - 1)
chosen_as words same_words number same_number o same_opening takes seen place take words_are number_is opening_is none chosen_at =
    subst (λ (x : Opening). IsChosenAt (draws same_words) same_number (opened x).script (opened x).config seen place (take - 1)) opening_is
    (subst (λ (n : ℕ). IsChosenAt (draws same_words) n (opened o).script (opened o).config seen place (take - 1)) number_is
    (subst (λ (g : Lcg). IsChosenAt (draws g) number (opened o).script (opened o).config seen place (take - 1)) words_are
    (subst (λ (t : ℕ). IsChosenAt (draws words) number (opened o).script (opened o).config seen place (take - suc t)) none chosen_at)))

-- a worker of a host that was opened without entries, which has worked, at the closing with this history
module _ (host : SharedValue) (seed turns number : ℕ) (w : Worker) (history : List Entry) (none : (opened host.opening).history ≡ []) (done : HasWorked host seed turns number w) (closing : IsWorkerOf host.opening history w) where
  -- the entries that it made were chosen by the words of their turns
  made_chosen : (k : ℕ) (d : ℕ × ℕ) → k < length done.worked.took.at → IsChosenAt (draws (stream_of seed number)) number (opened host.opening).script (opened host.opening).config w.pass.view.known.seen (get_or done.worked.took.at k d).0 ((get_or done.worked.took.at k d).1 - 1)
  made_chosen k d within =
      chosen_as done.before.picks (stream_of seed number) done.before.pass.view.known.number number done.before.pass.view.opening host.opening done.before.pass.view.takes w.pass.view.known.seen (get_or done.worked.took.at k d).0 (get_or done.worked.took.at k d).1
      done.new.picks (ap (λ (known : Known). known.number) done.new.known) done.new.pass_of.opening done.new.takes
      (done.worked.took.each k d within).chosen

  -- its entries in the history are those
  made_places : places number history ≡ map (λ pair. pair.0) done.worked.took.at
  made_places =
      let known = w.pass.view.known in
      let at_is : known.at ≡ done.worked.took.at = done.worked.took.at_is ∙ ap (λ (k : Known). k.at ++ done.worked.took.at) done.new.known in
      ap (λ (n : ℕ). places n history) (sym (worked_number host seed turns number w done))
      ∙ closing.places_are
      ∙ ap (λ (begun : List Entry). places known.number begun ++ map (λ (pair : ℕ × ℕ). pair.0) known.at) none
      ∙ ap (map (λ (pair : ℕ × ℕ). pair.0)) at_is

  few_turns : length done.worked.took.at ≤ turns
  few_turns = omega (arith, done.worked.counts, done.worked.few)

  turns_rise : RiseWithin 0 turns (map (λ pair. pair.1) done.worked.took.at)
  turns_rise =
      let takes : w.pass.view.takes ≤ turns = omega (arith, done.worked.took.takes, done.worked.few, done.new.takes) in
      rise_wider 0 w.pass.view.takes turns (map (λ (pair : ℕ × ℕ). pair.1) done.worked.took.at) takes
      (subst (λ (low : ℕ). RiseWithin low w.pass.view.takes (map (λ (pair : ℕ × ℕ). pair.1) done.worked.took.at)) done.new.takes done.worked.took.takes_rise)

  -- the worker has its turns in each schedule that begins with the history and goes on with entries of others
  worker_turns : (entries : List Entry) → IsPrefix history entries → places number entries ≡ places number history → HasTurns (opened host.opening).script (opened host.opening).config seed turns number entries
  worker_turns entries front same_places = record {
    at = done.worked.took.at;
    places_are = sym made_places ∙ sym same_places;
    rise = turns_rise;
    few = few_turns;
    chosen_each = λ k d within.
        chosen_in_longer (draws (stream_of seed number)) number (opened host.opening).script (opened host.opening).config w.pass.view.known.seen entries (get_or done.worked.took.at k d).0 ((get_or done.worked.took.at k d).1 - 1)
        (prefix_trans w.pass.view.known.seen history entries closing.seen front) (done.worked.took.each k d within).within (made_chosen k d within);
  }

-- ---- the schedule

-- the entries of a host that was opened without entries have the numbers of its workers
closing_numbers : (o : Opening) (workers : List Worker) (engine : EngineValue) → (opened o).history ≡ [] → IsClosing o workers engine → All (λ e. (0 < e.worker) × (e.worker ≤ o.workers)) engine.history
closing_numbers o workers engine none closing =
    subst (All (λ (e : Entry). (0 < e.worker) × (e.worker ≤ o.workers))) (sym (closing.start ∙ ap (λ (begun : List Entry). begun ++ closing.past) none)) closing.numbers

-- the workers of a host that was opened without entries, after their turns and at the closing with an engine
module _ (host : SharedValue) (seed turns : ℕ) (workers : List Worker) (engine : EngineValue) (none : (opened host.opening).history ≡ []) (count_is : length workers ≡ host.opening.workers)
    (done : (index : ℕ) (w : Worker) → slice_get workers index ≡ Some w → HasWorked host seed turns (suc index) w) (closing : IsClosing host.opening workers engine) where
  closing_at : (index : ℕ) (w : Worker) → slice_get workers index ≡ Some w → IsWorkerOf host.opening engine.history w
  closing_at index w at = subst (IsWorkerOf host.opening engine.history) (get_or_from_slice_get workers index w w at) (closing.each index w (slice_get_within workers index w at))

  each_turns : (rest : List Entry) → All (λ e. e.worker ≡ 0) rest → (number : ℕ) → 0 < number → number ≤ host.opening.workers → HasTurns (opened host.opening).script (opened host.opening).config seed turns number (engine.history ++ rest)
  each_turns rest others number some few =
      let found = worker_with host seed turns workers done number some (omega (arith, few, count_is)) in
      worker_turns host seed turns number found.1 engine.history none found.3 (closing_at found.0 found.1 found.2) (engine.history ++ rest) (record { rest = rest; all_is = refl })
      (places_before number 0 engine.history rest (λ zero_is. absurd (omega (arith, some, zero_is))) others)

  -- the schedule of the run that the number 0 ended
  workers_schedule : (budgets : Config) → (opened host.opening).config ≡ budgets → host.opening.workers ≢ 1 → (rest : List Entry) → IsWholeRun (opened host.opening).script (opened host.opening).config (engine.history ++ rest)
      → AreChosenBy (draws (stream_of seed 0)) 0 (opened host.opening).script (opened host.opening).config (length engine.history) (engine.history ++ rest)
      → WorkersSchedule (opened host.opening).script (record { config = budgets; seed = seed; workers = host.opening.workers; turns = turns }) (engine.history ++ rest)
  workers_schedule budgets config_is several rest whole choices =
      let others : All (λ e. e.worker ≡ 0) rest = numbers_after (draws (stream_of seed 0)) 0 (opened host.opening).script (opened host.opening).config engine.history rest whole.after whole.is_run choices in
      subst (λ (config : Config). WorkersSchedule (opened host.opening).script (record { config = config; seed = seed; workers = host.opening.workers; turns = turns }) (engine.history ++ rest)) config_is
      (record {
        whole = whole;
        shared = engine.history;
        alone = rest;
        split = refl;
        numbers = closing_numbers host.opening workers engine none closing;
        number_0 = others;
        each = each_turns rest others;
        finished = choices;
        lone = λ lone. absurd (several lone);
      })

-- a run that several workers made on a host, and the number 0 ended
pub schedule_of_workers : (opening made : EngineValue) (options : RunOptions) (host : SharedValue) (before after : List Worker) (engine : EngineValue) → opening.config ≡ options.config → opening.history ≡ [] → options.workers ≢ 1 → IsOpening opening options.workers options.seed host before → length after ≡ length before
    → ((index : ℕ) (d : Worker) → index < length before → Worked options.turns (slice_index_or before index d) (slice_index_or after index d)) → IsClosing host.opening after engine
    → made ≡ record engine { history = made.history } → IsContinuedBy (draws (stream_of options.seed 0)) 0 engine.script engine.config engine.history made.history
    → (made.script ≡ opening.script) × (made.config ≡ opening.config) × WorkersSchedule opening.script options made.history
schedule_of_workers opening made options host before after engine config_is none several opened_by as_many each closing same ended =
    let script_same : engine.script ≡ (opened host.opening).script = ap (λ (x : EngineValue). x.script) closing.engine_is in
    let config_same : engine.config ≡ (opened host.opening).config = ap (λ (x : EngineValue). x.config) closing.engine_is in
    let continued : IsContinuedBy (draws (stream_of options.seed 0)) 0 (opened host.opening).script (opened host.opening).config engine.history made.history = subst (λ (x : EngineValue). IsContinuedBy (draws (stream_of options.seed 0)) 0 x.script x.config engine.history made.history) closing.engine_is ended in
    let entries : List Entry = engine.history ++ continued.rest in
    let whole : IsWholeRun (opened host.opening).script (opened host.opening).config entries = subst (IsWholeRun (opened host.opening).script (opened host.opening).config) continued.begins continued.whole in
    let choices : AreChosenBy (draws (stream_of options.seed 0)) 0 (opened host.opening).script (opened host.opening).config (length engine.history) entries =
    subst (AreChosenBy (draws (stream_of options.seed 0)) 0 (opened host.opening).script (opened host.opening).config (length engine.history)) continued.begins continued.choices in
    let schedule : WorkersSchedule (opened host.opening).script (record { config = options.config; seed = options.seed; workers = host.opening.workers; turns = options.turns }) entries =
    workers_schedule host options.seed options.turns after engine (ap (λ (x : EngineValue). x.history) opened_by.engine_is ∙ none) (as_many ∙ opened_by.new.count_is ∙ sym opened_by.count_is)
    (worked_by host options.workers options.seed options.turns before after opened_by.new as_many each) closing options.config (ap (λ (x : EngineValue). x.config) opened_by.engine_is ∙ config_is)
    (λ lone. several (sym opened_by.count_is ∙ lone)) continued.rest whole choices in
    let counted : WorkersSchedule (opened host.opening).script options entries = subst (λ (count : ℕ). WorkersSchedule (opened host.opening).script (record { config = options.config; seed = options.seed; workers = count; turns = options.turns }) entries) opened_by.count_is schedule in
    let told : WorkersSchedule opening.script options entries = subst (λ (x : EngineValue). WorkersSchedule x.script options entries) opened_by.engine_is counted in (
      ap (λ (x : EngineValue). x.script) same ∙ script_same ∙ ap (λ (x : EngineValue). x.script) opened_by.engine_is,
      ap (λ (x : EngineValue). x.config) same ∙ config_same ∙ ap (λ (x : EngineValue). x.config) opened_by.engine_is,
      subst (WorkersSchedule opening.script options) (sym continued.begins) told,
    )
