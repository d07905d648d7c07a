-- The first seed of a verdict in a tally names a run with this verdict.
use Rattle.pct_names.proofs.Names.{◌<◌, ap, code_of_verdict, false≢true, Config, default_config, demo_number, Entry, length, List, needs_input}
use Rattle.pct_names.proofs.Names.{None, none-some, Option, refl, report, Run, run_options, RunOptions, sample_number, Script}
use Rattle.pct_names.proofs.Names.{script_part, Some, some_pair_parts, Spells, subst, sym, true, Verdict, verdict_of, ℕ, ◌∙◌, ◌≡◌, ◌≢◌, ◌≤◌}
use Rattle.pct_names.proofs.Names.{All-contains}
use Rattle.std.specs.Str.Parse.{digits_value}
use Rattle.pct_model.specs.declared.limits.TheConstants.{DEFAULT_BUDGET}
use Rattle.pct_model.specs.declared.stop.Verdict.TheVariants as verdict
use Rattle.pct_grammar.proofs.Scripts.{spelled_is_faultless, spells_one_script}
use Rattle.pct_scheduled_run.proofs.OneSchedule.{seed_schedule_is_one}
use Rattle.pct_tallies.specs.declared.count.Count.{Count}
use Rattle.pct_tallies.specs.declared.count.StopCount.{StopCount}
use Rattle.pct_tallies.specs.declared.seeds.Seeds.{Seeds}
use Rattle.pct_tallies.specs.declared.tally.Tally.{Tally}
use Rattle.pct_tallies.specs.Seeds.{first_seeds}
use Rattle.pct_sample.specs.FirstSeeds.{AreFirstSeeds, EndsWith, IsFirstSeed}
use Rattle.pct_sample.specs.SeedRuns.{config_of}
use Rattle.pct_sample.proofs.SeedOptions.{seeds_are_options}
use Rattle.pct_command.specs.declared.words.Job.{Job}
use Rattle.pct_command.specs.declared.words.Job.TheVariants as job
use Rattle.pct_command.specs.Command.{Audited, CommandOutcome, Expected, IsReportOf, Other, Sampled}
use Rattle.pct_command.specs.FirstSeeds.{FirstSeedsReproduce, IsCountOf, words_of_seed}
use Rattle.pct_command.specs.Words.{asks_audit, asks_expect, job_asked}
use Rattle.pct_command.proofs.AskedWords.{has_input, job_needs_input, names_job, part_of_run}
use Rattle.pct_command.proofs.CompleteOutcomes.{is_audit, is_expect}
use Rattle.pct_command.proofs.OneOutcome.{by_job, by_run, fitting, found, Found, Counted, Decided, Spelled, run_of}
use Rattle.pct_command.proofs.OneAnswer.{seeded}

-- the run of the first seed of a verdict has the verdict
first_ends : (script : Script) (seeds : Seeds) (tally : Tally) (v : Verdict) (count : Count) → AreFirstSeeds script seeds tally → IsCountOf tally v count → count.runs ≢ 0 → EndsWith script v count.first
first_ends script seeds tally verdict.Complete count first is some = (subst (λ (c : Count). IsFirstSeed script seeds verdict.Complete c) (sym is) first.complete).found some
first_ends script seeds tally verdict.Deadlock count first is some = (subst (λ (c : Count). IsFirstSeed script seeds verdict.Deadlock c) (sym is) first.deadlock).found some
first_ends script seeds tally verdict.Budget count first is some = (subst (λ (c : Count). IsFirstSeed script seeds verdict.Budget c) (sym is) first.budget).found some
first_ends script seeds tally (verdict.Undefined why) count first is some =
    (All-contains (λ (s : StopCount). IsFirstSeed script seeds (verdict.Undefined s.why) s.count) tally.stops (record { why = why; count = count }) first.stops is).found some
first_ends script seeds tally verdict.Open count first is some = absurd is

-- the code of a run is that of its verdict
code_of_run : (script : Script) (config : Config) (entries : List Entry) (after : Run) (reported : Option (List ℕ)) (code : ℕ) (text : List ℕ)
    → by_run script config entries (Some after) reported ≡ Some (code, text) → code ≡ code_of_verdict (verdict_of script config after.world (length entries))
code_of_run script config entries after None code text is = absurd (none-some (code, text) is)
code_of_run script config entries after (Some told) code text is =
    sym (some_pair_parts (code_of_verdict (verdict_of script config after.world (length entries))) code told text is).0

-- the options of `run --seed TEXT`
abbrev seed_options : List ℕ → RunOptions
seed_options text = record { config = default_config; seed = digits_value 10 text; workers = 1; turns = DEFAULT_BUDGET }

module _ (seed input : List ℕ) (asked : run_options (words_of_seed seed) ≡ Some (seed_options seed)) where
  -- the report of the script of the input has the code of the verdict of the seed's run
  code_of_seed : (script : Script) (v : Verdict) (schedule : List Entry) (code : ℕ) (text : List ℕ) → Spells (script_part (words_of_seed seed) input) script → EndsWith script v (digits_value 10 seed)
      → by_job (Some (job.Run (seed_options seed))) input schedule script ≡ Some (code, text)
      → (code < 5 → IsReportOf (Some (job.Run (seed_options seed))) (words_of_seed seed) input schedule code text) → code ≡ code_of_verdict v
  code_of_seed script v schedule code text spelled ends is reports =
      let config : Config = config_of script in
      let made = seeded (words_of_seed seed) input script spelled (seed_options seed) schedule code text is reports refl in
      let same : schedule ≡ ends.entries = seed_schedule_is_one script config (digits_value 10 seed) DEFAULT_BUDGET schedule ends.entries made ends.runs.scheduled in
      let of_entries : run_of script config ends.entries ≡ Some (code, text) = sym (ap (λ (xs : List Entry). run_of script config xs) same) ∙ is in
      code_of_run script config ends.entries ends.after (report script config ends.entries) code text
      (sym (ap (λ (o : Option Run). by_run script config ends.entries o (report script config ends.entries)) ends.runs.is_run) ∙ of_entries)
      ∙ ap code_of_verdict ends.verdict_is

  -- what is found for these words is the report of the script
  code_found : (script : Script) (v : Verdict) (schedule : List Entry) (code : ℕ) (text : List ℕ) → length input ≤ 16777216 → Spells input script → EndsWith script v (digits_value 10 seed)
      → (code < 5 → IsReportOf (job_asked (words_of_seed seed)) (words_of_seed seed) input schedule code text) → Found (words_of_seed seed) input schedule code text → code ≡ code_of_verdict v
  unfolding demo_number
  code_found script v schedule code text fits spells ends reports (Decided is) =
      let words = words_of_seed seed in
      let named : Job = job.Run (seed_options seed) in
      let part : Spells (script_part words input) script = subst (λ (p : List ℕ). Spells p script) (sym (part_of_run words input (seed_options seed) asked)) spells in
      let needs : needs_input words ≡ true = job_needs_input words named asked (has_input words named asked tt) in
      absurd (none-some (code, text) (sym (fitting words input None needs fits (spelled_is_faultless _ script part)) ∙ is))
  code_found script v schedule code text fits spells ends reports (Counted _ d) = absurd (none-some d.number d.accepted)
  code_found script v schedule code text fits spells ends reports (Spelled _ other also is) =
      let words = words_of_seed seed in
      let named : job_asked words ≡ Some (job.Run (seed_options seed)) = names_job words (job.Run (seed_options seed)) asked in
      let same : script ≡ other = spells_one_script input script other spells (subst (λ (p : List ℕ). Spells p other) (part_of_run words input (seed_options seed) asked) also) in
      code_of_seed other v schedule code text also (subst (λ (s : Script). EndsWith s v (digits_value 10 seed)) same ends)
      (sym (ap (λ (o : Option Job). by_job o input schedule other) named) ∙ is)
      (λ below. subst (λ (o : Option Job). IsReportOf o words input schedule code text) named (reports below))

  code_answered : (script : Script) (v : Verdict) (schedule : List Entry) (code : ℕ) (text : List ℕ) → length input ≤ 16777216 → Spells input script → EndsWith script v (digits_value 10 seed)
      → (code < 5 → IsReportOf (job_asked (words_of_seed seed)) (words_of_seed seed) input schedule code text) → CommandOutcome (words_of_seed seed) input schedule code text → code ≡ code_of_verdict v
  unfolding sample_number asks_expect asks_audit
  code_answered script v schedule code text fits spells ends reports (Sampled s) = absurd (none-some s.number s.accepted)
  code_answered script v schedule code text fits spells ends reports (Expected e) = absurd (false≢true (is_expect (words_of_seed seed) input code text e))
  code_answered script v schedule code text fits spells ends reports (Audited a) = absurd (false≢true (is_audit (words_of_seed seed) input code text a))
  code_answered script v schedule code text fits spells ends reports (Other _ o) =
      code_found script v schedule code text fits spells ends reports (found (words_of_seed seed) input schedule code text o)

pub first_seeds_reproduce : FirstSeedsReproduce
first_seeds_reproduce words input code text sampled v count is some seed given value run_code reported a =
    let ends : EndsWith sampled.script v (digits_value 10 seed) =
    subst (λ (n : ℕ). EndsWith sampled.script v n) (sym value) (first_ends sampled.script (first_seeds sampled.number) sampled.tally v count sampled.first is some) in
    code_answered seed input (seeds_are_options seed given) sampled.script v a.schedule run_code reported sampled.fits sampled.spelled ends a.is_report a.is_outcome
