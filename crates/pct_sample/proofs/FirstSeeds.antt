-- The first seed that a count names is the least one whose run has the verdict.
use Rattle.std.proofs.Common.{ℕ, ◌≤◌, ◌≡◌, ◌≢◌, true, false, List, map, slice_index_or, ap, sym, subst, arith, length, ◌∙◌, inl, inr}
use Rattle.std.proofs.lemmas.Bool.{cases_order, false≢true}
use Rattle.std.proofs.lemmas.List.Elements.{All-filter, All-map}
use Rattle.std.specs.List.{All, AllZip}
use Rattle.pct_names.proofs.Names.{same_Some}
use Rattle.pct_model.specs.declared.limits.TheConstants.{DEFAULT_BUDGET}
use Rattle.pct_model.specs.declared.schedule.Entry.{Entry}
use Rattle.pct_model.specs.declared.script.Script.{Script}
use Rattle.pct_model.specs.declared.stop.Why.{Why}
use Rattle.pct_model.specs.declared.stop.Verdict.{Verdict}
use Rattle.pct_model.specs.declared.stop.Verdict.TheVariants as verdict
use Rattle.pct_model.specs.Run.{Run, run, verdict_of}
use Rattle.pct_scheduled_run.proofs.OneSchedule.{seed_schedule_is_one}
use Rattle.pct_tallies.specs.declared.count.StopCount.{StopCount}
use Rattle.pct_tallies.specs.declared.seed_run.SeedRun.{SeedRun}
use Rattle.pct_tallies.specs.declared.seeds.Seeds.{Seeds}
use Rattle.pct_tallies.specs.declared.tally.Tally.{Tally}
use Rattle.pct_tallies.specs.Seeds.{seed_count, seeds_in}
use Rattle.pct_tallies.proofs.Verdicts.{same_as_itself, same_verdict}
use Rattle.pct_sample.specs.SeedRuns.{IsRunOfSeed, config_of}
use Rattle.pct_sample.specs.Samples.{TallyOf}
use Rattle.pct_tallies.specs.Tallies.{all_stops, count_of, has_verdict, is_met, stop_count, stops_among}
use Rattle.pct_sample.specs.FirstSeeds.{AreFirstSeeds, EndsWith, IsFirstSeed}
use Rattle.pct_tallies.proofs.FirstHits.{NoneHas, OneHas, first_hit}

-- a run has the verdict that is its own, and no other
has_its_own : (r : SeedRun) → has_verdict r.verdict r ≡ true
unfolding has_verdict
has_its_own r = same_as_itself r.verdict

is_its_own : (v : Verdict) (r : SeedRun) → has_verdict v r ≡ true → r.verdict ≡ v
unfolding has_verdict
is_its_own v r has = same_verdict r.verdict v has

-- the run of a seed has the verdict that is counted
ends_with : (script : Script) (v : Verdict) (seed : ℕ) (r : SeedRun) → IsRunOfSeed script seed r → has_verdict v r ≡ true → EndsWith script v seed
ends_with script v seed r made has = record {
  entries = made.entries;
  after = made.after;
  runs = made.runs;
  verdict_is = sym made.counted.verdict ∙ is_its_own v r has;
}

-- and no other
counts_it : (script : Script) (v : Verdict) (seed : ℕ) (r : SeedRun) → IsRunOfSeed script seed r → EndsWith script v seed → r.verdict ≡ v
counts_it script v seed r made ends =
    let config = config_of script in
    let same : made.entries ≡ ends.entries = seed_schedule_is_one script config seed DEFAULT_BUDGET made.entries ends.entries made.runs.scheduled ends.runs.scheduled in
    let after : made.after ≡ ends.after = same_Some made.after ends.after (sym made.runs.is_run ∙ ap (λ (entries : List Entry). run script config entries) same ∙ ends.runs.is_run) in
    made.counted.verdict ∙ ap (λ (entries : List Entry). verdict_of script config made.after.world (length entries)) same
    ∙ ap (λ (x : Run). verdict_of script config x.world (length ends.entries)) after ∙ ends.verdict_is

lacks_it : (script : Script) (v : Verdict) (seed : ℕ) (r : SeedRun) → IsRunOfSeed script seed r → has_verdict v r ≡ false → EndsWith script v seed → ⊥
lacks_it script v seed r made lacks ends =
    let is : r.verdict ≡ v = counts_it script v seed r made ends in
    false≢true (sym lacks ∙ subst (λ (w : Verdict). has_verdict w r ≡ true) is (has_its_own r))

-- no seed's run has the verdict
no_first : (script : Script) (seeds : Seeds) (v : Verdict) (runs : List SeedRun) → NoneHas (has_verdict v) (λ r. r.seed) (IsRunOfSeed script) (λ n r made. made.seed_is) seeds.first (seed_count seeds) runs → IsFirstSeed script seeds v (count_of v runs)
no_first script seeds v runs none = record {
  none = ((λ _. none.runs), (λ _. none.first));
  above = λ some. absurd (some none.runs);
  within = omega (arith, none.first);
  found = λ some. absurd (some none.runs);
  least = λ seed low high ends.
      let run = none.each seed low (omega (arith, low, high)) in
      absurd (lacks_it script v seed run.0 run.1 run.2 ends);
}

-- the first that has it is the least
has_first : (script : Script) (seeds : Seeds) (v : Verdict) (runs : List SeedRun) → 1 ≤ seeds.first → OneHas (has_verdict v) (λ r. r.seed) (IsRunOfSeed script) (λ n r made. made.seed_is) seeds.first (seed_count seeds) runs → IsFirstSeed script seeds v (count_of v runs)
has_first script seeds v runs from_one one =
    let count = count_of v runs in
    let some : count.runs ≢ 0 = λ none. absurd (omega (arith, none, one.runs)) in
    record {
      none = ((λ zero_first. absurd (omega (arith, zero_first, one.first, one.least, from_one))), (λ none. absurd (some none)));
      above = λ _. omega (arith, one.first, one.least);
      within = omega (arith, one.first, one.least, one.most);
      found = λ _. subst (λ (seed : ℕ). EndsWith script v seed) (sym one.first) (ends_with script v one.number one.item one.of_number one.has_it);
      least = λ seed low high ends. (
        some,
        (elim (cases_order seed one.number) [
          | inl equal ↦ omega (arith, equal, one.first)
          | inr (inl before) ↦ (let run = one.before seed low before in absurd (lacks_it script v seed run.0 run.1 run.2 ends))
          | inr (inr after) ↦ omega (arith, after, one.first)
        ]),
      );
    }

-- a count of the runs of the seeds of a range names the first of them
first_seed : (script : Script) (seeds : Seeds) (v : Verdict) (runs : List SeedRun) → 1 ≤ seeds.first → AllZip (IsRunOfSeed script) (seeds_in seeds) runs → IsFirstSeed script seeds v (count_of v runs)
first_seed script seeds v runs from_one of_seeds = elim (first_hit (has_verdict v) (λ r. r.seed) (IsRunOfSeed script) (λ n r made. made.seed_is) seeds.first (seed_count seeds) runs of_seeds) [
  | inl none ↦ no_first script seeds v runs none
  | inr one ↦ has_first script seeds v runs from_one one
]

-- so do those of the stops that ended a run
first_stops : (script : Script) (seeds : Seeds) (runs : List SeedRun) → 1 ≤ seeds.first → AllZip (IsRunOfSeed script) (seeds_in seeds) runs → (whys : List Why) → All (λ s. IsFirstSeed script seeds (verdict.Undefined s.why) s.count) (stops_among runs whys)
unfolding stops_among
first_stops script seeds runs from_one of_seeds whys =
    let is_first = λ (s : StopCount). IsFirstSeed script seeds (verdict.Undefined s.why) s.count in
    All-filter is_met is_first (map (stop_count runs) whys)
    (All-map is_first (stop_count runs) whys (λ at d within. first_seed script seeds (verdict.Undefined (slice_index_or whys at d)) runs from_one of_seeds))

-- and those of the tally
pub are_first_seeds : (script : Script) (seeds : Seeds) (tally : Tally) → 1 ≤ seeds.first → TallyOf script seeds tally → AreFirstSeeds script seeds tally
are_first_seeds script seeds tally from_one of_runs =
    subst (λ (t : Tally). AreFirstSeeds script seeds t) (sym of_runs.counted)
    (record {
      complete = first_seed script seeds verdict.Complete of_runs.runs from_one of_runs.of_seeds;
      deadlock = first_seed script seeds verdict.Deadlock of_runs.runs from_one of_runs.of_seeds;
      budget = first_seed script seeds verdict.Budget of_runs.runs from_one of_runs.of_seeds;
      stops = first_stops script seeds of_runs.runs from_one of_runs.of_seeds all_stops;
    })
