-- A seed has one row, and so a range of seeds has one tally.
use Rattle.std.proofs.Common.{ℕ, ◌≡◌, List, [], ◌∷◌, ap, refl, sym, length, reverse, ◌∙◌}
use Rattle.std.specs.List.{AllZip, count_by}
use Rattle.pct_names.proofs.Names.{same_Some}
use Rattle.pct_model.specs.declared.limits.TheConstants.{DEFAULT_BUDGET}
use Rattle.pct_model.specs.declared.schedule.Entry.{Entry}
use Rattle.pct_model.specs.declared.script.Script.{Script}
use Rattle.pct_model.specs.Run.{Run, run, verdict_of}
use Rattle.pct_scheduled_run.proofs.OneSchedule.{seed_schedule_is_one}
use Rattle.pct_tallies.specs.declared.seed_run.SeedRun.{SeedRun}
use Rattle.pct_tallies.specs.Seeds.{seeds_in}
use Rattle.pct_tallies.specs.Tallies.{tally_of}
use Rattle.pct_sample.specs.OneTally.{TalliesAreOne}
use Rattle.pct_sample.specs.SeedRuns.{IsRunOfSeed, config_of, is_canceled, is_joined}

-- what is counted of a run
abbrev row_of : Script → ℕ → List Entry → Run → SeedRun
row_of script seed entries after = record {
  seed = seed;
  verdict = verdict_of script (config_of script) after.world (length entries);
  steps = length entries;
  joined = count_by is_joined (reverse after.events);
  canceled = count_by is_canceled (reverse after.events);
}

is_row : (script : Script) (seed : ℕ) (r : SeedRun) (made : IsRunOfSeed script seed r) → r ≡ row_of script seed made.entries made.after
is_row script seed r made = λ i. record {
  seed = made.seed_is i;
  verdict = made.counted.verdict i;
  steps = made.counted.steps i;
  joined = made.counted.joined i;
  canceled = made.counted.canceled i;
}

row_is_one : (script : Script) (seed : ℕ) (one other : SeedRun) → IsRunOfSeed script seed one → IsRunOfSeed script seed other → one ≡ other
row_is_one script seed one other x y =
    let config = config_of script in
    let same : x.entries ≡ y.entries = seed_schedule_is_one script config seed DEFAULT_BUDGET x.entries y.entries x.runs.scheduled y.runs.scheduled in
    let after : x.after ≡ y.after = same_Some x.after y.after (sym x.runs.is_run ∙ ap (λ (entries : List Entry). run script config entries) same ∙ y.runs.is_run) in
    is_row script seed one x ∙ ap (λ (entries : List Entry). row_of script seed entries x.after) same ∙ ap (row_of script seed y.entries) after ∙ sym (is_row script seed other y)

rows_are_one : (script : Script) (seeds : List ℕ) (one other : List SeedRun) → AllZip (IsRunOfSeed script) seeds one → AllZip (IsRunOfSeed script) seeds other → one ≡ other
rows_are_one script [] [] [] x y = refl
rows_are_one script [] [] (b ∷ other) x y = absurd y
rows_are_one script [] (a ∷ one) other x y = absurd x
rows_are_one script (n ∷ seeds) [] other x y = absurd x
rows_are_one script (n ∷ seeds) (a ∷ one) [] x y = absurd y
rows_are_one script (n ∷ seeds) (a ∷ one) (b ∷ other) x y = λ i. row_is_one script n a b x.0 y.0 i ∷ rows_are_one script seeds one other x.1 y.1 i

pub tallies_are_one : TalliesAreOne
tallies_are_one script seeds one other x y = x.counted ∙ ap tally_of (rows_are_one script (seeds_in seeds) x.runs y.runs x.of_seeds y.of_seeds) ∙ sym y.counted
