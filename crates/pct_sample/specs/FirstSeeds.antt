-- What the first seeds of a tally show.
use Rattle.std.specs.Prelude.{◌≡◌, ◌≢◌, ◌↔◌, ℕ, ◌≤◌, List, length, All}
use Rattle.pct_model.specs.declared.script.Script.{Script}
use Rattle.pct_model.specs.declared.schedule.Entry.{Entry}
use Rattle.pct_model.specs.declared.stop.Verdict.{Verdict}
use Rattle.pct_model.specs.declared.stop.Verdict.TheVariants as verdict
use Rattle.pct_model.specs.Run.{Run, verdict_of}
use Rattle.pct_tallies.specs.declared.count.Count.{Count}
use Rattle.pct_tallies.specs.declared.seeds.Seeds.{Seeds}
use Rattle.pct_tallies.specs.declared.tally.Tally.{Tally}
use Rattle.pct_sample.specs.SeedRuns.{RunsUnder, config_of}

-- the run of a script under a seed has this verdict
pub record EndsWith (script : Script) (v : Verdict) (seed : ℕ) : Type 0 where
  pub entries : List Entry
  pub after : Run
  pub runs : RunsUnder script seed entries after
  pub verdict_is : verdict_of script (config_of script) after.world (length entries) ≡ v

-- the first of the seeds of a range whose run has a verdict. It is 0, which is no seed, exactly where there is none; the run of the first seed
-- has the verdict, and no smaller seed's of the range has
pub record IsFirstSeed (script : Script) (seeds : Seeds) (v : Verdict) (count : Count) : Type 0 where
  pub none : count.first ≡ 0 ↔ (count.runs ≡ 0)
  pub above : count.runs ≢ 0 → seeds.first ≤ count.first
  pub within : count.first ≤ seeds.last
  pub found : count.runs ≢ 0 → EndsWith script v count.first
  pub least : (seed : ℕ) → seeds.first ≤ seed → seed ≤ seeds.last → EndsWith script v seed → (count.runs ≢ 0) × (count.first ≤ seed)

-- the first seeds of a tally
pub record AreFirstSeeds (script : Script) (seeds : Seeds) (tally : Tally) : Type 0 where
  pub complete : IsFirstSeed script seeds verdict.Complete tally.complete
  pub deadlock : IsFirstSeed script seeds verdict.Deadlock tally.deadlock
  pub budget : IsFirstSeed script seeds verdict.Budget tally.budget
  pub stops : All (λ s. IsFirstSeed script seeds (verdict.Undefined s.why) s.count) tally.stops
