-- What is kept of the run that an engine has made.
use Rattle.pct_names.proofs.Names.{Bool, Config, Event, event_line, length, List, map, refl, reverse, Run, run, Script, subst, subst₂, sym, Verdict, verdict_of, ℕ, ◌∙◌, ◌≡◌}
use Rattle.pct_engine.specs.EngineStates.{EngineValue, IsRunOf}
use Rattle.pct_expect.specs.declared.rule.Rule.{Rule}
use Rattle.pct_sample.specs.SeededRuns.{IsSeededRun}
use Rattle.pct_survey.specs.declared.judging.JudgedRun.{JudgedRun}
use Rattle.pct_survey.specs.JudgedRuns.{AreHeld, IsJudgedRun}

pub judged : (script : Script) (config : Config) (rules : List Rule) (seed : ℕ) (engine : EngineValue) (after : Run) (verdict : Verdict) (events : List Event) (held : List Bool)
    → IsSeededRun script config seed engine → IsRunOf engine after → verdict ≡ verdict_of engine.script engine.config after.world (length engine.history) → events ≡ reverse after.events
    → AreHeld (map (event_line engine.script) events) rules held → IsJudgedRun script config rules seed (record { seed = seed; verdict = verdict; held = held })
judged script config rules seed engine after verdict events held is ran ends are holds = record {
  seed_is = refl;
  entries = engine.history;
  scheduled = is.scheduled;
  after = after;
  is_run = (λ i. run (sym is.script_is i) (sym is.config_is i) engine.history) ∙ ran;
  verdict_is = ends ∙ (λ i. verdict_of (is.script_is i) (is.config_is i) after.world (length engine.history));
  held = subst₂ (λ (s : Script) (es : List Event). AreHeld (map (event_line s) es) rules held) is.script_is are holds;
}

-- of the same script, configuration and rules
pub judged_alike : (script other : Script) (config given : Config) (rules asked : List Rule) (seed : ℕ) (r : JudgedRun) → script ≡ other → config ≡ given → rules ≡ asked → IsJudgedRun script config rules seed r → IsJudgedRun other given asked seed r
judged_alike script other config given rules asked seed r scripts configs lists is =
    subst (λ (rs : List Rule). IsJudgedRun other given rs seed r) lists (subst₂ (λ (s : Script) (c : Config). IsJudgedRun s c rules seed r) scripts configs is)
