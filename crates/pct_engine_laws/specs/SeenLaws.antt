-- What is kept of a state decides what may come next, and changes by what is kept alone. These are the theorems that join
-- the engine's tables to the state of the machine.
use Rattle.std.specs.Prelude.{◌≡◌, ℕ, ◌<◌}
use Rattle.pct_model.specs.declared.script.Script.{Script}
use Rattle.pct_model.specs.declared.schedule.Config.{Config}
use Rattle.pct_model.specs.declared.schedule.Entry.{Entry}
use Rattle.pct_model.specs.declared.transition.Transition.{Transition}
use Rattle.pct_model.specs.World.{World}
use Rattle.pct_model.specs.Actions.{after_transition}
use Rattle.pct_model.specs.Step.{transition_of}
use Rattle.pct_model.specs.Run.{verdict_of}
use Rattle.pct_model.specs.Chosen.{chosen}
use Rattle.pct_engine_laws.specs.Seen.{seen, seen_after}
use Rattle.pct_engine_laws.specs.SeenSteps.{seen_transition, seen_chosen, seen_verdict}

-- the transition of an entry
abbrev pub TransitionIsSeen : Type 0
TransitionIsSeen = (script : Script) (config : Config) (w : World) (e : Entry) → 0 < config.slots → transition_of script config w e ≡ seen_transition script config (seen config.slots w) e

-- the state after a transition
abbrev pub AfterIsSeen : Type 0
AfterIsSeen = (slots pid tid : ℕ) (w : World) (o : Transition) → 0 < slots → seen slots (after_transition pid tid o w) ≡ seen_after slots pid tid o (seen slots w)

-- the verdict
abbrev pub VerdictIsSeen : Type 0
VerdictIsSeen = (script : Script) (config : Config) (w : World) (n : ℕ) → 0 < config.slots → verdict_of script config w n ≡ seen_verdict script config (seen config.slots w) n

-- the choice of the scheduler
abbrev pub ChosenIsSeen : Type 0
ChosenIsSeen = (script : Script) (config : Config) (w : World) (worker a b : ℕ) → 0 < config.slots → chosen script config w worker a b ≡ seen_chosen script config (seen config.slots w) worker a b
