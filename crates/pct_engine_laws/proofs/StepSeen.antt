-- The step of an entry, by what is kept of the state.
use Rattle.pct_names.proofs.Names.{◌&&◌, ◌<◌, ap, Bool, cond, Config, Entry, is_none, MAX_WORKER, nat_le, None, Option, option_map, Script}
use Rattle.pct_names.proofs.Names.{step, Transition, World, ◌≡◌}
pub use Rattle.pct_model.specs.Step.{successor_of}
use Rattle.pct_engine_laws.specs.Seen.{seen}
use Rattle.pct_engine_laws.specs.SeenSteps.{seen_transition}
use Rattle.pct_engine_laws.proofs.TransitionSeen.{transition_is_seen}

-- no stop forbids the entry, and its worker is within the limit
abbrev pub may_step : World → Entry → Bool
may_step w e = is_none w.stop && nat_le e.worker MAX_WORKER

-- the step of an entry
pub step_is_seen : (script : Script) (config : Config) (w : World) (e : Entry) → 0 < config.slots → step script config w e ≡ cond (may_step w e) (option_map (successor_of w e) (seen_transition script config (seen config.slots w) e)) None
unfolding step
step_is_seen script config w e some =
    ap (λ (o : Option Transition). cond (may_step w e) (option_map (successor_of w e) o) None) (transition_is_seen script config w e some)
