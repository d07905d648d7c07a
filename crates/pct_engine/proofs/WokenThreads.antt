-- The threads that the step of an entry unblocks by a broadcast, in the state of the run and by what is kept of it.
use Rattle.pct_names.proofs.Names.{◌≡◌, ℕ, ◌<◌, ◌&&◌, ◌∙◌, Bool, true, false, cond, Config, Entry, List, length, map, Option, Some, None, ap, refl, sym, subst}
use Rattle.pct_names.proofs.Names.{none-some, Script, Thread, Transition, waiters_among, World, find, option_map, nat_le, is_none}
use Rattle.std.specs.Option.{option_map_or}
use Rattle.pct_model.specs.Actions.{is_live_process}
use Rattle.pct_model.specs.declared.transition.NamedAction.{NamedAction}
use Rattle.pct_model.specs.declared.transition.NamedAction.TheVariants as named_action
use Rattle.pct_model.specs.Step.{transition_of}
use Rattle.pct_model.specs.World.{Process}
use Rattle.pct_actions.specs.ProcessChanges.{woken}
use Rattle.pct_engine_laws.specs.Seen.{Seen, SeenProcess, seen, seen_process, is_live_seen}
use Rattle.pct_engine_laws.specs.SeenSteps.{seen_transition}
use Rattle.pct_engine_laws.proofs.AnswerSeen.{threads_seen}
use Rattle.pct_engine_laws.proofs.TransitionSeen.{process_found, transition_is_seen}
use Rattle.pct_machine.specs.MachineSteps.{legal_transition, woken_in}
use Rattle.pct_engine.specs.EngineStates.{woken_of, woken_by}

-- of a process, by an action on threads
woken_seen : (slots : ℕ) (named : Option NamedAction) (p : Process) → woken named (seen_process slots p).slots ≡ woken_of slots named p
woken_seen slots None p = refl
woken_seen slots (Some (named_action.EndJoin id)) p = refl
woken_seen slots (Some (named_action.Request id)) p = refl
woken_seen slots (Some (named_action.Detach id)) p = refl
woken_seen slots (Some (named_action.Wake id)) p = refl
woken_seen slots (Some (named_action.WakeAll c)) p = ap (λ (threads : List Thread). length (waiters_among c threads)) (threads_seen slots p.threads)
woken_seen slots (Some (named_action.ForgetKey key)) p = refl

-- of the process that is found, if one is
found_seen : (slots : ℕ) (named : Option NamedAction) (found : Option Process) → option_map_or (λ p. woken named p.slots) (option_map (seen_process slots) found) 0 ≡ option_map_or (woken_of slots named) found 0
found_seen slots named None = refl
found_seen slots named (Some p) = woken_seen slots named p

taken_if : (may : Bool) (taken : Option Transition) (o : Transition) → cond may taken None ≡ Some o → taken ≡ Some o
taken_if true taken o is = is
taken_if false taken o is = absurd (none-some o is)

-- of a legal entry
pub woken_legal : (script : Script) (config : Config) (w : World) (e : Entry) (o : Transition) (v : Seen) → 0 < config.slots → v ≡ seen config.slots w → legal_transition script config v e ≡ Some o → woken_in e.pid (Some o) v.processes ≡ woken_by script config w e
woken_legal script config w e o v some is legal =
    let slots : ℕ = config.slots in
    let state : Seen = seen slots w in
    let takes : seen_transition script config state e ≡ Some o = taken_if (is_none state.stop && nat_le e.worker 16) (seen_transition script config state e) o (subst (λ (u : Seen). legal_transition script config u e ≡ Some o) is legal) in
    let by : Option SeenProcess → ℕ = λ found. option_map_or (λ p. woken o.named p.slots) found 0 in
    ap (λ (u : Seen). woken_in e.pid (Some o) u.processes) is
    ∙ ap by (process_found slots e.pid w.processes)
    ∙ found_seen slots o.named (find (is_live_process e.pid) w.processes)
    ∙ sym (ap (λ (taken : Option Transition). option_map_or (λ o. option_map_or (woken_of slots o.named) (find (is_live_process e.pid) w.processes) 0) taken 0) (transition_is_seen script config w e some ∙ takes))
