-- The transition of an entry depends only on what is kept of the state.
use Rattle.pct_names.proofs.Names.{◌&&◌, ◌<◌, acts_or, ap, body_at, Bool, choices_at, Config, Entry, Environment, false, filter, find}
use Rattle.pct_names.proofs.Names.{has_timeouts, if_offered, if◌then◌else◌, is_live_process, is_some, List, map, nat_eq, next_of, None, not}
use Rattle.pct_names.proofs.Names.{offers, Option, option_and_then, option_map, Process, ProcessEnd, refl, Script, Some, sym, Thread}
use Rattle.pct_names.proofs.Names.{Transition, transition_at, transition_of, true, was_reaped, with_id, World, ℕ, ◌∙◌, ◌≡◌}
use mathlib.Core.Bool.{and-false}
use Rattle.std.proofs.Math.Path.{fun_ext}
use Rattle.pct_engine_laws.specs.Seen.{SeenProcess, seen_process, seen, family_in, is_live_seen}
use Rattle.pct_engine_laws.specs.SeenSteps.{thread_with, if_offered_in, seen_transition}
use Rattle.pct_engine_laws.proofs.ListFacts.{find_agree, find-map, find-filter, then-map}
use Rattle.pct_engine_laws.proofs.AnswerSeen.{thread_seen, environment_seen}

-- ---- threads

-- the transition of a thread by an entry
pub offered_seen : (script : Script) (config : Config) (w : World) (p : Process) (e : Entry) (t : Thread) → 0 < config.slots → if_offered script config w p e t ≡ if_offered_in script (has_timeouts config.format) config.slots config.passes (family_in (seen config.slots w) p.pid) (seen_process config.slots p) e t
offered_seen script config w p e t some =
    ap (λ (environment : Environment). if offers (choices_at (body_at script t.frames) p.shared t environment (next_of script t.frames) t.status) e.alt then Some (acts_or e.alt t.status (transition_at config.passes (body_at script t.frames) p.shared t environment e.alt (next_of script t.frames) t.status)) else None) (environment_seen config t.id w p some)

-- the transition of an entry by a process
pub taken_seen : (script : Script) (config : Config) (w : World) (e : Entry) (p : Process) → 0 < config.slots → option_and_then (if_offered script config w p e) (with_id e.tid p.threads) ≡ option_and_then (if_offered_in script (has_timeouts config.format) config.slots config.passes (family_in (seen config.slots w) p.pid) (seen_process config.slots p) e) (thread_with config.slots e.tid (seen_process config.slots p).slots)
taken_seen script config w e p some =
    ap (λ (f : Thread → Option Transition). option_and_then f (with_id e.tid p.threads)) (fun_ext (λ t. offered_seen script config w p e t some))
    ∙ ap (option_and_then (if_offered_in script (has_timeouts config.format) config.slots config.passes (family_in (seen config.slots w) p.pid) (seen_process config.slots p) e)) (sym (thread_seen config.slots e.tid p.threads some))

-- ---- processes

-- a process that has not ended is kept, and has not ended there
pub not_ended : (named : Bool) (end : Option ProcessEnd) → (not (was_reaped end) && (named && not (is_some (option_map (λ x. x.status) end)))) ≡ (named && not (is_some end))
not_ended named None = refl
not_ended true (Some end) = and-false (not end.reaped)
not_ended false (Some end) = and-false (not end.reaped)

-- the process with an id that has not ended is found among those that are kept
pub process_found : (slots pid : ℕ) (ps : List Process) → find (is_live_seen pid) (map (seen_process slots) (filter (λ p. not (was_reaped p.ended)) ps)) ≡ option_map (seen_process slots) (find (is_live_process pid) ps)
process_found slots pid ps =
    find-map (is_live_seen pid) (seen_process slots) (filter (λ p. not (was_reaped p.ended)) ps)
    ∙ ap (option_map (seen_process slots))
    (find-filter (λ (p : Process). is_live_seen pid (seen_process slots p)) (λ p. not (was_reaped p.ended)) ps
    ∙ find_agree (λ p. not (was_reaped p.ended) && is_live_seen pid (seen_process slots p)) (is_live_process pid) (λ p. not_ended (nat_eq p.pid pid) p.ended) ps)

-- ---- the transition

-- the transition of an entry
pub transition_is_seen : (script : Script) (config : Config) (w : World) (e : Entry) → 0 < config.slots → transition_of script config w e ≡ seen_transition script config (seen config.slots w) e
transition_is_seen script config w e some =
    let found : find (is_live_seen e.pid) (seen config.slots w).processes ≡ option_map (seen_process config.slots) (find (is_live_process e.pid) w.processes) = process_found config.slots e.pid w.processes in
    let after : SeenProcess → Option Transition = λ p. option_and_then (if_offered_in script (has_timeouts config.format) config.slots config.passes (family_in (seen config.slots w) p.pid) p e) (thread_with config.slots e.tid p.slots) in
    ap (λ (f : Process → Option Transition). option_and_then f (find (is_live_process e.pid) w.processes)) (fun_ext (λ p. taken_seen script config w e p some))
    ∙ sym (then-map after (seen_process config.slots) (find (is_live_process e.pid) w.processes))
    ∙ sym (ap (option_and_then after) found)
