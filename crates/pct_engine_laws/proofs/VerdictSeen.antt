-- The verdict depends only on what is kept of the state.
use Rattle.pct_names.proofs.Names.{◌&&◌, ◌<◌, Alt, ap, Bool, Budget, Complete, cond, Config, Deadlock, filter, has_ended, has_ready}
use Rattle.pct_names.proofs.Names.{has_timeouts, holds_slot, is_enabled, is_ready, is_some, List, list_all, list_all-map, list_any, map}
use Rattle.pct_names.proofs.Names.{nat_eq, None, not, Open, Option, option_map, or-true, Process, ProcessEnd, refl, Script, Some, sym}
use Rattle.pct_names.proofs.Names.{Thread, Verdict, verdict_by, verdict_of, was_reaped, Why, World, ◌||◌, ℕ, ◌∙◌, ◌≡◌}
use mathlib.Core.Bool.{and-false}
use Rattle.pct_engine_laws.specs.Seen.{SeenProcess, seen_process, seen, threads_on, family_in}
use Rattle.pct_engine_laws.specs.SeenSteps.{is_ready_in, has_ready_in, seen_verdict_by, seen_verdict}
use Rattle.pct_engine_laws.proofs.ListFacts.{any_agree, all_agree, any-filter, all-filter, any-map}
use Rattle.pct_engine_laws.proofs.AnswerSeen.{threads_seen, any_by_slot, choices_seen}

-- ---- processes

ready_by : (end : Option ProcessEnd) (ready ready_in : Bool) → ready_in ≡ ready → (not (was_reaped end) && (not (is_some (option_map (λ x. x.status) end)) && ready_in)) ≡ (not (is_some end) && ready)
ready_by None ready ready_in e = e
ready_by (Some end) ready ready_in e = and-false (not end.reaped)

-- a process has a thread that is ready
pub ready_seen : (script : Script) (config : Config) (w : World) (p : Process) → 0 < config.slots → (not (was_reaped p.ended) && has_ready_in script (has_timeouts config.format) config.slots (family_in (seen config.slots w) p.pid) (seen_process config.slots p)) ≡ has_ready script config w p
ready_seen script config w p some =
    let kept : SeenProcess = seen_process config.slots p in
    let ready : Thread → Bool = is_ready_in script (has_timeouts config.format) config.slots (family_in (seen config.slots w) p.pid) kept in
    ready_by p.ended (list_any (is_ready script config w p) p.threads) (list_any ready (threads_on kept.slots))
    (ap (list_any ready) (threads_seen config.slots p.threads)
    ∙ any_by_slot config.slots ready p.threads some
    ∙ any_agree (λ t. holds_slot t && ready t) (is_ready script config w p) (λ t. ap (λ (choices : List Alt). holds_slot t && is_enabled choices) (sym (choices_seen script config w p t some))) p.threads)

-- some process has a thread that is ready
pub some_ready_seen : (script : Script) (config : Config) (w : World) → 0 < config.slots → list_any (λ p. has_ready_in script (has_timeouts config.format) config.slots (family_in (seen config.slots w) p.pid) p) (seen config.slots w).processes ≡ list_any (has_ready script config w) w.processes
some_ready_seen script config w some =
    let ready : SeenProcess → Bool = λ p. has_ready_in script (has_timeouts config.format) config.slots (family_in (seen config.slots w) p.pid) p in
    any-map ready (seen_process config.slots) (filter (λ p. not (was_reaped p.ended)) w.processes)
    ∙ any-filter (λ p. ready (seen_process config.slots p)) (λ p. not (was_reaped p.ended)) w.processes
    ∙ any_agree (λ p. not (was_reaped p.ended) && ready (seen_process config.slots p)) (has_ready script config w) (λ p. ready_seen script config w p some) w.processes

ended_by : (end : Option ProcessEnd) → (not (not (was_reaped end)) || is_some (option_map (λ x. x.status) end)) ≡ is_some end
ended_by None = refl
ended_by (Some end) = or-true (not (not end.reaped))

-- each process has ended
pub all_ended_seen : (slots : ℕ) (ps : List Process) → list_all (λ p. is_some p.ended) (map (seen_process slots) (filter (λ p. not (was_reaped p.ended)) ps)) ≡ list_all has_ended ps
all_ended_seen slots ps =
    list_all-map (λ (p : SeenProcess). is_some p.ended) (seen_process slots) (filter (λ p. not (was_reaped p.ended)) ps)
    ∙ all-filter (λ (p : Process). is_some (option_map (λ x. x.status) p.ended)) (λ p. not (was_reaped p.ended)) ps
    ∙ all_agree (λ p. not (not (was_reaped p.ended)) || is_some (option_map (λ x. x.status) p.ended)) has_ended (λ p. ended_by p.ended) ps

-- ---- the verdict

verdict_by_seen : (stop : Option Why) (script : Script) (config : Config) (w : World) (n : ℕ) → 0 < config.slots → verdict_by stop script config w n ≡ seen_verdict_by stop script config (seen config.slots w) n
verdict_by_seen (Some why) script config w n some = refl
verdict_by_seen None script config w n some =
    let undecided : Bool → Verdict = λ ready. cond (not ready) Deadlock (cond (nat_eq n config.budget) Budget Open) in
    ap (λ (ended : Bool). cond ended Complete (undecided (list_any (has_ready script config w) w.processes))) (sym (all_ended_seen config.slots w.processes))
    ∙ ap (λ (ready : Bool). cond (list_all (λ p. is_some p.ended) (seen config.slots w).processes) Complete (undecided ready)) (sym (some_ready_seen script config w some))

-- the verdict of a run with n entries
pub verdict_is_seen : (script : Script) (config : Config) (w : World) (n : ℕ) → 0 < config.slots → verdict_of script config w n ≡ seen_verdict script config (seen config.slots w) n
unfolding verdict_of seen_verdict
verdict_is_seen script config w n some = verdict_by_seen w.stop script config w n some
