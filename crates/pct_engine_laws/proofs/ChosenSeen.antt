-- The choice of the scheduler depends only on what is kept of the state.
use Rattle.pct_names.proofs.Names.{◌<◌, [], Alt, ap, Bool, by_slot, Candidate, candidate, candidates, choices_of, chosen, cond, Config}
use Rattle.pct_names.proofs.Names.{entry_for, false, filter, flat_map-map, is_enabled, is_none, is_some, item_at, List, map, None, not}
use Rattle.pct_names.proofs.Names.{Option, option_and_then, option_map, Process, ProcessEnd, ready_of, refl, Script, Some, sym, Thread}
use Rattle.pct_names.proofs.Names.{true, was_reaped, World, ℕ, ◌∙◌, ◌≡◌}
use Rattle.std.proofs.Math.Path.{fun_ext}
use Rattle.pct_engine_laws.specs.Seen.{SeenProcess, Seen, seen_process, seen, threads_on, family_in}
use Rattle.pct_engine_laws.specs.SeenSteps.{seen_candidates_of, seen_candidates, seen_chosen}
use Rattle.pct_engine_laws.proofs.ListFacts.{flat_map_agree, flat_map-filter}
use Rattle.pct_engine_laws.proofs.AnswerSeen.{threads_seen, choices_seen}

none_either : (none : List Candidate) (b : Bool) → cond b none none ≡ none
none_either none true = refl
none_either none false = refl

by_end : (f : Thread → Candidate) (end : Option ProcessEnd) (ready : List Thread) → cond (not (was_reaped end)) (map f (cond (is_some (option_map (λ x. x.status) end)) [] ready)) [] ≡ map f (cond (is_some end) [] ready)
by_end f None ready = refl
by_end f (Some end) ready = none_either [] (not end.reaped)

-- the candidates among the threads of a process that are ready, by their choices
abbrev candidates_by : ℕ → Bool → List Thread → (Thread → List Alt) → List Candidate
candidates_by pid ended threads choices = map (λ t. record { pid = pid; tid = t.id; choices = choices t }) (cond ended [] (filter (λ t. is_enabled (choices t)) threads))

-- the candidates of a process, as what is kept has them
abbrev candidates_in : Script → Config → Seen → SeenProcess → List Candidate
candidates_in script config v p = seen_candidates_of script config (family_in v p.pid) p

-- the candidates of a process
pub candidates_of_process : (script : Script) (config : Config) (w : World) (p : Process) → 0 < config.slots → cond (not (was_reaped p.ended)) (candidates_in script config (seen config.slots w) (seen_process config.slots p)) [] ≡ map (candidate script config w p) (ready_of script config w p)
candidates_of_process script config w p some =
    let kept : SeenProcess = seen_process config.slots p in
    ap (λ (choices : Thread → List Alt). cond (not (was_reaped p.ended)) (candidates_by p.pid (is_some kept.ended) (threads_on kept.slots) choices) []) (sym (fun_ext (λ (t : Thread). choices_seen script config w p t some)))
    ∙ ap (λ (threads : List Thread). cond (not (was_reaped p.ended)) (candidates_by p.pid (is_some kept.ended) threads (choices_of script config w p)) []) (threads_seen config.slots p.threads)
    ∙ by_end (candidate script config w p) p.ended (filter (λ t. is_enabled (choices_of script config w p t)) (by_slot config.slots p.threads))

-- the threads that are ready
pub candidates_seen : (script : Script) (config : Config) (w : World) → 0 < config.slots → seen_candidates script config (seen config.slots w) ≡ candidates script config w
unfolding seen_candidates candidates
candidates_seen script config w some =
    let of : SeenProcess → List Candidate = candidates_in script config (seen config.slots w) in
    flat_map-map of (seen_process config.slots) (filter (λ p. not (was_reaped p.ended)) w.processes)
    ∙ flat_map-filter (λ p. of (seen_process config.slots p)) (λ (p : Process). not (was_reaped p.ended)) w.processes
    ∙ flat_map_agree (λ p. cond (not (was_reaped p.ended)) (of (seen_process config.slots p)) []) (λ p. map (candidate script config w p) (ready_of script config w p)) (λ p. candidates_of_process script config w p some) w.processes

-- the entry that a worker's two numbers choose
pub chosen_is_seen : (script : Script) (config : Config) (w : World) (worker a b : ℕ) → 0 < config.slots → chosen script config w worker a b ≡ seen_chosen script config (seen config.slots w) worker a b
unfolding chosen
chosen_is_seen script config w worker a b some =
    ap (λ (found : List Candidate). cond (is_none w.stop) (option_and_then (entry_for worker b) (item_at found a)) None) (sym (candidates_seen script config w some))
