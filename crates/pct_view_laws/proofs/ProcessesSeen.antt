-- The processes that are listed of a state depend only on what is kept of it.
use Rattle.pct_names.proofs.Names.{◌<◌, [], ap, by_slot, cond, Config, filter, flat_map-map, has_ended, is_some, List, None, not, Option}
use Rattle.pct_names.proofs.Names.{option_map, Process, ProcessEnd, refl, Some, sym, Thread, was_reaped, World, ◌∙◌, ◌∷◌, ◌≡◌}
use Rattle.pct_engine_laws.specs.Seen.{SeenProcess, seen_process, seen}
use Rattle.pct_engine_laws.proofs.AnswerSeen.{threads_seen}
use Rattle.pct_engine_laws.proofs.ListFacts.{flat_map_agree, flat_map-filter, map-filter}
use Rattle.pct_view_laws.specs.Listed.{is_unended}
use Rattle.pct_view_laws.specs.ListedProcesses.{ListedProcess, process_of, process_in, listed_processes, processes_seen}
use Rattle.pct_view_laws.proofs.ListedSeen.{cond_same}

-- a process with these threads, as it is listed
abbrev with_threads : Process → List Thread → ListedProcess
with_threads p threads = record { pid = p.pid; shared = p.shared; threads = threads }

-- a process that has ended is not listed
only_unended : (p : Process) (threads : List Thread) (end : Option ProcessEnd)
    → cond (not (was_reaped end)) (cond (is_some (option_map (λ x. x.status) end)) [] (with_threads p threads ∷ [])) []
    ≡ cond (not (is_some end)) (with_threads p (cond (is_some end) [] threads) ∷ []) []
only_unended p threads None = refl
only_unended p threads (Some end) = cond_same (not end.reaped) []

-- a process, as it is listed
process_seen : (config : Config) (p : Process)
    → cond (not (was_reaped p.ended)) (cond (is_some (seen_process config.slots p).ended) [] (process_in (seen_process config.slots p) ∷ [])) [] ≡ cond (not (has_ended p)) (process_of config p ∷ []) []
process_seen config p =
    ap (λ (threads : List Thread). cond (not (was_reaped p.ended)) (cond (is_some (option_map (λ x. x.status) p.ended)) [] (with_threads p (filter is_unended threads) ∷ [])) []) (threads_seen config.slots p.threads)
    ∙ only_unended p (filter is_unended (by_slot config.slots p.threads)) p.ended

-- the processes that are listed
pub processes_are_seen : (config : Config) (w : World) → 0 < config.slots → listed_processes config w ≡ processes_seen (seen config.slots w)
unfolding listed_processes processes_seen
processes_are_seen config w some =
    let listed : SeenProcess → List ListedProcess = λ p. cond (is_some p.ended) [] (process_in p ∷ []) in
    sym
    (flat_map-map listed (seen_process config.slots) (filter (λ p. not (was_reaped p.ended)) w.processes)
    ∙ flat_map-filter (λ p. listed (seen_process config.slots p)) (λ (p : Process). not (was_reaped p.ended)) w.processes
    ∙ flat_map_agree (λ p. cond (not (was_reaped p.ended)) (listed (seen_process config.slots p)) []) (λ p. cond (not (has_ended p)) (process_of config p ∷ []) []) (process_seen config) w.processes
    ∙ sym (map-filter (process_of config) (λ (p : Process). not (has_ended p)) w.processes))
