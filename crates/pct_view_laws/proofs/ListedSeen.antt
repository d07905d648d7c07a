-- What is listed of a state depends only on what is kept of it.
use Rattle.pct_names.proofs.Names.{◌<◌, [], ap, body_at, Bool, by_slot, choices_at, cond, Config, Environment, false, filter, flat_map}
use Rattle.pct_names.proofs.Names.{flat_map-map, is_some, List, map, next_of, None, not, Option, option_map, Process, ProcessEnd, refl}
use Rattle.pct_names.proofs.Names.{Script, Some, sym, Thread, true, was_reaped, World, ◌∙◌, ◌∷◌, ◌≡◌}
use Rattle.std.proofs.Math.Path.{fun_ext}
use Rattle.pct_engine_laws.specs.Seen.{SeenSlot, SeenProcess, seen_process, seen, family_in}
use Rattle.pct_engine_laws.proofs.AnswerSeen.{threads_seen, environment_seen}
use Rattle.pct_engine_laws.proofs.ListFacts.{flat_map_agree, flat_map-filter, flat_map-flat_map, map-filter}
use Rattle.pct_view_laws.specs.Listed.{ListedThread, is_unended, listed_of, unended_of, listed_threads}
use Rattle.pct_view_laws.specs.SeenViews.{listed_in, listed_process, listed_seen}
use Rattle.pct_view_laws.specs.Waits.{wait_by}

-- the items of joined lists that pass a test, mapped
map-filter-flat_map : {A B C : Type 0} (f : B → C) (q : B → Bool) (g : A → List B) (xs : List A) → map f (filter q (flat_map g xs)) ≡ flat_map (λ a. map f (filter q (g a))) xs
map-filter-flat_map {A} {B} {C} f q g xs =
    let each : B → List C = λ b. cond (q b) (f b ∷ []) [] in
    map-filter f q (flat_map g xs)
    ∙ flat_map-flat_map each g xs
    ∙ flat_map_agree (λ a. flat_map each (g a)) (λ a. map f (filter q (g a))) (λ a. sym (map-filter f q (g a))) xs

-- a choice between the same
pub cond_same : {A : Type 0} (b : Bool) (x : A) → cond b x x ≡ x
cond_same true x = refl
cond_same false x = refl

-- a process that has ended has no threads that are listed
none_after_end : {A B : Type 0} (f : A → B) (end : Option ProcessEnd) (threads : List A) → cond (not (was_reaped end)) (cond (is_some (option_map (λ x. x.status) end)) [] (map f threads)) [] ≡ map f (cond (is_some end) [] threads)
none_after_end f None threads = refl
none_after_end f (Some end) threads = cond_same (not end.reaped) []

-- a thread of a process, as it is listed
listed_thread_seen : (script : Script) (config : Config) (w : World) (p : Process) (t : Thread) → 0 < config.slots → listed_of script config w p t ≡ listed_in script config (family_in (seen config.slots w) p.pid) (seen_process config.slots p) t
listed_thread_seen script config w p t some =
    ap (λ (environment : Environment). record {
      pid = p.pid;
      thread = t;
      choices = choices_at (body_at script t.frames) p.shared t environment (next_of script t.frames) t.status;
      wait = wait_by p.shared environment (choices_at (body_at script t.frames) p.shared t environment (next_of script t.frames) t.status) (next_of script t.frames) t.status;
    }) (environment_seen config t.id w p some)

-- the threads of a process that are listed
listed_of_process : (script : Script) (config : Config) (w : World) (p : Process) → 0 < config.slots → cond (not (was_reaped p.ended)) (listed_process script config (family_in (seen config.slots w) p.pid) (seen_process config.slots p)) [] ≡ map (listed_of script config w p) (unended_of config p)
listed_of_process script config w p some =
    let kept : SeenProcess = seen_process config.slots p in
    let on_slots : (Thread → ListedThread) → List ListedThread = λ listed. flat_map (λ (s : SeenSlot). map listed (filter is_unended s.here)) kept.slots in
    let if_kept : List ListedThread → List ListedThread = λ found. cond (not (was_reaped p.ended)) (cond (is_some kept.ended) [] found) [] in
    ap (λ (listed : Thread → ListedThread). if_kept (on_slots listed)) (sym (fun_ext (λ (t : Thread). listed_thread_seen script config w p t some)))
    ∙ ap if_kept (sym (map-filter-flat_map (listed_of script config w p) is_unended (λ (s : SeenSlot). s.here) kept.slots))
    ∙ ap (λ (found : List Thread). if_kept (map (listed_of script config w p) (filter is_unended found))) (threads_seen config.slots p.threads)
    ∙ none_after_end (listed_of script config w p) p.ended (filter is_unended (by_slot config.slots p.threads))

-- the threads that are listed
pub listed_is_seen : (script : Script) (config : Config) (w : World) → 0 < config.slots → listed_threads script config w ≡ listed_seen script config (seen config.slots w)
unfolding listed_threads listed_seen
listed_is_seen script config w some =
    let listed : SeenProcess → List ListedThread = λ p. listed_process script config (family_in (seen config.slots w) p.pid) p in
    sym
    (flat_map-map listed (seen_process config.slots) (filter (λ p. not (was_reaped p.ended)) w.processes)
    ∙ flat_map-filter (λ p. listed (seen_process config.slots p)) (λ (p : Process). not (was_reaped p.ended)) w.processes
    ∙ flat_map_agree (λ p. cond (not (was_reaped p.ended)) (listed (seen_process config.slots p)) []) (λ p. map (listed_of script config w p) (unended_of config p)) (λ p. listed_of_process script config w p some) w.processes)
