-- Where a step begins depends only on what is kept of the state.
use Rattle.pct_names.proofs.Names.{◌<◌, ap, Entry, find, is_live_process, Option, option_and_then, option_map, Process, sym, Thread, World}
use Rattle.pct_names.proofs.Names.{ℕ, ◌∙◌, ◌≡◌}
use Rattle.std.proofs.Math.Path.{fun_ext}
use Rattle.pct_engine_laws.specs.Seen.{SeenProcess, seen_process, seen, is_live_seen}
use Rattle.pct_engine_laws.specs.SeenSteps.{thread_with}
use Rattle.pct_engine_laws.proofs.AnswerSeen.{thread_seen}
use Rattle.pct_engine_laws.proofs.ListFacts.{then-map}
use Rattle.pct_engine_laws.proofs.TransitionSeen.{process_found}
use Rattle.pct_view_laws.specs.SeenViews.{start_seen}
use Rattle.pct_view_laws.specs.TracedSteps.{start_of, acting_thread, start_in}

-- the thread that an entry names
acting_thread_seen : (slots : ℕ) (w : World) (e : Entry) → 0 < slots → option_and_then (λ (p : SeenProcess). thread_with slots e.tid p.slots) (find (is_live_seen e.pid) (seen slots w).processes) ≡ acting_thread w e
acting_thread_seen slots w e some =
    let found : Option Process = find (is_live_process e.pid) w.processes in
    let thread_in : SeenProcess → Option Thread = λ p. thread_with slots e.tid p.slots in
    ap (option_and_then thread_in) (process_found slots e.pid w.processes)
    ∙ then-map thread_in (seen_process slots) found
    ∙ ap (λ (f : Process → Option Thread). option_and_then f found) (fun_ext (λ (p : Process). thread_seen slots e.tid p.threads some))

-- where the step of an entry begins
pub start_is_seen : (slots : ℕ) (w : World) (e : Entry) → 0 < slots → start_in w e ≡ start_seen slots (seen slots w) e
unfolding start_in
start_is_seen slots w e some = ap (option_map start_of) (sym (acting_thread_seen slots w e some))
