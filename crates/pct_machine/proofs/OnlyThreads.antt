-- The only thread of the only process: where it is ready, each number chooses it; where it is not, it has no choice.
use Rattle.pct_names.proofs.Names.{◌%◌, ◌++◌, ◌<◌, [], Alt, ap, arith, Bool, Candidate, cond, Config, Entry, entry_for, false, false≢true, filter, get_or, has_timeouts}
use Rattle.pct_names.proofs.Names.{is_enabled, is_some, item_at, length, List, map, None, Option, option_and_then, option_map, refl, take}
use Rattle.pct_names.proofs.Names.{Script, slice_get, Some, sym, Thread, true, ℕ, ◌∙◌, ◌∷◌, ◌≡◌}
use Rattle.std.proofs.Math.Nat.{mod-lt}
use Rattle.pct_engine_laws.specs.Seen.{SeenProcess, Seen, family_in}
use Rattle.pct_engine_laws.specs.SeenSteps.{candidate_in, is_ready_in, seen_chosen}
use Rattle.pct_machine.specs.declared.scheduler.Seat.{Seat}
use Rattle.pct_machine.specs.Candidates.{candidates_among, candidate_on, IsSeat, IsOnlySeat}
use Rattle.pct_machine.specs.ProcessSteps.{AllCanStep}
use Rattle.pct_machine.proofs.ReadyProcesses.{candidate_is, chosen_among}

-- ---- the only process

-- the process on the first place is the only one
pub one_place : (live : ℕ) (places : List SeenProcess) (p : SeenProcess) → live ≡ 1 → 0 < length places → p ≡ get_or places 0 p → take live places ≡ p ∷ []
one_place live [] p one some here = absurd (omega (arith, some))
one_place live (q ∷ rest) p one some here = ap (λ (n : ℕ). take n (q ∷ rest)) one ∙ ap (λ (x : SeenProcess). x ∷ []) (sym here)

-- without a choice, none is chosen
none_chosen : (choices : List Alt) (n : ℕ) → is_enabled choices ≡ false → item_at choices n ≡ None
none_chosen [] n none = refl
none_chosen (c ∷ rest) n none = absurd (false≢true (sym none))

-- each number chooses the only item
only_item : {T : Type 0} (x : T) (n : ℕ) → item_at (x ∷ []) n ≡ Some x
only_item x n =
    let some : 0 < 1 = omega arith in
    let least : n % 1 ≡ 0 = omega (arith, mod-lt n some) in
    ap (slice_get (x ∷ [])) least

module _ (v : Seen) (seat : Seat) (is : IsOnlySeat v.processes seat) where
  abbrev p : SeenProcess
  p = is.process

  here : slice_get v.processes seat.place ≡ Some p
  here = ap (slice_get v.processes) is.first ∙ ap (λ (ps : List SeenProcess). slice_get ps 0) is.alone

  -- its seat is one
  pub only_is_seat : IsSeat v.processes seat
  only_is_seat = record { process = p; here = here; live = is.only.live; held = ap is_some is.only.held }

  module _ (script : Script) (config : Config) (can : AllCanStep config.slots v.processes v.made) (running : is_some v.stop ≡ false) (worker number choice : ℕ) where
    -- the thread, as a candidate
    abbrev only : Candidate
    only = candidate_in script (has_timeouts config.format) (length p.slots) (family_in v p.pid) p is.only.thread

    abbrev entry_of : List Candidate → Option Entry
    entry_of cs = option_and_then (entry_for worker choice) (item_at cs number)

    as_candidates : (f : Thread → Candidate) (t : Thread) (ready : Bool) → map f (cond ready (t ∷ []) []) ++ [] ≡ cond ready (f t ∷ []) []
    as_candidates f t true = refl
    as_candidates f t false = refl

    -- it is the only candidate, if it is ready
    candidates_are : candidates_among script (has_timeouts config.format) (family_in v) v.processes ≡ cond (is_enabled only.choices) (only ∷ []) []
    candidates_are =
        let ready : Thread → Bool = is_ready_in script (has_timeouts config.format) (length p.slots) (family_in v p.pid) p in
        let candidate : Thread → Candidate = candidate_in script (has_timeouts config.format) (length p.slots) (family_in v p.pid) p in
        ap (candidates_among script (has_timeouts config.format) (family_in v)) is.alone
        ∙ (λ i. map candidate (cond (is.only.live i) [] (filter ready (is.only.single i))) ++ [])
        ∙ as_candidates candidate is.only.thread (ready is.only.thread)

    by_ready : (ready : Bool) → is_enabled only.choices ≡ ready → entry_for worker choice only ≡ entry_of (cond ready (only ∷ []) [])
    by_ready true is_ready = ap (option_and_then (entry_for worker choice)) (sym (only_item only number))
    by_ready false not_ready = ap (option_map (λ (c : Alt). record { worker = worker; pid = p.pid; tid = is.only.thread.id; alt = c })) (none_chosen only.choices choice not_ready)

    -- the entry that two numbers choose is that which the second one chooses for it
    pub only_chosen : option_and_then (entry_for worker choice) (candidate_on script (has_timeouts config.format) (family_in v) v.processes seat) ≡ seen_chosen script config v worker number choice
    only_chosen =
        ap (option_and_then (entry_for worker choice)) (candidate_is script (has_timeouts config.format) (family_in v) v.processes seat p is.only.thread here is.only.held)
        ∙ by_ready (is_enabled only.choices) refl
        ∙ ap entry_of (sym candidates_are)
        ∙ chosen_among script config v number can running worker choice
