-- Runs, entry by entry: a fact of the initial state that each legal entry keeps, by what holds of the run so far, holds after every run.
use Rattle.pct_names.proofs.Names.{◌&&◌, ◌+◌, ◌++◌, ◌<◌, [], after_transition, and_from, and_parts, ap, arith, Bool, choices_of, cond}
use Rattle.pct_names.proofs.Names.{Config, Entry, event_of, false, find, is_config, is_live_process, length, List, map, MAX_BUDGET}
use Rattle.pct_names.proofs.Names.{MAX_PASSES, MAX_SLOTS, MIN_PASSES, nat_le, None, none-some, offers, opening, Option, option_and_then}
use Rattle.pct_names.proofs.Names.{option_and_then_some, option_map, Process, refl, reverse, Run, run, run_from, run_step, same_Some}
use Rattle.pct_names.proofs.Names.{Script, Some, step, subst, Successor, Thread, Transition, transition_by, true, with_id, World, ◌∙◌, ◌∷◌}
use Rattle.pct_names.proofs.Names.{◌≡◌, ◌≤◌}
use Rattle.std.proofs.lemmas.Bool.{leb-true, le-leb}
use Rattle.std.proofs.lemmas.List.{length-append}
use Rattle.pct_model.proofs.LegalSteps.{step_legal}

-- a legal entry: the run was not stopped, and the thread that it names, of a process that has not ended, has the choice
pub record IsTaken (script : Script) (config : Config) (w : World) (e : Entry) (p : Process) (t : Thread) : Type 0 where
  pub running : w.stop ≡ None
  pub is_process : find (is_live_process e.pid) w.processes ≡ Some p
  pub is_thread : with_id e.tid p.threads ≡ Some t
  pub offered : offers (choices_of script config w p t) e.alt ≡ true

-- the run with one more entry, which takes a transition
abbrev pub with_step : Entry → Transition → Run → Run
with_step e o r = record { world = after_transition e.pid e.tid o r.world; events = map (event_of e) (reverse o.events) ++ r.events }

-- the run of no entry
abbrev pub first_run : Script → Run
first_run script = record { world = opening script; events = [] }

is_fifth : (a b c d e f : Bool) → (a && b && c && d && e && f) ≡ true → e ≡ true
is_fifth a b c d e f all = let parts = and_parts (a && b && c && d && e) f all in let rest = and_parts (a && b && c && d) e parts.0 in rest.1

-- a configuration within the limits has a slot
some_slots : (c : Config) → is_config c ≡ true → 0 < c.slots
some_slots c limits =
    leb-true 1 c.slots (is_fifth (nat_le 1 c.budget) (nat_le c.budget MAX_BUDGET) (nat_le MIN_PASSES c.passes) (nat_le c.passes MAX_PASSES) (nat_le 1 c.slots) (nat_le c.slots MAX_SLOTS) limits)

module _ (script : Script) (config : Config) where
  -- the fact holds after every run
  abbrev pub AfterEveryRun : (Run → Type 0) → Type 0
  AfterEveryRun Holds = (entries : List Entry) (after : Run) → run script config entries ≡ Some after → Holds after

  -- ---- one entry more

  -- a legal entry leads to the next run
  record LeadsTo (r : Run) (e : Entry) (next : Run) : Type 0 where
    process : Process
    thread : Thread
    taken : IsTaken script config r.world e process thread
    is_next : with_step e (transition_by script config r.world process thread e.alt) r ≡ next

  leads_by : (r : Run) (e : Entry) (next : Run) (o : Option Successor) → step script config r.world e ≡ o → option_map (λ (s : Successor). record { world = s.world; events = map (event_of e) (reverse s.events) ++ r.events }) o ≡ Some next → LeadsTo r e next
  leads_by r e next (Some s) stepped is =
      let made = step_legal script config r.world e s stepped in
      let legal = made.0 in
      record {
        process = legal.process;
        thread = legal.thread;
        taken = record { running = legal.running; is_process = legal.live; is_thread = legal.holds; offered = legal.offered };
        is_next = ap (λ (x : Successor). record { world = x.world; events = map (event_of e) (reverse x.events) ++ r.events }) made.1 ∙ same_Some _ next is;
      }
  leads_by r e next None stepped is = absurd (none-some next is)

  leads : (r : Run) (e : Entry) (next : Run) → run_step script config r e ≡ Some next → LeadsTo r e next
  unfolding run_step
  leads r e next is = leads_by r e next (step script config r.world e) refl is

  -- the run of some entries and one more
  run_more : (r mid next : Run) (before : List Entry) (e : Entry) → run_from script config r before ≡ Some mid → run_step script config mid e ≡ Some next → run_from script config r (before ++ e ∷ []) ≡ Some next
  unfolding run_from
  run_more r mid next [] e is stepped = ap (λ (x : Run). option_and_then (λ n. run_from script config n []) (run_step script config x e)) (same_Some r mid is) ∙ ap (option_and_then (λ n. run_from script config n [])) stepped
  run_more r mid next (first ∷ before) e is stepped =
      option_and_then_some (λ n. run_from script config n before) (run_step script config r first) mid is
      (λ n first_step ran. ap (option_and_then (λ x. run_from script config x (before ++ e ∷ []))) first_step ∙ run_more n mid next before e ran stepped)

  -- ---- every run

  module _ (Holds : Run → Type 0)
      (keeps : (before : List Entry) (r : Run) → run script config before ≡ Some r → (e : Entry) (p : Process) (t : Thread) → IsTaken script config r.world e p t → Holds r → Holds (with_step e (transition_by script config r.world p t e.alt) r)) where
    step_keeps : (before : List Entry) (r next : Run) (e : Entry) → run script config before ≡ Some r → run_step script config r e ≡ Some next → Holds r → Holds next
    step_keeps before r next e is stepped holds =
        let to = leads r e next stepped in
        subst Holds to.is_next (keeps before r is e to.process to.thread to.taken holds)

    from_keeps : (entries before : List Entry) (r after : Run) → is_config config ≡ true → length before + length entries ≤ config.budget → run_from script config (first_run script) before ≡ Some r → run_from script config r entries ≡ Some after → Holds r → Holds after
    unfolding run_from run
    from_keeps [] before r after limits within so_far is holds = subst Holds (same_Some r after is) holds
    from_keeps (e ∷ entries) before r after limits within so_far is holds =
        let ran : run script config before ≡ Some r =
        ap (λ (b : Bool). cond b (run_from script config (first_run script) before) None) (and_from (is_config config) (nat_le (length before) config.budget) limits (le-leb (length before) config.budget (omega (arith, within)))) ∙ so_far in
        option_and_then_some (λ next. run_from script config next entries) (run_step script config r e) after is
        (λ next stepped rest.
        from_keeps entries (before ++ e ∷ []) next after limits (omega (arith, within, length-append before (e ∷ []))) (run_more (first_run script) r next before e so_far stepped) rest
        (step_keeps before r next e ran stepped holds))

    run_by : (entries : List Entry) (after : Run) (limits within : Bool) → is_config config ≡ limits → nat_le (length entries) config.budget ≡ within → cond (limits && within) (run_from script config (first_run script) entries) None ≡ Some after → (0 < config.slots → Holds (first_run script)) → Holds after
    unfolding run_from
    run_by entries after true true limits within is first = from_keeps entries [] (first_run script) after limits (omega (arith, leb-true (length entries) config.budget within)) refl is (first (some_slots config limits))
    run_by entries after true false limits within is first = absurd (none-some after is)
    run_by entries after false within limits fits is first = absurd (none-some after is)

    -- what holds of the initial state, and is kept by each legal entry that goes on from a run, holds after every run
    pub every_run : (0 < config.slots → Holds (first_run script)) → AfterEveryRun Holds
    unfolding run
    every_run first entries after is = run_by entries after (is_config config) (nat_le (length entries) config.budget) refl refl is first
