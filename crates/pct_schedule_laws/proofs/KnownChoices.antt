-- Each entry of a run has a choice that a schedule of the run's format may have: in a run of format 1 no time expires.
use Rattle.pct_names.proofs.Names.{[], Alt, and_from, and_parts, body_at, Bool, Config, Entry, Environment, environment_of, has_choice}
use Rattle.pct_names.proofs.Names.{has_timeouts, is_timed_wait, List, list_all, next_of, NextStatement, None, none-some, Option}
use Rattle.pct_names.proofs.Names.{option_and_then, option_map, refl, Run, run, run_from, run_step, Script, SharedState, Some, Status, step}
use Rattle.pct_names.proofs.Names.{Successor, sym, Thread, true, World, ◌∙◌, ◌∷◌, ◌≡◌}
use Rattle.pct_model.specs.declared.schedule.Format.{Format}
use Rattle.pct_model.proofs.LegalSteps.{step_legal}
use Rattle.pct_transition_cases.proofs.OfferedChoices.{Offered, may_expire, offered_of}
use Rattle.pct_engine_laws.proofs.LongerRuns.{run_parts, run_step-is, run_after}

-- the choice of an entry is one that the format of this configuration has
abbrev pub is_known : Config → Entry → Bool
is_known config e = has_choice config.format e.alt

-- a choice that a thread is offered, where a time may expire only in runs of formats that have timeouts
offered_known : (format : Format) (shared : SharedState) (t : Thread) (environment : Environment) → environment.timeouts ≡ has_timeouts format
    → {next : NextStatement} {s : Status} {choice : Alt} → Offered shared t environment next s choice → has_choice format choice ≡ true
offered_known format shared t environment timeouts (may_expire next s timed can before) = sym timeouts ∙ (and_parts environment.timeouts (is_timed_wait next) can).0
offered_known format shared t environment timeouts _ = refl

module _ (script : Script) (config : Config) where
  -- an entry that makes a step
  step_known : (w : World) (e : Entry) (s : Successor) → step script config w e ≡ Some s → is_known config e ≡ true
  unfolding environment_of
  step_known w e s is =
      let legal = (step_legal script config w e s is).0 in
      let p = legal.process in
      let t = legal.thread in
      let environment = environment_of config w p t.id in
      offered_known config.format p.shared t environment refl (offered_of (body_at script t.frames) p.shared t environment e.alt (next_of script t.frames) t.status legal.offered)

  after_step : (r next : Run) (e : Entry) (o : Option Successor) → step script config r.world e ≡ o → option_map (run_after r e) o ≡ Some next → is_known config e ≡ true
  after_step r next e None at is = absurd (none-some next is)
  after_step r next e (Some s) at is = step_known r.world e s at

  known_then : (r after : Run) (e : Entry) (entries : List Entry) (o : Option Run) → run_step script config r e ≡ o → option_and_then (λ (next : Run). run_from script config next entries) o ≡ Some after
      → ((next : Run) → run_from script config next entries ≡ Some after → list_all (is_known config) entries ≡ true) → list_all (is_known config) (e ∷ entries) ≡ true
  known_then r after e entries None at is rest = absurd (none-some after is)
  known_then r after e entries (Some next) at is rest =
      let made = step script config r.world e in
      and_from (is_known config e) (list_all (is_known config) entries) (after_step r next e made refl (sym (run_step-is script config r e made refl) ∙ at)) (rest next is)

  -- the entries with which a run goes on
  known_from : (r after : Run) (entries : List Entry) → run_from script config r entries ≡ Some after → list_all (is_known config) entries ≡ true
  unfolding run_from
  known_from r after [] is = refl
  known_from r after (e ∷ entries) is = known_then r after e entries (run_step script config r e) refl is (λ next ran. known_from next after entries ran)

  -- the entries of a run
  pub run_known : (entries : List Entry) (after : Run) → run script config entries ≡ Some after → list_all (is_known config) entries ≡ true
  run_known entries after is = known_from _ after entries (run_parts script config entries after is).ran
