-- Each transition that a thread of a process takes fits the process.
use Rattle.pct_names.proofs.Names.{Alt, and_parts, ap, body_at, Bool, Environment, false, false≢true, Family, IfSome, is_ended_status}
use Rattle.pct_names.proofs.Names.{is_none, is_some, Key, length, List, list_any, nat_eq, next_of, NextStatement, None, offers, Option}
use Rattle.pct_names.proofs.Names.{refl, same_Some, Script, Some, Status, Stmt, subst, sym, Thread, Transition, true, ℕ, ◌∙◌, ◌≡◌}
use Rattle.std.proofs.lemmas.Bool.{true≢false, ltb-true}
use Rattle.pct_engine_laws.specs.Fitting.{Fits}
use Rattle.pct_engine_laws.specs.SeenSteps.{thread_with, new_ids_from, environment_in, choices_in, transition_in}
use Rattle.pct_transition_cases.proofs.CaseOfTransition.{case_of}
use Rattle.pct_transition_cases.proofs.TransitionCases.{TransitionCase, thread_made, join_ended, key_made, key_deleted, specific_set}
use Rattle.pct_transition_cases.proofs.TransitionCases.{fork_registered, exit_registered}
use Rattle.pct_process.specs.ProcessViews.{thread_on_slot, ProcessData}
use Rattle.pct_transitions.specs.ProcessSteps.{with_data}
use Rattle.pct_transitions.proofs.KeyChoices.{new_fits}
use Rattle.pct_actions.specs.ProcessChanges.{AreOnSlots, KeyFits, SharedFits, NamedFits, deleted_key, forgotten_key, Makes}
use Rattle.pct_place.proofs.HeldSlots.{held_by}

-- ---- keys

is_there : (found : Option Key) → is_none found ≡ false → is_some found ≡ true
is_there None none = absurd (true≢false none)
is_there (Some key) none = refl

-- ---- the transition of a thread, by a choice that is offered

module _ (script : Script) (timeouts : Bool) (passes : ℕ) (family : Family) (d : ProcessData) (k : ℕ) (t : Thread) (choice : Alt) (placed : AreOnSlots d.slots) (here : thread_on_slot d.slots k ≡ Some t) where
  abbrev slots : ℕ
  slots = length d.slots

  -- its transition
  abbrev taken : Transition
  taken = transition_in script timeouts slots passes family (with_data d) t choice

  -- its transition, by case
  abbrev Case : Environment → NextStatement → Status → Transition → Type 0
  Case environment next s o = TransitionCase passes (body_at script t.frames) d.shared t environment true next s o

  key_fits : {environment : Environment} {next : NextStatement} {s : Status} {o : Transition} → Case environment next s o → KeyFits o.own d.shared.keys
  key_fits (specific_set frame key v named) = is_there _ named
  key_fits _ = tt

  shared_fits : {environment : Environment} {next : NextStatement} {s : Status} {o : Transition} → Case environment next s o → SharedFits o.shared d.shared
  shared_fits (key_made frame result key destructor k among) = new_fits d.shared.keys k (among refl)
  shared_fits (fork_registered frame result handlers room) = room
  shared_fits (exit_registered frame result f may) = ltb-true (length d.shared.exit_functions) 32 (and_parts _ _ may).0
  shared_fits _ = tt

  named_fits : {next : NextStatement} {s : Status} {o : Transition} → t.status ≡ s → Case (environment_in timeouts slots family d.slots t.id) next s o → NamedFits t.id o.named d.slots
  unfolding environment_in
  named_fits at (join_ended frame operand e id v target is ended) =
      let has_ended : is_ended_status target.status ≡ true = ap is_ended_status ended in (
        λ same. let mover : target ≡ t = same_Some target t (sym is ∙ ap (λ (n : ℕ). thread_with slots n d.slots) same ∙ (held_by d.slots placed k t here).1) in false≢true (sym (ap is_ended_status at) ∙ ap (λ (u : Thread). is_ended_status u.status) (sym mover) ∙ has_ended),
        subst (λ (o : Option Thread). IfSome o (λ u. is_ended_status u.status ≡ true)) (sym is) has_ended,
      )
  named_fits at _ = tt

  forgets : {environment : Environment} {next : NextStatement} {s : Status} {o : Transition} → Case environment next s o → deleted_key o.shared ≡ forgotten_key o.named
  forgets (key_deleted frame key named) = refl
  forgets _ = refl

  created_fits : {next : NextStatement} {s : Status} {o : Transition} → Case (environment_in timeouts slots family d.slots t.id) next s o → IfSome o.created (λ new. list_any (nat_eq new.id) (new_ids_from slots 0 d.slots) ≡ true)
  unfolding environment_in
  created_fits (thread_made frame result id f v detached n among) = among refl
  created_fits _ = tt

  -- the transition that it takes fits the process
  pub taken_fits : Fits (length t.frames) (length t.handlers) t.pass taken.own → offers (choices_in script timeouts slots family (with_data d) t) choice ≡ true → Makes k taken d
  taken_fits fits offered =
      let environment : Environment = environment_in timeouts slots family d.slots t.id in
      let next : NextStatement = next_of script t.frames in
      let body : List Stmt = body_at script t.frames in
      let its_case : Case environment next t.status taken = case_of passes body d.shared t environment true choice next t.status (λ known. offered) in
      record {
        on_slots = placed;
        thread = t;
        here = here;
        fits = fits;
        keys = key_fits its_case;
        shared = shared_fits its_case;
        named = named_fits refl its_case;
        forgets = forgets its_case;
        created = created_fits its_case;
      }
