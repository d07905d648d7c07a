use Rattle.pct_names.proofs.Names.{ap, exit_value_of, false, is_ended_thread, is_some, length, None, Option, option_and_then, refl, subst}
use Rattle.pct_names.proofs.Names.{Thread, ℕ, ◌∙◌, ◌≡◌}
use Rattle.pct_engine_laws.specs.SeenSteps.{environment_in}
use Rattle.pct_process.specs.ProcessViews.{ProcessData}
use Rattle.pct_step_context.specs.OtherThreads.{ended_value}
use Rattle.pct_step_context.proofs.StandingsRead.{small_slot}
use Rattle.pct_step_context.proofs.EnvironmentRead.{has_ended, named_read}
use Rattle.pct_transitions.proofs.process_reads.has_ended.Goals as goal

pub standing-requires : goal.standing-requires
standing-requires c = small_slot c.process.inside.threads _ _ c.slot_count-count.ensures.value c.slot_count-count.ensures.few c.in-Some.ensures.occupied

pub returns-in-Some : goal.returns-in-Some
returns-in-Some c = λ timeouts family tid.
    let s = c.process.inside in
    subst (λ (d : ProcessData). c.is_some.result ≡ is_ended_thread c.args.id (environment_in timeouts (length d.slots) family d.slots tid)) c.process.view_is
    (c.is_some.ensures
    ∙ ap (λ (o : Option ℕ). is_some o) (c.ended_value.ensures ∙ ap ended_value c.standing.ensures ∙ has_ended s.keys s.threads c.process.invariant.0 tid timeouts family _ refl c.args.id c.in-Some.ensures.some c.in-Some.slot c.in-Some.ensures.value s.standings c.process.invariant.1 (small_slot s.threads _ _ c.slot_count-count.ensures.value c.slot_count-count.ensures.few c.in-Some.ensures.occupied)))

pub returns-in-None : goal.returns-in-None
returns-in-None c = λ timeouts family tid.
    let s = c.process.inside in
    subst (λ (d : ProcessData). false ≡ is_ended_thread c.args.id (environment_in timeouts (length d.slots) family d.slots tid)) c.process.view_is
    (ap (λ (o : Option Thread). is_some (option_and_then (λ t. exit_value_of t.status) o)) (named_read s.keys s.threads c.process.invariant.0 tid timeouts family _ refl c.args.id c.in-None.ensures.some None c.in-None.ensures.value))
