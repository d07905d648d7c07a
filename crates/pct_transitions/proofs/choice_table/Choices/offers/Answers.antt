use Rattle.pct_names.proofs.Names.{ap, left_keys, new_keys, offers, same_choice, sym, ◌∙◌}
use Rattle.pct_model.specs.declared.schedule.Alt.TheVariants as alt
use Rattle.pct_keys.specs.Tables.{row_at}
use Rattle.pct_threads.specs.Tables.{next_id_at}
use Rattle.pct_transitions.specs.Listed.{listed}
use Rattle.pct_transitions.specs.declared.choice_table.Choices.{Choices}
use Rattle.pct_engine_laws.proofs.ListFacts.{any-map}
use Rattle.pct_step_context.specs.OtherThreads.{ids_on}
use Rattle.pct_transitions.proofs.ListedChoices.{never_new, never_pick, never_dtor, none_offered}
use Rattle.pct_transitions.proofs.choice_table.Choices.offers.Goals as goal

pub returns-in-New-choice : goal.returns-in-New-choice
returns-in-New-choice c = c.offers_id.ensures c.args.keys.now ∙ sym (λ i. offers (listed c.args.threads.now c.args.keys.now (c.in-New.is i)) (c.in-New-choice.is i))

pub returns-in_default-choice : goal.returns-in_default-choice
returns-in_default-choice c =
    sym (ap (λ (choices : Choices). offers (listed c.args.threads.now c.args.keys.now choices) c.args.choice) c.in-New.is
    ∙ none_offered (λ s. alt.New (next_id_at c.args.threads.now s)) c.args.choice
    (λ s. never_new c.args.choice c.in_default-choice.not-New (next_id_at c.args.threads.now s)) c.in-New.free)

pub returns-in-New-choice-2 : goal.returns-in-New-choice-2
returns-in-New-choice-2 c = c.offers_new_key.ensures c.args.threads.now ∙ sym (λ i. offers (listed c.args.threads.now c.args.keys.now (c.in-NewKey.is i)) (c.in-New-choice-2.is i))

pub returns-in_default-choice-2 : goal.returns-in_default-choice-2
returns-in_default-choice-2 c =
    sym (ap (λ (choices : Choices). offers (listed c.args.threads.now c.args.keys.now choices) c.args.choice) c.in-NewKey.is
    ∙ none_offered (λ n. alt.New n) c.args.choice (never_new c.args.choice c.in_default-choice-2.not-New) (new_keys c.args.keys.now.places))

pub returns-in-Dtor-choice : goal.returns-in-Dtor-choice
returns-in-Dtor-choice c = c.offers_dtor.ensures c.args.threads.now ∙ sym (λ i. offers (listed c.args.threads.now c.args.keys.now (c.in-Dtor.is i)) (c.in-Dtor-choice.is i))

pub returns-in_default-choice-3 : goal.returns-in_default-choice-3
returns-in_default-choice-3 c =
    sym (ap (λ (choices : Choices). offers (listed c.args.threads.now c.args.keys.now choices) c.args.choice) c.in-Dtor.is
    ∙ none_offered (λ n. alt.Dtor n) c.args.choice
    (never_dtor c.args.choice c.in_default-choice-3.not-Dtor) (left_keys c.args.keys.now.places (row_at c.args.keys.now c.in-Dtor.slot)))

pub returns-in-Pick-choice : goal.returns-in-Pick-choice
returns-in-Pick-choice c =
    c.has_id.ensures
    ∙ sym (any-map (same_choice (alt.Pick c.in-Pick-choice.id)) (λ n. alt.Pick n) (ids_on c.args.threads.now c.in-Pick.waiting))
    ∙ sym (λ i. offers (listed c.args.threads.now c.args.keys.now (c.in-Pick.is i)) (c.in-Pick-choice.is i))

pub returns-in_default-choice-4 : goal.returns-in_default-choice-4
returns-in_default-choice-4 c =
    sym (ap (λ (choices : Choices). offers (listed c.args.threads.now c.args.keys.now choices) c.args.choice) c.in-Pick.is
    ∙ none_offered (λ n. alt.Pick n) c.args.choice (never_pick c.args.choice c.in_default-choice-4.not-Pick) (ids_on c.args.threads.now c.in-Pick.waiting))
