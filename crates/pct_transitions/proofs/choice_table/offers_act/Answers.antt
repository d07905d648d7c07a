use Rattle.pct_names.proofs.Names.{Alt, ap, map, offers, same_choice, sym, ◌∙◌}
use Rattle.pct_model.specs.declared.schedule.Alt.TheVariants as alt
use Rattle.pct_engine_laws.proofs.ListFacts.{any-map}
use Rattle.pct_step_context.specs.OtherThreads.{ids_on}
use Rattle.pct_transitions.proofs.ListedChoices.{never_act, none_offered}
use Rattle.pct_transitions.proofs.choice_table.offers_act.Goals as goal

pub returns-in-Act : goal.returns-in-Act
returns-in-Act c =
    let ids = ids_on c.args.threads.now c.args.waiting.now in
    c.has_id.ensures ∙ sym (any-map (same_choice (alt.Act c.in-Act.id)) (λ n. alt.Act n) ids) ∙ ap (λ (choice : Alt). offers (map (λ n. alt.Act n) ids) choice) (sym c.in-Act.is)

pub returns-in_default : goal.returns-in_default
returns-in_default c = sym (none_offered (λ n. alt.Act n) c.args.choice (never_act c.args.choice c.in_default.not-Act) (ids_on c.args.threads.now c.args.waiting.now))
