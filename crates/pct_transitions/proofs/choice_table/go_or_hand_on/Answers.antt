use Rattle.pct_names.proofs.Names.{◌++◌, Alt, ap, arith, go_if, hand_on_or_act, List, refl, sym, ◌∙◌, ◌∷◌}
use Rattle.pct_model.specs.declared.schedule.Alt.TheVariants as alt
use Rattle.pct_transitions.proofs.WaiterChoices.{some_wait}
use Rattle.pct_transitions.proofs.choice_table.go_or_hand_on.Goals as goal

pub returns-then-len-eq0-clause-within : goal.returns-then-len-eq0-clause-within
returns-then-len-eq0-clause-within c = λ threads held. c.go_or_act.ensures.within threads

pub returns-then-go-clause-value : goal.returns-then-go-clause-value
returns-then-go-clause-value c = λ threads keys waiters ids.
    ap (λ (acts : List Alt). alt.Go ∷ acts) (some_wait (λ n. alt.Act n) hand_on_or_act (λ w ws. refl) threads c.args.waiting.now waiters (omega (arith, c.len.ensures.value, c.if-len-eq0.false)) ids)
    ∙ ap (λ go. go_if go ++ hand_on_or_act waiters) (sym c.if-go.true)

pub returns-else-go-clause-value : goal.returns-else-go-clause-value
returns-else-go-clause-value c = λ threads keys waiters ids.
    some_wait (λ n. alt.Act n) hand_on_or_act (λ w ws. refl) threads c.args.waiting.now waiters (omega (arith, c.len.ensures.value, c.if-len-eq0.false)) ids
    ∙ ap (λ go. go_if go ++ hand_on_or_act waiters) (sym c.if-go.false)
