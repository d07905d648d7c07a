use Rattle.pct_names.proofs.Names.{◌++◌, act_if, ap, body_of, Bool, false, go_if, is_asynchronous, is_deliverable, is_forbidden_in_child}
use Rattle.pct_names.proofs.Names.{sym, true, ◌∙◌, ◌≡◌}
use Rattle.pct_transitions.proofs.CancelRows.{forbidden_row, asynchronous_row, requested_row, statement_row}
use Rattle.pct_transitions.proofs.choice_table.running_choices.Goals as goal

pub returns-then-is_forbidden_in_child-clause-value : goal.returns-then-is_forbidden_in_child-clause-value
returns-then-is_forbidden_in_child-clause-value c = λ shared t others is.
    let at = c.args.at.now in
    let body = body_of c.args.context.now.program.now.script at.frame.func in
    forbidden_row body shared t others at.frame at.statement.now (sym (c.is_forbidden_in_child.ensures shared is.shared_is) ∙ c.if-is_forbidden_in_child.true)

pub returns-then-async_on-clause-value : goal.returns-then-async_on-clause-value
returns-then-async_on-clause-value c = λ shared t others is.
    let at = c.args.at.now in
    let context = c.args.context.now in
    let body = body_of context.program.now.script at.frame.func in
    let position = is.position_is in
    let allowed : is_forbidden_in_child body shared at.frame at.statement.now ≡ false = sym (c.is_forbidden_in_child.ensures shared is.shared_is) ∙ c.if-is_forbidden_in_child.false in
    let asynchronous : is_asynchronous t.state t.mode ≡ true = sym (λ i. is_asynchronous (position.state_is i) (position.mode_is i)) ∙ sym c.async_on.ensures ∙ c.if-async_on.true in
    c.go_or_act.ensures.value context.threads.now context.position.keys.now
    ∙ ap (λ (b : Bool). go_if true ++ act_if b) position.pending_is
    ∙ asynchronous_row body shared t others at.frame at.statement.now allowed asynchronous

pub returns-then-async_on-clause-within : goal.returns-then-async_on-clause-within
returns-then-async_on-clause-within c = c.go_or_act.ensures.within _

pub returns-then-deliverable-clause-value : goal.returns-then-deliverable-clause-value
returns-then-deliverable-clause-value c = λ shared t others is.
    let at = c.args.at.now in
    let body = body_of c.args.context.now.program.now.script at.frame.func in
    let position = is.position_is in
    let allowed : is_forbidden_in_child body shared at.frame at.statement.now ≡ false = sym (c.is_forbidden_in_child.ensures shared is.shared_is) ∙ c.if-is_forbidden_in_child.false in
    let deferred : is_asynchronous t.state t.mode ≡ false = sym (λ i. is_asynchronous (position.state_is i) (position.mode_is i)) ∙ sym c.async_on.ensures ∙ c.if-async_on.false in
    let deliverable : is_deliverable t.state t.pending ≡ true = sym (λ i. is_deliverable (position.state_is i) (position.pending_is i)) ∙ sym c.deliverable.ensures ∙ c.if-deliverable.true in
    c.requested_choices.ensures.value shared t others is ∙ requested_row body shared t others at.frame at.statement.now allowed deferred deliverable

pub returns-else-deliverable-clause-value : goal.returns-else-deliverable-clause-value
returns-else-deliverable-clause-value c = λ shared t others is.
    let at = c.args.at.now in
    let body = body_of c.args.context.now.program.now.script at.frame.func in
    let position = is.position_is in
    let allowed : is_forbidden_in_child body shared at.frame at.statement.now ≡ false = sym (c.is_forbidden_in_child.ensures shared is.shared_is) ∙ c.if-is_forbidden_in_child.false in
    let deferred : is_asynchronous t.state t.mode ≡ false = sym (λ i. is_asynchronous (position.state_is i) (position.mode_is i)) ∙ sym c.async_on.ensures ∙ c.if-async_on.false in
    let none : is_deliverable t.state t.pending ≡ false = sym (λ i. is_deliverable (position.state_is i) (position.pending_is i)) ∙ sym c.deliverable.ensures ∙ c.if-deliverable.false in
    c.statement_choices.ensures.value shared t others is ∙ statement_row body shared t others at.frame at.statement.now allowed deferred none
