-- The answers for `may_change`.
use Rattle.std.proofs.Common.{◌≡◌, ℕ, Bool, true, false, not, ◌&&◌, List, refl, sym, ap, ◌∙◌}
use Rattle.std.specs.List.{list_any}
use Rattle.pct_model.specs.declared.event.Event.{Event}
use Rattle.pct_model.specs.declared.event.What.TheVariants as what
use Rattle.pct_laws.specs.KnownThreads.{makes_process}
use Rattle.pct_laws.specs.ProcessEnds.{end_status}
use Rattle.pct_laws.specs.ProcessLaw.{has_in, has_status, reaps_process, may_change, changes_allow}
use Rattle.pct_process_monitors.proofs.processes.ProcessMonitor.may_change.Goals as goal

-- the law of an event that reaps a child, by its three tests
reap_told : (e : Event) (events : List Event) (child n : ℕ) → e.what ≡ what.Reaped child n → (made ended reaped : Bool)
    → has_in (makes_process child) e.pid events ≡ made → has_status n (end_status child events) ≡ ended → list_any (λ x. reaps_process child x.what) events ≡ reaped
    → (made && ended && not reaped) ≡ changes_allow e events
reap_told e events child n is made ended reaped by_made by_ended by_reaped =
    sym (ap (λ w. may_change w e.pid e.tid events) is
    ∙ ap (λ (x : Bool). x && has_status n (end_status child events) && not (list_any (λ y. reaps_process child y.what) events)) by_made
    ∙ ap (λ (x : Bool). made && x && not (list_any (λ y. reaps_process child y.what) events)) by_ended
    ∙ ap (λ (x : Bool). made && ended && not x) by_reaped)

pub returns-then-has_status : goal.returns-then-has_status
returns-then-has_status c = λ events told facts.
    let child = c.in-Reaped.child in
    let reaped = sym (told.reaped child) ∙ sym c.contains-then-has_status.ensures in
    elim c.if-contains.branch [
      | goal.then-contains w ↦ reap_told c.args.event events child c.in-Reaped.status c.in-Reaped.is true true c.contains-then-has_status.result
          (sym (told.children c.args.event.pid child) ∙ sym w.if-contains.ensures) (sym (w.has_status.ensures events told) ∙ sym w.value-is ∙ c.if-has_status.true) reaped
      | goal.else-contains w ↦ absurd cc
    ]

pub returns-else-has_status : goal.returns-else-has_status
returns-else-has_status c = λ events told facts.
    let child = c.in-Reaped.child in
    let told_by = reap_told c.args.event events child c.in-Reaped.status c.in-Reaped.is in
    elim c.if-contains.branch [
      | goal.then-contains w ↦ c.if-has_status.false
          ∙ told_by true false (list_any (λ x. reaps_process child x.what) events) (sym (told.children c.args.event.pid child) ∙ sym w.if-contains.ensures)
          (sym (w.has_status.ensures events told) ∙ sym w.value-is ∙ c.if-has_status.false) refl
      | goal.else-contains w ↦ c.if-has_status.false
          ∙ told_by false (has_status c.in-Reaped.status (end_status child events)) (list_any (λ x. reaps_process child x.what) events)
          (sym (told.children c.args.event.pid child) ∙ sym w.if-contains.ensures) refl refl
    ]
