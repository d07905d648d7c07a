-- What the monitor keeps after an event more.
use Rattle.std.proofs.Common.{◌≡◌, ℕ, Bool, true, false, ◌&&◌, cond, List, ◌∷◌, refl, sym, subst, nat_eq}
use Rattle.std.proofs.lemmas.Bool.{and_parts, and_from, eqb-true, eq-eqb}
use Rattle.pct_model.specs.declared.event.Event.{Event}
use Rattle.pct_laws.specs.KnownThreads.{is_own}
use Rattle.pct_audit.specs.IsRow.{Grows}
use Rattle.pct_handler_monitor.specs.declared.monitor.HandlerMonitor.{HandlerMonitor}
use Rattle.pct_handler_monitor.specs.declared.ran.RanHandlers.{RanHandlers}
use Rattle.pct_handler_monitor.specs.IsRan.{IsRan}
use Rattle.pct_handler_monitor.specs.Monitors.{ran_of, MonitorsHandlers}
use Rattle.pct_handler_monitor.proofs.MoreEvents.{other_thread}

-- an event is one of its own thread
pub is_of_its_thread : (e : Event) → is_own e.pid e.tid e ≡ true
is_of_its_thread e = and_from (nat_eq e.pid e.pid) (nat_eq e.tid e.tid) (eq-eqb e.pid e.pid refl) (eq-eqb e.tid e.tid refl)

module _ (m after : HandlerMonitor) (e : Event) (events : List Event) (pushed : List (List (ℕ × ℕ))) (next : RanHandlers)
    (set : (p t : ℕ) → ran_of after p t ≡ cond (nat_eq e.pid p && nat_eq e.tid t) next (ran_of m p t)) (grows : Grows m.ran after.ran)
    (own : IsRan next after.ran pushed e.pid e.tid (e ∷ events)) (monitors : MonitorsHandlers m pushed events) where
  by_thread : (p t : ℕ) (same : Bool) → is_own p t e ≡ same → IsRan (cond same next (ran_of m p t)) after.ran pushed p t (e ∷ events)
  by_thread p t true is =
      let parts = and_parts (nat_eq e.pid p) (nat_eq e.tid t) is in
      subst (λ (q : ℕ). IsRan next after.ran pushed q t (e ∷ events)) (eqb-true e.pid p parts.0)
      (subst (λ (u : ℕ). IsRan next after.ran pushed e.pid u (e ∷ events)) (eqb-true e.tid t parts.1) own)
  by_thread p t false is = other_thread e events p t (ran_of m p t) m.ran after.ran pushed is grows (monitors.threads p t)

  pub monitors_more : MonitorsHandlers after pushed (e ∷ events)
  monitors_more = record { threads = λ p t. subst (λ (thread : RanHandlers). IsRan thread after.ran pushed p t (e ∷ events)) (sym (set p t)) (by_thread p t (is_own p t e) refl) }
