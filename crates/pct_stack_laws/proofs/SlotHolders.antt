-- A thread that has no slot takes none: not by a transition of a thread of its process, and not in the process that a fork makes.
use Rattle.pct_names.proofs.Names.{◌&&◌, and_right, ap, Bool, Cause, cond, false, has_valid_id, holds_slot, inherited, is_ended_status}
use Rattle.pct_names.proofs.Names.{is_waiting_on, moved, named_after, NamedAction, nat_eq, None, not, Option, refl, replica_of, Some}
use Rattle.pct_names.proofs.Names.{Status, Thread, thread_moved, Transition, true, unblocked, ◌||◌, ℕ, ◌∙◌, ◌≡◌}
use Rattle.pct_model.specs.declared.state.Cause.TheVariants as cause
use Rattle.pct_model.specs.declared.state.Status.TheVariants as status
use Rattle.pct_model.specs.declared.transition.NamedAction.TheVariants as named_action
use Rattle.pct_thread_invariants.proofs.lift.ChangedThreads.{either_keeps}

-- no id names a thread without a slot
names_none : (id : ℕ) (t : Thread) → holds_slot t ≡ false → has_valid_id id t ≡ false
names_none id t none = and_right (nat_eq t.id id) (holds_slot t) none

unblocked_end : (why : Cause) (s : Status) → is_ended_status (unblocked why s) ≡ is_ended_status s
unblocked_end why (status.Waiting c m) = refl
unblocked_end why _ = refl

-- such a thread after an action that names threads
named_holds_none : (a : Option NamedAction) (t : Thread) → holds_slot t ≡ false → holds_slot (named_after a t) ≡ false
unfolding named_after
named_holds_none None t none = none
named_holds_none (Some (named_action.EndJoin id)) t none = ap (λ b. holds_slot (cond b (record t { joined = true }) t)) (names_none id t none) ∙ none
named_holds_none (Some (named_action.Request id)) t none = either_keeps holds_slot (has_valid_id id t && not t.ended) (record t { pending = true }) t t refl refl ∙ none
named_holds_none (Some (named_action.Detach id)) t none = ap (λ b. holds_slot (cond b (record t { detached = true }) t)) (names_none id t none) ∙ none
named_holds_none (Some (named_action.Wake id)) t none = ap (λ b. holds_slot (cond b (record t { status = unblocked cause.Signalled t.status }) t)) (names_none id t none) ∙ none
named_holds_none (Some (named_action.WakeAll c)) t none =
    either_keeps holds_slot (is_waiting_on c t.status) (record t { status = unblocked cause.Broadcast t.status }) t t (ap (λ (b : Bool). not t.gone && not (b && (t.joined || t.detached))) (unblocked_end cause.Broadcast t.status)) refl ∙ none
named_holds_none (Some (named_action.ForgetKey k)) t none = none

-- after a transition of the thread with an id
pub moved_holds_none : (tid : ℕ) (o : Transition) (t : Thread) → holds_slot t ≡ false → holds_slot (thread_moved tid o t) ≡ false
moved_holds_none tid o t none = named_holds_none o.named (cond (has_valid_id tid t) (moved o t) t) (ap (λ b. holds_slot (cond b (moved o t) t)) (names_none tid t none) ∙ none)

-- in the child of its process
pub inherited_holds_none : (tid : ℕ) (t : Thread) → holds_slot t ≡ false → holds_slot (inherited tid t) ≡ false
unfolding inherited
inherited_holds_none tid t none = ap (λ b. holds_slot (cond b (replica_of t) (record t { gone = true }))) (names_none tid t none)
