-- Whether the handlers that ran are those that were open, by what is kept of a thread.
use Rattle.std.proofs.Common.{◌≡◌, ℕ, Bool, false, ◌&&◌, List, [], ◌∷◌, length, Option, Some, None, refl, sym, ap, ◌∙◌, arith, nat_eq}
use Rattle.std.specs.Prelude.{option_map}
use Rattle.std.proofs.lemmas.Bool.{ne_eqb}
use Rattle.pct_model.specs.declared.event.Event.{Event}
use Rattle.pct_laws.specs.RanAll.{has_begun, are_same, handlers_run, open_at_ending}
use Rattle.pct_audit.specs.Stacks.{stack_at}
use Rattle.pct_handler_monitor.specs.declared.ran.RanHandlers.{RanHandlers}
use Rattle.pct_handler_monitor.specs.declared.ran.RanHandlers.TheVariants.{BeforeEnd, Ending}
use Rattle.pct_handler_monitor.specs.IsRan.{IsRan}
use Rattle.pct_handler_monitor.proofs.LeftFacts.{is_all, are_same_left}

abbrev Stack : Type 0
Stack = List (ℕ × ℕ)

-- the thread has begun to end, and nothing is left
abbrev pub has_none_left : RanHandlers → List Stack → Bool
has_none_left (BeforeEnd ran) pushed = false
has_none_left (Ending None) pushed = false
has_none_left (Ending (Some left)) pushed = nat_eq (length (stack_at pushed left)) 0

is_all-stack : (stack : Stack) → is_all (Some stack) ≡ nat_eq (length stack) 0
is_all-stack [] = refl
is_all-stack (handler ∷ stack) = sym (ne_eqb (length (handler ∷ stack)) 0 (λ none. omega (arith, none)))

is_all-left : (left : Option ℕ) (pushed : List Stack) → is_all (option_map (stack_at pushed) left) ≡ has_none_left (Ending left) pushed
is_all-left None pushed = refl
is_all-left (Some left) pushed = is_all-stack (stack_at pushed left)

-- what the law asks of the end of a thread
pub end_told : (thread : RanHandlers) (ran pushed : List Stack) (pid tid : ℕ) (events : List Event) → IsRan thread ran pushed pid tid events
    → has_none_left thread pushed ≡ (has_begun pid tid events && are_same (handlers_run pid tid events) (open_at_ending pid tid events))
end_told (BeforeEnd number) ran pushed pid tid events is = sym (ap (λ (begun : Bool). begun && are_same (handlers_run pid tid events) (open_at_ending pid tid events)) is.begun)
end_told (Ending left) ran pushed pid tid events is =
    sym (is_all-left left pushed) ∙ ap is_all is.handlers ∙ sym (are_same_left (handlers_run pid tid events) (open_at_ending pid tid events))
    ∙ sym (ap (λ (begun : Bool). begun && are_same (handlers_run pid tid events) (open_at_ending pid tid events)) is.begun)
