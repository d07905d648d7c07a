use Rattle.pct_names.proofs.Names.{ap, calls_destructor, Key, no_change, None, Option, option_and_then, sym, ℕ, ◌∙◌, ◌≡◌}
use Rattle.pct_ending_calls.proofs.thread_ends.calls_destructor.Goals as goal

-- a key that was not made has no destructor
not_called : (pass k v : ℕ) (o : Option Key) → o ≡ None → no_change ≡ calls_destructor pass k v (option_and_then (λ key. key.destructor) o)
unfolding calls_destructor
not_called pass k v o none = sym (ap (λ (x : Option Key). calls_destructor pass k v (option_and_then (λ key. key.destructor) x)) none)

pub returns-in-None : goal.returns-in-None
returns-in-None c = λ script t position. c.no_change.ensures ∙ not_called _ _ _ _ c.in-None.ensures.none
