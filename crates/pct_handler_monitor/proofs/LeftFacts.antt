-- Facts on what is left of open handlers.
use Rattle.std.proofs.Common.{◌≡◌, ℕ, Bool, true, false, ◌&&◌, cond, List, [], ◌∷◌, ◌++◌, Option, Some, None, refl}
use Rattle.std.specs.Prelude.{option_and_then}
use Rattle.pct_laws.specs.Once.{is_pair}
use Rattle.pct_laws.specs.RanAll.{are_same}
use Rattle.pct_handler_monitor.specs.Left.{take_off, left_after}

-- handlers that run later are taken off what is left
pub left_after-append : (ran later handlers : List (ℕ × ℕ)) → left_after (ran ++ later) handlers ≡ option_and_then (left_after later) (left_after ran handlers)
left_after-append [] later handlers = refl
left_after-append (handler ∷ ran) later handlers = by_rest (left_after-append ran later) (take_off handler handlers)
  where
    by_rest : ((older : List (ℕ × ℕ)) → left_after (ran ++ later) older ≡ option_and_then (left_after later) (left_after ran older))
        → (rest : Option (List (ℕ × ℕ))) → option_and_then (left_after (ran ++ later)) rest ≡ option_and_then (left_after later) (option_and_then (left_after ran) rest)
    by_rest each None = refl
    by_rest each (Some older) = each older

-- nothing more runs
pub none_later : (left : Option (List (ℕ × ℕ))) → option_and_then (left_after []) left ≡ left
none_later None = refl
none_later (Some handlers) = refl

-- there is something left of the handlers, and that is nothing
abbrev pub is_all : Option (List (ℕ × ℕ)) → Bool
is_all None = false
is_all (Some []) = true
is_all (Some (handler ∷ handlers)) = false

-- the handlers that ran are those that were open exactly if none is left
pub are_same_left : (ran handlers : List (ℕ × ℕ)) → are_same ran handlers ≡ is_all (left_after ran handlers)
are_same_left [] [] = refl
are_same_left [] (newest ∷ older) = refl
are_same_left (handler ∷ ran) [] = refl
are_same_left (handler ∷ ran) (newest ∷ older) = by_test (are_same_left ran older) (is_pair newest.0 newest.1 handler)
  where
    by_test : are_same ran older ≡ is_all (left_after ran older) → (same : Bool) → (same && are_same ran older) ≡ is_all (option_and_then (left_after ran) (cond same (Some older) None))
    by_test rest true = rest
    by_test rest false = refl
