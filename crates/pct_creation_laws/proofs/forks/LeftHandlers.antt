-- The fork handler that is called next is the first of those that are left to call.
use Rattle.pct_names.proofs.Names.{[], add-one, ap, arith, calls, cons_option, drop, filter_map, ForkAt, ForkHandlers, HandlerCall}
use Rattle.pct_names.proofs.Names.{length, List, next_handler, None, none-some, Option, option_and_then, option_map, Parent, Phase}
use Rattle.pct_names.proofs.Names.{Prepare, range_with_len, refl, reverse, reverse-append, same_Some, slice_get, Some, subst, subst₂}
use Rattle.pct_names.proofs.Names.{suc, sym, take, while_called, zero, ℕ, ◌++◌, ◌+◌, ◌-◌, ◌<◌, ◌∙◌, ◌∷◌, ◌≡◌, ◌≤◌}
use Rattle.std.specs.Option.{option_to_list}
use Rattle.pct_model.specs.declared.state.Phase.TheVariants as phase
use Rattle.pct_model.specs.ForkCalls.{handler_at, handler_for, handlers_among}
use Rattle.pct_laws.specs.ForkLaw.{left_in, left_to_call}

-- ---- lists

-- the first items of a list, one more than a number
take_next : {A : Type 0} (xs : List A) (n : ℕ) → take (suc n) xs ≡ take n xs ++ option_to_list (slice_get xs n)
take_next [] zero = refl
take_next [] (suc n) = refl
take_next (x ∷ xs) zero = refl
take_next (x ∷ xs) (suc n) = ap (λ rest. x ∷ rest) (take_next xs n)

-- the items of a list from a number on
drop_next : {A : Type 0} (xs : List A) (n : ℕ) → drop n xs ≡ option_to_list (slice_get xs n) ++ drop (suc n) xs
drop_next [] zero = refl
drop_next [] (suc n) = refl
drop_next (x ∷ xs) zero = refl
drop_next (x ∷ xs) (suc n) = drop_next xs n

-- an item among the first ones
get_in_take : {A : Type 0} (xs : List A) (count n : ℕ) → n < count → slice_get (take count xs) n ≡ slice_get xs n
get_in_take xs zero n low = absurd (omega (arith, low))
get_in_take [] (suc count) n low = refl
get_in_take (x ∷ xs) (suc count) zero low = refl
get_in_take (x ∷ xs) (suc count) (suc n) low = get_in_take xs count n (omega (arith, low))

-- no item is after the first ones
none_after : {A : Type 0} (xs : List A) (count n : ℕ) → count ≤ n → drop n (take count xs) ≡ []
none_after xs zero zero past = refl
none_after xs zero (suc n) past = refl
none_after [] (suc count) zero past = refl
none_after [] (suc count) (suc n) past = refl
none_after (x ∷ xs) (suc count) zero past = absurd (omega (arith, past))
none_after (x ∷ xs) (suc count) (suc n) past = none_after xs count n (omega (arith, past))

-- numbers in order, and one more
range_more : (a n : ℕ) → range_with_len a (suc n) ≡ range_with_len a n ++ (a + n) ∷ []
range_more a zero = ap (λ (k : ℕ). k ∷ []) (let same : a ≡ a + 0 = omega arith in same)
range_more a (suc n) =
    ap (λ (ks : List ℕ). a ∷ ks) (range_more (a + 1) n)
    ∙ ap (λ (k : ℕ). a ∷ (range_with_len (a + 1) n ++ k ∷ [])) (let same : a + 1 + n ≡ a + suc n = omega arith in same)

range_from_0 : (n : ℕ) → range_with_len 0 (suc n) ≡ range_with_len 0 n ++ n ∷ []
range_from_0 n = range_more 0 n ∙ ap (λ (k : ℕ). range_with_len 0 n ++ k ∷ []) (let same : 0 + n ≡ n = omega arith in same)

module _ {A : Type 0} (h : A → Option ℕ) where
  -- what is made of an item that may be there, and of others
  made_of : (o : Option A) (xs : List A) → filter_map h (option_to_list o ++ xs) ≡ option_to_list (option_and_then h o) ++ filter_map h xs
  made_of None xs = refl
  made_of (Some x) xs = by_value (h x)
    where
      by_value : (v : Option ℕ) → cons_option v (filter_map h xs) ≡ option_to_list v ++ filter_map h xs
      by_value None = refl
      by_value (Some n) = refl

  -- the same, of the item after others that are reversed
  made_last : (xs : List A) (o : Option A) → filter_map h (reverse (xs ++ option_to_list o)) ≡ option_to_list (option_and_then h o) ++ filter_map h (reverse xs)
  made_last xs None = ap (filter_map h) (reverse-append xs [])
  made_last xs (Some x) = ap (filter_map h) (reverse-append xs (x ∷ [])) ∙ made_of (Some x) (reverse xs)

-- ---- the next handler

-- the handlers that are left, by the call that is next: `rest` has those that are left after the call of the one with an index
data Next (rest : ℕ → List ℕ) (left : List ℕ) : Option HandlerCall → Type 0 where
  next_none : left ≡ [] → Next rest left None
  next_is : (call : HandlerCall) → left ≡ call.func ∷ rest call.index → Next rest left (Some call)

-- a registration comes first, which may have a handler
next_by : (rest : ℕ → List ℕ) (i : ℕ) (o : Option ℕ) (left : List ℕ) (calls more : List HandlerCall) → left ≡ option_to_list o ++ rest i
    → calls ≡ option_to_list (option_map (λ f. record { index = i; func = f }) o) ++ more → Next rest (rest i) (slice_get more 0) → Next rest left (slice_get calls 0)
next_by rest i None left calls more is are next = subst₂ (λ (these : List ℕ) (cs : List HandlerCall). Next rest these (slice_get cs 0)) (sym is) (sym are) next
next_by rest i (Some f) left calls more is are next =
    subst₂ (λ (these : List ℕ) (cs : List HandlerCall). Next rest these (slice_get cs 0)) (sym is) (sym are) (next_is (record { index = i; func = f }) refl)

module _ (registered : List ForkHandlers) where
  -- before the fork
  abbrev before : ℕ → List ℕ
  before n = left_in registered phase.Prepare n 0

  next_before : (n : ℕ) → Next before (before n) (slice_get (handlers_among phase.Prepare registered (reverse (range_with_len 0 n))) 0)
  next_before zero = next_none refl
  next_before (suc n) =
      next_by before n (handler_at phase.Prepare registered n) (before (suc n)) (handlers_among phase.Prepare registered (reverse (range_with_len 0 (suc n)))) (handlers_among phase.Prepare registered (reverse (range_with_len 0 n)))
      (ap (λ (hs : List ForkHandlers). filter_map (handler_for phase.Prepare) (reverse hs)) (take_next registered n) ∙ made_last (handler_for phase.Prepare) (take n registered) (slice_get registered n))
      (ap (λ (ks : List ℕ). handlers_among phase.Prepare registered (reverse ks)) (range_from_0 n) ∙ ap (handlers_among phase.Prepare registered) (reverse-append (range_with_len 0 n) (n ∷ [])))
      (next_before n)

  module _ (at : Phase) (count : ℕ) where
    -- after it
    abbrev after : ℕ → List ℕ
    after n = filter_map (handler_for at) (drop n (take count registered))

    next_after : (k n : ℕ) → count - n ≡ k → Next (λ i. after (suc i)) (after n) (slice_get (handlers_among at registered (range_with_len n k)) 0)
    next_after zero n is = next_none (ap (filter_map (handler_for at)) (none_after registered count n (omega (arith, is))))
    next_after (suc k) n is =
        let low : n < count = omega (arith, is) in
        next_by (λ i. after (suc i)) n (handler_at at registered n) (after n) (handlers_among at registered (range_with_len n (suc k))) (handlers_among at registered (range_with_len (n + 1) k))
        (ap (filter_map (handler_for at)) (drop_next (take count registered) n)
        ∙ made_of (handler_for at) (slice_get (take count registered) n) (drop (suc n) (take count registered))
        ∙ ap (λ (o : Option ForkHandlers). option_to_list (option_and_then (handler_for at) o) ++ after (suc n)) (get_in_take registered count n low))
        refl
        (subst (λ (m : ℕ). Next (λ i. after (suc i)) (after m) (slice_get (handlers_among at registered (range_with_len (n + 1) k)) 0)) (add-one n) (next_after k (n + 1) (omega (arith, is))))

  -- the handlers that a fork has left to call, by the next one
  pub data Left (at : ForkAt) : Option HandlerCall → Type 0 where
    none_left : left_to_call registered at ≡ [] → Left at None
    first_left : (call : HandlerCall) → left_to_call registered at ≡ call.func ∷ left_to_call registered (while_called at call.index) → Left at (Some call)

  left_by : (at : ForkAt) (rest : ℕ → List ℕ) → ((i : ℕ) → rest i ≡ left_to_call registered (while_called at i)) → {next : Option HandlerCall} → Next rest (left_to_call registered at) next → Left at next
  left_by at rest same (next_none none) = none_left none
  left_by at rest same (next_is call is) = first_left call (is ∙ ap (λ (fs : List ℕ). call.func ∷ fs) (same call.index))

  left_in_phase : (at : Phase) (next length answer : ℕ) → Left (record { phase = at; next = next; length = length; answer = answer }) (next_handler registered (record { phase = at; next = next; length = length; answer = answer }))
  unfolding next_handler
  left_in_phase phase.Prepare next length answer = left_by (record { phase = phase.Prepare; next = next; length = length; answer = answer }) before (λ i. refl) (next_before next)
  left_in_phase phase.Parent next length answer =
      left_by (record { phase = phase.Parent; next = next; length = length; answer = answer }) (λ i. after phase.Parent length (suc i)) (λ i. refl) (next_after phase.Parent length (length - next) next refl)
  left_in_phase phase.Child next length answer =
      left_by (record { phase = phase.Child; next = next; length = length; answer = answer }) (λ i. after phase.Child length (suc i)) (λ i. refl) (next_after phase.Child length (length - next) next refl)

  pub left_of_fork : (at : ForkAt) → Left at (next_handler registered at)
  left_of_fork at = left_in_phase at.phase at.next at.length at.answer

  pub none_is_left : (at : ForkAt) → next_handler registered at ≡ None → left_to_call registered at ≡ []
  none_is_left at none = by_next (left_of_fork at) none
    where
      by_next : {next : Option HandlerCall} → Left at next → next ≡ None → left_to_call registered at ≡ []
      by_next (none_left is) none = is
      by_next (first_left call is) some = absurd (none-some call (sym some))

  pub first_is_left : (at : ForkAt) (call : HandlerCall) → next_handler registered at ≡ Some call → left_to_call registered at ≡ call.func ∷ left_to_call registered (while_called at call.index)
  first_is_left at call is = by_next (left_of_fork at) is
    where
      by_next : {next : Option HandlerCall} → Left at next → next ≡ Some call → left_to_call registered at ≡ call.func ∷ left_to_call registered (while_called at call.index)
      by_next (none_left none) some = absurd (none-some call some)
      by_next (first_left c is) some = subst (λ (x : HandlerCall). left_to_call registered at ≡ x.func ∷ left_to_call registered (while_called at x.index)) (same_Some c call some) is
