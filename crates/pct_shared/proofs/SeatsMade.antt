-- The seats of a host after a pass was split off, or was taken in, and at the opening.
use Rattle.pct_names.proofs.Names.{◌+◌, ◌++◌, ◌<◌, [], All, All-append, All-cons, All-nil, All-weaker, ap, append_cancel_left, arith, Bool}
use Rattle.pct_names.proofs.Names.{Contains, Contains-append_left, Contains-append_right, Entry, false, false≢true, filter-append}
use Rattle.pct_names.proofs.Names.{get_elem?, inl, inr, length, List, nat_eq, None, none-some, refl, same_Some, set, Some, subst, suc, sym}
use Rattle.pct_names.proofs.Names.{true, zero, ℕ, ℕ_discrete, ◌∙◌, ◌∷◌, ◌≡◌, ◌≢◌, ◌≤◌, ◌⊎◌}
use Rattle.std.proofs.Common.{append-nil, length-set, length-append}
use mathlib.Core.Option as maybe
use Rattle.atomic_table.proofs.Lists.{at_set, at_longer, set_here, set_else}
use Rattle.pct_shared.specs.declared.view.Opening.{Opening}
use Rattle.pct_shared.specs.declared.view.Known.{Known}
use Rattle.pct_shared.specs.declared.view.View.{View}
use Rattle.pct_shared.specs.Views.{IsPrefix, first_view, known_first, new_view, next_view, opened, own, places, places_from, without_next}
use Rattle.pct_shared.specs.TurnRule.{AreSeated, HasSeat, IsKnown, IsOld, IsSeated, IsTakenIn, SeatView, known_count}
use Rattle.pct_shared.proofs.OwnEntries.{places-append, prefix_refl, prefix_trans}
use Rattle.pct_shared.proofs.Agreement.{agrees_first}
use Rattle.pct_shared.proofs.Seats.{IsSamePass, count_of, count_set, known_count-cons, known_kept, no_view_there, old_kept, seats_changed, seat_within, that_view}

-- ---- a worker without entries

pub none_left : (e : Entry) (entries : List Entry) → e ∷ entries ≡ [] → ⊥
none_left e entries same = cc

places_none_by : (number at : ℕ) (e : Entry) (entries : List Entry) (b : Bool) → nat_eq e.worker number ≡ b → own number (e ∷ entries) ≡ [] → (own number entries ≡ [] → places_from number (suc at) entries ≡ []) → places_from number at (e ∷ entries) ≡ []
places_none_by number at e entries true is none more = absurd (none_left e (own number entries) (rw is at none))
places_none_by number at e entries false is none more = rw is (more (rw is at none))

places_none : (number at : ℕ) (entries : List Entry) → own number entries ≡ [] → places_from number at entries ≡ []
places_none number at [] none = refl
places_none number at (e ∷ entries) none = places_none_by number at e entries (nat_eq e.worker number) refl none (places_none number (suc at) entries)

-- a worker that made no entry past the start of a history has none in the rest, and no place there
pub none_past : (number : ℕ) (start history : List Entry) (front : IsPrefix start history) → own number history ≡ own number start → own number front.rest ≡ []
none_past number start history front same =
    let split : own number history ≡ own number start ++ own number front.rest = ap (own number) front.all_is ∙ filter-append (λ (e : Entry). nat_eq e.worker number) start front.rest in
    append_cancel_left (own number start) (own number front.rest) [] (sym split ∙ same ∙ sym (append-nil (own number start)))

pub same_places : (number : ℕ) (start history : List Entry) → IsPrefix start history → own number history ≡ own number start → places number history ≡ places number start
same_places number start history front same =
    ap (places number) front.all_is
    ∙ places-append number 0 start front.rest
    ∙ ap (λ (l : List ℕ). places number start ++ l) (places_none number (0 + length start) front.rest (none_past number start history front same))
    ∙ append-nil (places number start)

-- ---- lists

pub further : {P Q : Type 0} (j n : ℕ) → P ⊎ ((j ≡ n) × Q) → P ⊎ ((suc j ≡ suc n) × Q)
further j n (inl p) = inl p
further j n (inr q) = inr (ap suc q.0, q.1)

-- what is in a list with one item more
pub at_end : {A : Type 0} (l : List A) (a b : A) (j : ℕ) → get_elem? (l ++ a ∷ []) j ≡ maybe.some b → (get_elem? l j ≡ maybe.some b) ⊎ ((j ≡ length l) × (a ≡ b))
at_end [] a b zero e = inr (refl, maybe.some-injective a b e)
at_end [] a b (suc j) e = absurd (maybe.some-ne-none b (sym e))
at_end (x ∷ xs) a b zero e = inl e
at_end (x ∷ xs) a b (suc j) e = further j (length xs) (at_end xs a b j e)

none_made : (n : ℕ) → ¬ (n ≢ 0) → n ≡ 0
none_made zero some = refl
none_made (suc n) some = absurd (some (λ is. omega (arith, is)))

-- ---- the split

module _ (o : Opening) (turn : ℕ) (history : List Entry) (newest : ℕ) (seats : List SeatView) (id : ℕ) (v : View) (before : AreSeated o turn history newest seats) (there : HasSeat seats id (Some v)) where
  -- the pass may not split any more
  pub seats_without : AreSeated o turn history newest (set seats id (Some (without_next v)))
  seats_without =
      let w = without_next v in
      let same : IsSamePass v w = record { opening = refl; number = refl; olds = refl } in
      let mine = before.seated id v there in
      seats_changed seats id v w there same o turn turn history history newest before
      (λ some. absurd (some refl))
      mine.agrees
      mine.holding
      (λ k other agrees. agrees)
      (λ seat u other seated holds. (before.seated seat u seated).holding holds)
      (let longest = before.longest in (longest.0, known_kept seats id v w there same longest.0 refl longest.1, longest.2))
      (λ number other. refl)

  none_by : v.made ≢ 0 → (seat : ℕ) (u : View) → ((seat ≡ id) × (Some (without_next v) ≡ Some u)) ⊎ ((seat ≢ id) × (get_elem? seats seat ≡ maybe.some (Some u))) → u.made ≡ 0
  none_by some seat u (inl (is, view)) = ap (λ (x : View). x.made) (sym (same_Some (without_next v) u view))
  none_by some seat u (inr (other, seated)) = none_made u.made (λ has. other (((before.seated seat u seated).made has).0 ∙ sym ((before.seated id v there).made some).0))

  -- then no pass may
  none_splits : v.made ≢ 0 → (seat : ℕ) (u : View) → HasSeat (set seats id (Some (without_next v))) seat (Some u) → u.made ≡ 0
  none_splits some seat u seated = none_by some seat u (at_set seats id seat (Some (without_next v)) (Some u) seated)

count_more : (seats : List SeatView) (x : SeatView) → known_count (seats ++ x ∷ []) ≡ known_count seats + count_of x
count_more [] x = omega (arith, known_count-cons x [])
count_more (z ∷ seats) x = let more = count_more seats x in omega (arith, known_count-cons z (seats ++ x ∷ []), known_count-cons z seats, more)

-- one pass more
module _ (o : Opening) (turn : ℕ) (history : List Entry) (newest number : ℕ) (seats : List SeatView) (before : AreSeated o turn history newest seats)
    (none : (seat : ℕ) (u : View) → HasSeat seats seat (Some u) → u.made ≡ 0) (next : number ≡ suc (length seats)) (room : number ≤ o.workers) (start : IsPrefix (opened o).history history) where
  abbrev pub more : List SeatView
  more = seats ++ Some (new_view o number) ∷ []

  kept_spent : (seat : ℕ) → HasSeat seats seat None → HasSeat more seat None
  kept_spent seat spent = at_longer seats (Some (new_view o number) ∷ []) seat None spent

  kept_taken : (k : Known) → IsTakenIn seats k → IsTakenIn more k
  kept_taken k taken = record { seat = taken.seat; view = taken.view; seated = at_longer seats (Some (new_view o number) ∷ []) taken.seat (Some taken.view) taken.seated; old = taken.old }

  kept_known : (k : Known) → IsKnown seats k → IsKnown more k
  kept_known k (inl (seat, u, seated, is)) = inl (seat, u, at_longer seats (Some (new_view o number) ∷ []) seat (Some u) seated, is)
  kept_known k (inr taken) = inr (kept_taken k taken)

  seated_new : IsSeated o turn history (length seats) more (length seats) (new_view o number)
  seated_new =
      let same = before.others number (inr (omega (arith, next))) in
      record {
        opening = refl;
        number = next;
        agrees = agrees_first o history number start same (same_places number (opened o).history history start same);
        holding = λ holds. absurd (false≢true holds);
        made = λ some. let longer : length more ≡ length seats + 1 = length-append seats (Some (new_view o number) ∷ []) in (refl, omega (arith, next, longer));
        olds = All-nil (IsOld o history more);
      }

  seated_old : (seat : ℕ) (u : View) → HasSeat seats seat (Some u) → IsSeated o turn history (length seats) more seat u
  seated_old seat u seated =
      let b = before.seated seat u seated in
      record {
        opening = b.opening;
        number = b.number;
        agrees = b.agrees;
        holding = b.holding;
        made = λ some. absurd (some (none seat u seated));
        olds = All-weaker (IsOld o history seats) (IsOld o history more) (λ k old. old_kept o history history seats more k old (λ a. a) kept_spent) u.olds b.olds;
      }

  seated_by : (seat : ℕ) (u : View) → (get_elem? seats seat ≡ maybe.some (Some u)) ⊎ ((seat ≡ length seats) × (Some (new_view o number) ≡ Some u)) → IsSeated o turn history (length seats) more seat u
  seated_by seat u (inl seated) = seated_old seat u seated
  seated_by seat u (inr (is, view)) =
      subst (λ (n : ℕ). IsSeated o turn history (length seats) more n u) (sym is) (subst (λ (x : View). IsSeated o turn history (length seats) more (length seats) x) (same_Some (new_view o number) u view) seated_new)

  spent_by : (seat : ℕ) → (get_elem? seats seat ≡ maybe.some None) ⊎ ((seat ≡ length seats) × (◌≡◌ {A = SeatView} (Some (new_view o number)) None)) → ((k : Known) × IsTakenIn more k × (k.number ≡ suc seat))
  spent_by seat (inl spent) = let taken = before.spent seat spent in (taken.0, kept_taken taken.0 taken.1, taken.2)
  spent_by seat (inr (is, view)) = absurd (none-some (new_view o number) (sym view))

  fewer : (n : ℕ) → length more ≡ length seats + 1 → (n ≡ 0) ⊎ (length more < n) → (n ≡ 0) ⊎ (length seats < n)
  fewer n longer (inl is) = inl is
  fewer n longer (inr far) = inr (omega (arith, far, longer))

  pub seats_more : AreSeated o turn history (length seats) more
  seats_more =
      let longer : length more ≡ length seats + 1 = length-append seats (Some (new_view o number) ∷ []) in
      record {
        seated = λ seat u at. seated_by seat u (at_end seats (Some (new_view o number)) (Some u) seat at);
        spent = λ seat at. spent_by seat (at_end seats (Some (new_view o number)) None seat at);
        once = let counts = count_more seats (Some (new_view o number)) in let once = before.once in omega (arith, counts, longer, once);
        few = omega (arith, longer, next, room);
        longest = let longest = before.longest in (longest.0, kept_known longest.0 longest.1, longest.2);
        others = λ n which. before.others n (fewer n longer which);
      }

-- a pass is split off
pub seats_split : (o : Opening) (turn : ℕ) (history : List Entry) (newest : ℕ) (seats : List SeatView) (id : ℕ) (v : View) → AreSeated o turn history newest seats → HasSeat seats id (Some v) → v.made ≢ 0 → v.made < o.workers
    → AreSeated o turn history (length (set seats id (Some (without_next v)))) (set seats id (Some (without_next v)) ++ Some (next_view v) ∷ [])
seats_split o turn history newest seats id v before there some room =
    let mine = before.seated id v there in
    let number : v.made ≡ length (set seats id (Some (without_next v))) = (mine.made some).1 ∙ sym (length-set seats id (Some (without_next v))) in
    let start = prefix_trans (opened o).history v.known.seen history mine.agrees.start mine.agrees.seen in
    let whole = seats_more o turn history newest (suc v.made) (set seats id (Some (without_next v))) (seats_without o turn history newest seats id v before there) (none_splits o turn history newest seats id v before there some) (ap suc number) room start in
    subst (λ (x : Opening). AreSeated o turn history (length (set seats id (Some (without_next v)))) (set seats id (Some (without_next v)) ++ Some (new_view x (suc v.made)) ∷ [])) (sym mine.opening) whole

-- ---- the join

module _ (o : Opening) (turn : ℕ) (history : List Entry) (newest : ℕ) (seats : List SeatView) (id other : ℕ) (v w : View) (before : AreSeated o turn history newest seats)
    (there : HasSeat seats id (Some v)) (distinct : other ≢ id) (others : HasSeat seats other (Some w)) where
  -- the view of the pass that takes the other in
  abbrev pub both : View
  both = record v { olds = w.known ∷ (w.olds ++ v.olds) }

  abbrev pub seats_first : List SeatView
  seats_first = set seats id (Some both)

  abbrev pub seats_then : List SeatView
  seats_then = set seats_first other None

  same_length : length seats_then ≡ length seats
  same_length = length-set seats_first other None ∙ length-set seats id (Some both)

  other_within : other < length seats_first
  other_within = let l = length-set seats id (Some both) in let within = seat_within seats other (Some w) others in omega (arith, l, within)

  here_both : HasSeat seats_then id (Some both)
  here_both = set_else seats_first other id None (λ is. distinct (sym is)) ∙ set_here seats id (Some both) (seat_within seats id (Some v) there)

  now_spent : HasSeat seats_then other None
  now_spent = set_here seats_first other None other_within

  apart : (seat : ℕ) (x : SeatView) → seat ≢ id → seat ≢ other → HasSeat seats seat x → HasSeat seats_then seat x
  apart seat x not_id not_other at = set_else seats_first other seat None not_other ∙ set_else seats id seat (Some both) not_id ∙ at

  spent_stays : (seat : ℕ) → HasSeat seats seat None → HasSeat seats_then seat None
  spent_stays seat spent =
      apart seat None
      (λ is. no_view_there seats id v there (subst (λ (n : ℕ). HasSeat seats n None) is spent))
      (λ is. no_view_there seats other w others (subst (λ (n : ℕ). HasSeat seats n None) is spent))
      spent

  old_stays : (olds : List Known) → All (IsOld o history seats) olds → All (IsOld o history seats_then) olds
  old_stays olds all = All-weaker (IsOld o history seats) (IsOld o history seats_then) (λ k old. old_kept o history history seats seats_then k old (λ a. a) spent_stays) olds all

  seated_both : IsSeated o turn history newest seats_then id both
  seated_both =
      let b = before.seated id v there in
      let c = before.seated other w others in
      record {
        opening = b.opening;
        number = b.number;
        agrees = b.agrees;
        holding = b.holding;
        made = λ some. let m = b.made some in (m.0, m.1 ∙ sym same_length);
        olds =
            All-cons (IsOld o history seats_then) w.known (w.olds ++ v.olds) (record { agrees = c.agrees; seat = other; number = c.number; spent = now_spent })
            (All-append (IsOld o history seats_then) w.olds v.olds (old_stays w.olds c.olds) (old_stays v.olds b.olds));
      }

  seated_apart : (seat : ℕ) (u : View) → HasSeat seats seat (Some u) → IsSeated o turn history newest seats_then seat u
  seated_apart seat u seated =
      let b = before.seated seat u seated in
      record {
        opening = b.opening;
        number = b.number;
        agrees = b.agrees;
        holding = b.holding;
        made = λ some. let m = b.made some in (m.0, m.1 ∙ sym same_length);
        olds = old_stays u.olds b.olds;
      }

  seated_inner : (seat : ℕ) (u : View) → ((seat ≡ id) × (Some both ≡ Some u)) ⊎ ((seat ≢ id) × (get_elem? seats seat ≡ maybe.some (Some u))) → IsSeated o turn history newest seats_then seat u
  seated_inner seat u (inl (is, view)) =
      subst (λ (n : ℕ). IsSeated o turn history newest seats_then n u) (sym is) (subst (λ (x : View). IsSeated o turn history newest seats_then id x) (same_Some both u view) seated_both)
  seated_inner seat u (inr (apart_from, seated)) = seated_apart seat u seated

  seated_outer : (seat : ℕ) (u : View) → ((seat ≡ other) × (◌≡◌ {A = SeatView} None (Some u))) ⊎ ((seat ≢ other) × (get_elem? seats_first seat ≡ maybe.some (Some u))) → IsSeated o turn history newest seats_then seat u
  seated_outer seat u (inl (is, view)) = absurd (none-some u view)
  seated_outer seat u (inr (apart_from, seated)) = seated_inner seat u (at_set seats id seat (Some both) (Some u) seated)

  taken_by : (k : Known) (taken : IsTakenIn seats k) → Dec (taken.seat ≡ id) → Dec (taken.seat ≡ other) → IsTakenIn seats_then k
  taken_by k taken (yes is) either = record {
    seat = id;
    view = both;
    seated = here_both;
    old = Contains-append_right (w.known ∷ w.olds) v.olds k (subst (λ (u : View). Contains u.olds k) (that_view seats id v there taken.seat taken.view is taken.seated) taken.old);
  }
  taken_by k taken (no not_id) (yes is) = record {
    seat = id;
    view = both;
    seated = here_both;
    old = Contains-append_right (w.known ∷ []) (w.olds ++ v.olds) k (Contains-append_left w.olds v.olds k (subst (λ (u : View). Contains u.olds k) (that_view seats other w others taken.seat taken.view is taken.seated) taken.old));
  }
  taken_by k taken (no not_id) (no not_other) = record { seat = taken.seat; view = taken.view; seated = apart taken.seat (Some taken.view) not_id not_other taken.seated; old = taken.old }

  taken_stays : (k : Known) → IsTakenIn seats k → IsTakenIn seats_then k
  taken_stays k taken = taken_by k taken (ℕ_discrete taken.seat id) (ℕ_discrete taken.seat other)

  -- the other one is taken in
  other_taken : (k : Known) → k ≡ w.known → IsTakenIn seats_then k
  other_taken k is = record { seat = id; view = both; seated = here_both; old = (0, omega arith, sym is) }

  known_by : (k : Known) (seat : ℕ) (u : View) → HasSeat seats seat (Some u) → k ≡ u.known → Dec (seat ≡ id) → Dec (seat ≡ other) → IsKnown seats_then k
  known_by k seat u seated is (yes at) either = inl (id, both, here_both, is ∙ ap (λ (x : View). x.known) (that_view seats id v there seat u at seated))
  known_by k seat u seated is (no not_id) (yes at) = inr (other_taken k (is ∙ ap (λ (x : View). x.known) (that_view seats other w others seat u at seated)))
  known_by k seat u seated is (no not_id) (no not_other) = inl (seat, u, apart seat (Some u) not_id not_other seated, is)

  known_stays : (k : Known) → IsKnown seats k → IsKnown seats_then k
  known_stays k (inl (seat, u, seated, is)) = known_by k seat u seated is (ℕ_discrete seat id) (ℕ_discrete seat other)
  known_stays k (inr taken) = inr (taken_stays k taken)

  spent_inner : (seat : ℕ) → ((seat ≡ id) × (◌≡◌ {A = SeatView} (Some both) None)) ⊎ ((seat ≢ id) × (get_elem? seats seat ≡ maybe.some None)) → ((k : Known) × IsTakenIn seats_then k × (k.number ≡ suc seat))
  spent_inner seat (inl (is, view)) = absurd (none-some both (sym view))
  spent_inner seat (inr (apart_from, spent)) = let taken = before.spent seat spent in (taken.0, taken_stays taken.0 taken.1, taken.2)

  spent_outer : (seat : ℕ) → ((seat ≡ other) × (◌≡◌ {A = SeatView} None None)) ⊎ ((seat ≢ other) × (get_elem? seats_first seat ≡ maybe.some None)) → ((k : Known) × IsTakenIn seats_then k × (k.number ≡ suc seat))
  spent_outer seat (inl (is, view)) = (w.known, other_taken w.known refl, (before.seated other w others).number ∙ ap suc (sym is))
  spent_outer seat (inr (apart_from, spent)) = spent_inner seat (at_set seats id seat (Some both) None spent)

  -- a pass took another in
  pub seats_joined : AreSeated o turn history newest seats_then
  seats_joined = record {
    seated = λ seat u at. seated_outer seat u (at_set seats_first other seat None (Some u) at);
    spent = λ seat at. spent_outer seat (at_set seats_first other seat None None at);
    once =
        let first = count_set seats id (Some v) (Some both) there in
        let still : HasSeat seats_first other (Some w) = set_else seats id other (Some both) distinct ∙ others in
        let second = count_set seats_first other (Some w) None still in
        let lengths : length both.olds ≡ suc (length w.olds + length v.olds) = ap suc (length-append w.olds v.olds) in
        let once = before.once in
        let same = same_length in
        omega (arith, first, second, lengths, once, same);
    few = subst (λ (n : ℕ). n ≤ o.workers) (sym same_length) before.few;
    longest = let longest = before.longest in (longest.0, known_stays longest.0 longest.1, longest.2);
    others = λ n which. before.others n (subst (λ (m : ℕ). (n ≡ 0) ⊎ (m < n)) same_length which);
  }

-- ---- the opening

first_seat : (o : Opening) (seat : ℕ) (u : View) → HasSeat (Some (first_view o) ∷ []) seat (Some u) → (seat ≡ 0) × (first_view o ≡ u)
first_seat o zero u at = (refl, same_Some (first_view o) u (maybe.some-injective (Some (first_view o)) (Some u) at))
first_seat o (suc seat) u at = absurd (maybe.some-ne-none (Some u) (sym at))

first_none : (o : Opening) (seat : ℕ) → HasSeat (Some (first_view o) ∷ []) seat None → ⊥
first_none o zero at = none-some (first_view o) (sym (maybe.some-injective (Some (first_view o)) None at))
first_none o (suc seat) at = maybe.some-ne-none None (sym at)

seated_first : (o : Opening) → IsSeated o 0 (opened o).history 0 (Some (first_view o) ∷ []) 0 (first_view o)
seated_first o = record {
  opening = refl;
  number = refl;
  agrees = agrees_first o (opened o).history 1 (prefix_refl (opened o).history) refl refl;
  holding = λ holds. absurd (false≢true holds);
  made = λ some. (refl, refl);
  olds = All-nil (IsOld o (opened o).history (Some (first_view o) ∷ []));
}

pub seats_opened : (o : Opening) → 0 < o.workers → AreSeated o 0 (opened o).history 0 (Some (first_view o) ∷ [])
seats_opened o some = record {
  seated = λ seat u at. let is = first_seat o seat u at in subst (λ (n : ℕ). IsSeated o 0 (opened o).history 0 (Some (first_view o) ∷ []) n u) (sym is.0) (subst (λ (x : View). IsSeated o 0 (opened o).history 0 (Some (first_view o) ∷ []) 0 x) is.1 (seated_first o));
  spent = λ seat at. absurd (first_none o seat at);
  once = refl;
  few = some;
  longest = (known_first o 1, inl (0, first_view o, refl, refl), refl);
  others = λ n which. refl;
}
