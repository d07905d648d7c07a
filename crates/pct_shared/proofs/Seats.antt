-- The seats of a host after a step of one pass.
use Rattle.pct_names.proofs.Names.{◌+◌, ◌<◌, [], All, All-weaker, ap, arith, Contains, Entry, get_elem?, inl, inr, length, List, None}
use Rattle.pct_names.proofs.Names.{none-some, refl, same_Some, set, Some, subst, suc, sym, true, zero, ℕ, ℕ_discrete, ◌∙◌, ◌∷◌, ◌≡◌, ◌≢◌}
use Rattle.pct_names.proofs.Names.{◌≤◌, ◌⊎◌}
use Rattle.std.proofs.Common.{length-set}
use Rattle.std.proofs.Math.Nat.{zero-add}
use mathlib.Core.Option as maybe
use Rattle.atomic_table.specs.Table.{Me}
use Rattle.atomic_table.proofs.Lists.{at_set, set_here, set_else}
use Rattle.pct_shared.specs.declared.view.Opening.{Opening}
use Rattle.pct_shared.specs.declared.view.Known.{Known}
use Rattle.pct_shared.specs.declared.view.View.{View}
use Rattle.pct_shared.specs.Views.{own}
use Rattle.pct_shared.specs.TurnRule.{Agrees, AreSeated, HasSeat, IsKnown, IsOld, IsSeated, IsTakenIn, SeatView, Slot, known_count}

-- ---- seats

-- a seat with this view and these slots
abbrev pub seat_with : SeatView → List (ℕ × Slot) → Me Slot SeatView
seat_with view slots = (view, slots)

-- a seat is within the list
pub seat_within : {A : Type 0} (xs : List A) (i : ℕ) (x : A) → get_elem? xs i ≡ maybe.some x → i < length xs
seat_within [] i x is = absurd (maybe.some-ne-none x (sym is))
seat_within (y ∷ xs) zero x is = omega arith
seat_within (y ∷ xs) (suc i) x is = let more = seat_within xs i x is in omega arith

-- what is on a seat is one view
pub one_view : {A : Type 0} (o : maybe.Option A) (x y : A) → o ≡ maybe.some x → o ≡ maybe.some y → x ≡ y
one_view o x y is other = maybe.some-injective x y (sym is ∙ other)

pub that_view : (seats : List SeatView) (id : ℕ) (v : View) → HasSeat seats id (Some v) → (seat : ℕ) (u : View) → seat ≡ id → HasSeat seats seat (Some u) → u ≡ v
that_view seats id v there seat u is seated = same_Some u v (one_view (get_elem? seats id) (Some u) (Some v) (subst (λ (n : ℕ). HasSeat seats n (Some u)) is seated) there)

pub no_view_there : (seats : List SeatView) (seat : ℕ) (v : View) → HasSeat seats seat (Some v) → HasSeat seats seat None → ⊥
no_view_there seats seat v there spent = none-some v (one_view (get_elem? seats seat) None (Some v) spent there)

-- a seat keeps its view while another one changes
seat_kept : (seats : List SeatView) (id seat : ℕ) (x y : SeatView) → seat ≢ id → HasSeat seats seat y → HasSeat (set seats id x) seat y
seat_kept seats id seat x y other there = set_else seats id seat x other ∙ there

-- a spent seat stays spent where a pass's view changes
spent_kept : (seats : List SeatView) (id seat : ℕ) (v : View) (x : SeatView) → HasSeat seats id (Some v) → HasSeat seats seat None → HasSeat (set seats id x) seat None
spent_kept seats id seat v x there spent =
    seat_kept seats id seat x None (λ same. no_view_there seats id v there (subst (λ (n : ℕ). HasSeat seats n None) same spent)) spent

-- ---- what was known to those that were taken in

pub old_kept : (o : Opening) (history after : List Entry) (seats then : List SeatView) (k : Known) → IsOld o history seats k
    → (Agrees o history k → Agrees o after k) → ((seat : ℕ) → HasSeat seats seat None → HasSeat then seat None) → IsOld o after then k
old_kept o history after seats then k old grows kept = record { agrees = grows old.agrees; seat = old.seat; number = old.number; spent = kept old.seat old.spent }

-- the number of one that was taken in is not that of a pass
old_number : (o : Opening) (history : List Entry) (seats : List SeatView) (k : Known) (id : ℕ) (v : View) → IsOld o history seats k → HasSeat seats id (Some v) → k.number ≢ suc id
old_number o history seats k id v old there same =
    no_view_there seats id v there (subst (λ (n : ℕ). HasSeat seats n None) (omega (arith, old.number, same)) old.spent)

-- ---- the count of the workers that are known

-- those that one pass knows of
abbrev pub count_of : SeatView → ℕ
count_of (Some v) = suc (length v.olds)
count_of None = 0

pub known_count-cons : (x : SeatView) (seats : List SeatView) → known_count (x ∷ seats) ≡ count_of x + known_count seats
known_count-cons (Some v) seats = refl
known_count-cons None seats = sym (zero-add (known_count seats))

pub count_set : (seats : List SeatView) (i : ℕ) (x y : SeatView) → HasSeat seats i x → known_count (set seats i y) + count_of x ≡ known_count seats + count_of y
count_set [] i x y there = absurd (maybe.some-ne-none x (sym there))
count_set (z ∷ seats) zero x y there =
    let same : count_of z ≡ count_of x = ap count_of (maybe.some-injective z x there) in
    omega (arith, known_count-cons y seats, known_count-cons z seats, same)
count_set (z ∷ seats) (suc i) x y there =
    let more = count_set seats i x y there in
    omega (arith, known_count-cons z seats, known_count-cons z (set seats i y), more)

-- ---- a change of one view

-- what is the same in the views of a pass before and after a step
pub record IsSamePass (v w : View) : Type 0 where
  pub opening : w.opening ≡ v.opening
  pub number : w.known.number ≡ v.known.number
  pub olds : w.olds ≡ v.olds

module _ (seats : List SeatView) (id : ℕ) (v w : View) (there : HasSeat seats id (Some v)) (same : IsSamePass v w) where
  abbrev pub then : List SeatView
  then = set seats id (Some w)

  -- the pass itself
  pub here : HasSeat then id (Some w)
  here = set_here seats id (Some w) (seat_within seats id (Some v) there)

  taken_by : (k : Known) (taken : IsTakenIn seats k) → Dec (taken.seat ≡ id) → IsTakenIn then k
  taken_by k taken (yes is) = record {
    seat = id;
    view = w;
    seated = here;
    old = subst (λ (l : List Known). Contains l k) (ap (λ (u : View). u.olds) (that_view seats id v there taken.seat taken.view is taken.seated) ∙ sym same.olds) taken.old;
  }
  taken_by k taken (no other) = record { seat = taken.seat; view = taken.view; seated = seat_kept seats id taken.seat (Some w) (Some taken.view) other taken.seated; old = taken.old }

  -- one that was taken in was so by a pass whose view may change
  taken_kept : (k : Known) → IsTakenIn seats k → IsTakenIn then k
  taken_kept k taken = taken_by k taken (ℕ_discrete taken.seat id)

  -- what a pass or one that was taken in knows goes on to be known where the pass knows the same
  known_by : (k : Known) (seat : ℕ) (u : View) → w.known ≡ v.known → HasSeat seats seat (Some u) → k ≡ u.known → Dec (seat ≡ id) → IsKnown then k
  known_by k seat u knows seated is (yes at) = inl (id, w, here, is ∙ ap (λ (x : View). x.known) (that_view seats id v there seat u at seated) ∙ sym knows)
  known_by k seat u knows seated is (no other) = inl (seat, u, seat_kept seats id seat (Some w) (Some u) other seated, is)

  pub known_kept : (k : Known) → w.known ≡ v.known → IsKnown seats k → IsKnown then k
  known_kept k knows (inl (seat, u, seated, is)) = known_by k seat u knows seated is (ℕ_discrete seat id)
  known_kept k knows (inr taken) = inr (taken_kept k taken)

  module _ (o : Opening) (turn now : ℕ) (history after : List Entry) (newest : ℕ) (before : AreSeated o turn history newest seats)
      (made : w.made ≢ 0 → (id ≡ newest) × (w.made ≡ length seats))
      (agrees : Agrees o after w.known)
      (holds : w.holding ≡ true → (now ≡ w.known.number) × (w.known.seen ≡ after))
      (grows : (k : Known) → k.number ≢ v.known.number → Agrees o history k → Agrees o after k)
      (quiet : (seat : ℕ) (u : View) → seat ≢ id → HasSeat seats seat (Some u) → u.holding ≡ true → (now ≡ u.known.number) × (u.known.seen ≡ after))
      (longest : ((k : Known) × IsKnown then k × (k.seen ≡ after)))
      (others : (number : ℕ) → number ≢ v.known.number → own number after ≡ own number history) where
    olds_kept : (olds : List Known) → All (IsOld o history seats) olds → All (IsOld o after then) olds
    olds_kept olds all =
        All-weaker (IsOld o history seats) (IsOld o after then)
        (λ k old. old_kept o history after seats then k old
        (grows k (λ is. old_number o history seats k id v old there (is ∙ (before.seated id v there).number)))
        (λ seat spent. spent_kept seats id seat v (Some w) there spent))
        olds all

    seated_here : IsSeated o now after newest then id w
    seated_here =
        let b = before.seated id v there in
        record {
          opening = same.opening ∙ b.opening;
          number = same.number ∙ b.number;
          agrees = agrees;
          holding = holds;
          made = λ some. let m = made some in (m.0, m.1 ∙ sym (length-set seats id (Some w)));
          olds = subst (λ (l : List Known). All (IsOld o after then) l) (sym same.olds) (olds_kept v.olds b.olds);
        }

    seated_other : (seat : ℕ) (u : View) → seat ≢ id → HasSeat seats seat (Some u) → IsSeated o now after newest then seat u
    seated_other seat u other seated =
        let b = before.seated seat u seated in
        let mine = (before.seated id v there).number in
        record {
          opening = b.opening;
          number = b.number;
          agrees = grows u.known (λ is. other (omega (arith, is, b.number, mine))) b.agrees;
          holding = quiet seat u other seated;
          made = λ some. let m = b.made some in (m.0, m.1 ∙ sym (length-set seats id (Some w)));
          olds = olds_kept u.olds b.olds;
        }

    seated_by : (seat : ℕ) (u : View) → ((seat ≡ id) × (Some w ≡ Some u)) ⊎ ((seat ≢ id) × (get_elem? seats seat ≡ maybe.some (Some u))) → IsSeated o now after newest then seat u
    seated_by seat u (inl (is, view)) =
        subst (λ (n : ℕ). IsSeated o now after newest then n u) (sym is) (subst (λ (x : View). IsSeated o now after newest then id x) (same_Some w u view) seated_here)
    seated_by seat u (inr (other, seated)) = seated_other seat u other seated

    spent_by : (seat : ℕ) → ((seat ≡ id) × (◌≡◌ {A = SeatView} (Some w) None)) ⊎ ((seat ≢ id) × (get_elem? seats seat ≡ maybe.some None)) → ((k : Known) × IsTakenIn then k × (k.number ≡ suc seat))
    spent_by seat (inl (is, view)) = absurd (none-some w (sym view))
    spent_by seat (inr (other, spent)) = let taken = before.spent seat spent in (taken.0, taken_kept taken.0 taken.1, taken.2)

    -- a number that no pass has is not that of this one
    not_mine : (number : ℕ) → (number ≡ 0) ⊎ (length seats < number) → number ≢ v.known.number
    not_mine number (inl none) is = let mine = (before.seated id v there).number in omega (arith, none, is, mine)
    not_mine number (inr far) is = let mine = (before.seated id v there).number in let within = seat_within seats id (Some v) there in omega (arith, far, is, mine, within)

    -- the view of one pass changed, and its own entries were added to the history
    pub seats_changed : AreSeated o now after newest then
    seats_changed = record {
      seated = λ seat u at. seated_by seat u (at_set seats id seat (Some w) (Some u) at);
      spent = λ seat at. spent_by seat (at_set seats id seat (Some w) None at);
      once =
          let counts = count_set seats id (Some v) (Some w) there in
          let olds_same : length w.olds ≡ length v.olds = ap (λ (l : List Known). length l) same.olds in
          let lengths = length-set seats id (Some w) in
          let once = before.once in
          omega (arith, counts, olds_same, lengths, once);
      few = subst (λ (n : ℕ). n ≤ o.workers) (sym (length-set seats id (Some w))) before.few;
      longest = longest;
      others = λ number which.
          let far : (number ≡ 0) ⊎ (length seats < number) = subst (λ (n : ℕ). (number ≡ 0) ⊎ (n < number)) (length-set seats id (Some w)) which in
          others number (not_mine number far) ∙ before.others number far;
    }
