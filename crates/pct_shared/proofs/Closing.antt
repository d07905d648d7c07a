-- A host whose passes are all taken in by one: nobody has the turn, and the engine has made the run of the longest history.
use Rattle.pct_names.proofs.Names.{◌++◌, ◌<◌, [], All, All-cons, All-contains, All-nil, ap, arith, Bool, Box, cond, Contains, dec_le, Entry}
use Rattle.pct_names.proofs.Names.{false, false≢true, get_elem?, get_or, inl, inr, length, List, map, nat_eq, None, none-some, refl}
use Rattle.pct_names.proofs.Names.{same_Some, slice_get, slice_get-get_or, slice_get_within, Some, subst, suc, sym, true, zero, ℕ}
use Rattle.pct_names.proofs.Names.{ℕ_discrete, ◌∙◌, ◌∷◌, ◌≡◌, ◌≤◌, ◌⊎◌}
use Rattle.std.proofs.Common.{append-nil, eq-eqb}
use mathlib.Core.Option as maybe
use Rattle.atomic_table.specs.Seated.{TableId}
use Rattle.atomic_table.specs.Table.{Me, State, Final, Seen}
use Rattle.pct_engine.specs.EngineStates.{EngineValue}
use Rattle.pct_scheduled_run.proofs.ContinuedRuns.{get_seam, get_front}
use Rattle.pct_shared.specs.declared.view.Known.{Known}
use Rattle.pct_shared.specs.declared.view.Opening.{Opening}
use Rattle.pct_shared.specs.declared.view.View.{View}
use Rattle.pct_shared.specs.declared.worker.Worker.{Worker}
use Rattle.pct_shared.specs.Hosts.{AreAllWorkers, IsClosing, IsWorkerOf}
use Rattle.pct_shared.specs.Passes.{SharedValue}
use Rattle.pct_shared.specs.TurnRule.{Agrees, HasSeat, IsHome, IsKnown, IsOld, KeepsTurn, SeatView, Slot}
use Rattle.pct_shared.specs.TurnSteps.{IsSeatOf}
use Rattle.pct_shared.specs.Views.{engine_after, opened, own}
use Rattle.pct_shared.proofs.NewWorkers.{at_front_or_end}
use Rattle.pct_shared.proofs.OwnEntries.{prefix_trans}
use Rattle.pct_shared.proofs.SeatsMade.{none_left, none_past}
use Rattle.pct_shared.proofs.Seats.{no_view_there, one_view, seat_within, that_view}

-- ---- lists

-- what is in a list of images
contains_map : {A B : Type 0} (f : A → B) (xs : List A) (y : B) → Contains (map f xs) y → (i : ℕ) × (x : A) × (slice_get xs i ≡ Some x) × (f x ≡ y)
contains_map f [] y (k, within, is) = absurd (omega (arith, within))
contains_map f (x ∷ xs) y (zero, within, is) = (0, x, refl, is)
contains_map f (x ∷ xs) y (suc k, within, is) = let r = contains_map f xs y (k, omega (arith, within), is) in (suc r.0, r.1, r.2, r.3)

map_contains : {A B : Type 0} (f : A → B) (xs : List A) (i : ℕ) (x : A) → slice_get xs i ≡ Some x → Contains (map f xs) (f x)
map_contains f [] i x is = absurd (none-some x is)
map_contains f (y ∷ xs) zero x is = (0, omega arith, ap f (same_Some y x is))
map_contains f (y ∷ xs) (suc i) x is = let r = map_contains f xs i x is in (suc r.0, omega (arith, r.1), r.2)

-- ---- the numbers of entries

own_first : (number : ℕ) (e : Entry) (entries : List Entry) (b : Bool) → nat_eq e.worker number ≡ b → own number (e ∷ entries) ≡ cond b (e ∷ own number entries) (own number entries)
own_first number e entries true is = rw is refl
own_first number e entries false is = rw is refl

none_left_by : (number : ℕ) (e : Entry) (entries : List Entry) (b : Bool) → nat_eq e.worker number ≡ b → own number (e ∷ entries) ≡ [] → own number entries ≡ []
none_left_by number e entries true is none = absurd (none_left e (own number entries) (sym (own_first number e entries true is) ∙ none))
none_left_by number e entries false is none = sym (own_first number e entries false is) ∙ none

-- the number of a worker
abbrev IsNumber : ℕ → ℕ → Type 0
IsNumber workers n = (0 < n) × (n ≤ workers)

number_by : (workers : ℕ) (e : Entry) (entries : List Entry) → ((n : ℕ) → (n ≡ 0) ⊎ (workers < n) → own n (e ∷ entries) ≡ []) → Dec (e.worker ≡ 0) → Dec (e.worker ≤ workers) → IsNumber workers e.worker
number_by workers e entries none (yes zero_is) within = absurd (none_left e (own e.worker entries) (sym (own_first e.worker e entries true (eq-eqb e.worker e.worker refl)) ∙ none e.worker (inl zero_is)))
number_by workers e entries none (no some) (yes within) = (omega (arith, some), within)
number_by workers e entries none (no some) (no far) = absurd (none_left e (own e.worker entries) (sym (own_first e.worker e entries true (eq-eqb e.worker e.worker refl)) ∙ none e.worker (inr (omega (arith, far)))))

-- where nobody else has an entry, each has the number of a worker
numbers_of : (workers : ℕ) (entries : List Entry) → ((n : ℕ) → (n ≡ 0) ⊎ (workers < n) → own n entries ≡ []) → All (λ e. IsNumber workers e.worker) entries
numbers_of workers [] none = All-nil (λ e. IsNumber workers e.worker)
numbers_of workers (e ∷ entries) none =
    All-cons (λ x. IsNumber workers x.worker) e entries
    (number_by workers e entries none (ℕ_discrete e.worker 0) (dec_le e.worker workers))
    (numbers_of workers entries (λ n which. none_left_by n e entries (nat_eq e.worker n) refl (none n which)))

-- ---- one pass is left

abbrev pub known_of : Worker → Known
known_of w = w.pass.view.known

module _ (o : Opening) (s : State Slot SeatView) (holds : KeepsTurn o s) (id : ℕ) (v : View) (there : HasSeat s.views id (Some v)) (rests : v.holding ≡ false) (others : List Worker) (last : Worker)
    (mine : v.known ≡ known_of last) (olds : v.olds ≡ map known_of others)
    (all : (number : ℕ) → 0 < number → number ≤ o.workers → (index : ℕ) × (w : Worker) × (slice_get (others ++ last ∷ []) index ≡ Some w) × ((known_of w).number ≡ number)) where
  abbrev workers : List Worker
  workers = others ++ last ∷ []

  -- what a worker knows is known to the pass, or was to one that it took in
  known_by : (w : Worker) (index : ℕ) → (slice_get others index ≡ Some w) ⊎ ((index ≡ length others) × (last ≡ w)) → (known_of w ≡ v.known) ⊎ Contains v.olds (known_of w)
  known_by w index (inl front) = inr (subst (λ (l : List Known). Contains l (known_of w)) (sym olds) (map_contains known_of others index w front))
  known_by w index (inr end) = inl (ap known_of (sym end.1) ∙ sym mine)

  known_to : (index : ℕ) (w : Worker) → slice_get workers index ≡ Some w → (known_of w ≡ v.known) ⊎ Contains v.olds (known_of w)
  known_to index w is = known_by w index (at_front_or_end others last index w is)

  agrees_by : (k : Known) → (k ≡ v.known) ⊎ Contains v.olds k → Agrees o holds.history k
  agrees_by k (inl is) = subst (Agrees o holds.history) (sym is) (holds.seats.seated id v there).agrees
  agrees_by k (inr old) = (All-contains (IsOld o holds.history s.views) v.olds k (holds.seats.seated id v there).olds old).agrees

  -- what is known is known by a worker
  worker_with : (k : Known) → (k ≡ v.known) ⊎ Contains v.olds k → (index : ℕ) × (w : Worker) × (slice_get workers index ≡ Some w) × (known_of w ≡ k)
  worker_with k (inl is) = (length others, last, get_seam others [] last, sym mine ∙ sym is)
  worker_with k (inr old) =
      let found = contains_map known_of others k (subst (λ (l : List Known). Contains l k) olds old) in
      (found.0, found.1, get_front others (last ∷ []) found.0 (slice_get_within others found.0 found.1 found.2) ∙ found.2, found.3)

  -- a pass with a number is this one
  seat_by : (seat : ℕ) (u : View) → HasSeat s.views seat (Some u) → (k : Known) → k.number ≡ suc seat → (k ≡ v.known) ⊎ Contains v.olds k → seat ≡ id
  seat_by seat u at k number (inl is) = let n = (holds.seats.seated id v there).number in let same = ap (λ (x : Known). x.number) is in omega (arith, number, n, same)
  seat_by seat u at k number (inr old) =
      let is_old = All-contains (IsOld o holds.history s.views) v.olds k (holds.seats.seated id v there).olds old in
      absurd (no_view_there s.views seat u at (subst (λ (n : ℕ). HasSeat s.views n None) (let m = is_old.number in omega (arith, m, number)) is_old.spent))

  only_here : (seat : ℕ) (u : View) → HasSeat s.views seat (Some u) → seat ≡ id
  only_here seat u at =
      let within = seat_within s.views seat (Some u) at in
      let few = holds.seats.few in
      let w = all (suc seat) (omega arith) (omega (arith, within, few)) in
      seat_by seat u at (known_of w.1) w.3 (known_to w.0 w.1 w.2)

  view_here : (seat : ℕ) (u : View) → HasSeat s.views seat (Some u) → u ≡ v
  view_here seat u at = that_view s.views id v there seat u (only_here seat u at) at

  free_by : Dec (holds.turn ≡ 0) → holds.turn ≡ 0
  free_by (yes free) = free
  free_by (no taken) =
      let held = holds.held taken in
      absurd (false≢true (sym rests ∙ ap (λ (x : View). x.holding) (sym (view_here held.seat held.view held.seated)) ∙ held.holds))

  -- nobody has the turn, so the engine is at home
  pub home_at_end : IsHome o holds.history s.homes
  home_at_end = holds.home (free_by (ℕ_discrete holds.turn 0))

  longest_by : (k : Known) → IsKnown s.views k → (k ≡ v.known) ⊎ Contains v.olds k
  longest_by k (inl (seat, u, at, is)) = inl (is ∙ ap (λ (x : View). x.known) (view_here seat u at))
  longest_by k (inr taken) = inr (subst (λ (x : View). Contains x.olds k) (view_here taken.seat taken.view taken.seated) taken.old)

  worker_of : (w : Worker) → Agrees o holds.history (known_of w) → IsWorkerOf o holds.history w
  worker_of w agrees = record { seen = agrees.seen; own_is = sym agrees.own_all; places_are = sym agrees.places }

  further : (n : ℕ) → length s.views ≤ o.workers → (n ≡ 0) ⊎ (o.workers < n) → (n ≡ 0) ⊎ (length s.views < n)
  further n few (inl is) = inl is
  further n few (inr far) = inr (omega (arith, few, far))

  pub closing : IsClosing o workers (engine_after o holds.history)
  closing =
      let longest = holds.seats.longest in
      let found = worker_with longest.0 (longest_by longest.0 longest.1) in
      let agrees = (holds.seats.seated id v there).agrees in
      let start = prefix_trans (opened o).history v.known.seen holds.history agrees.start agrees.seen in
      let few = holds.seats.few in
      let none : (n : ℕ) → (n ≡ 0) ⊎ (o.workers < n) → own n start.rest ≡ [] = λ n which. none_past n (opened o).history holds.history start (holds.seats.others n (further n few which)) in
      record {
        engine_is = refl;
        each = λ k d within. worker_of (get_or workers k d) (agrees_by (known_of (get_or workers k d)) (known_to k (get_or workers k d) (slice_get-get_or workers k d within)));
        index = found.0;
        longest = found.1;
        in_workers = found.2;
        history_is = ap (λ (k : Known). k.seen) found.3 ∙ longest.2;
        past = start.rest;
        start = start.all_is;
        numbers = numbers_of o.workers start.rest none;
      }

-- ---- the end of the table

-- the slot of a host at its end has the engine
pub record HasEngine (o : Opening) (workers : List Worker) (slot : Slot) : Type 0 where
  pub engine : Box EngineValue
  pub slot_is : slot ≡ Some engine
  pub closing_is : IsClosing o workers engine.value

module _ (value : SharedValue) (key : Opening) (host : TableId) (is : ◌≡◌ {A = SharedValue} (record { host = host; opening = key }) value) (id : ℕ) (seat then : Me Slot SeatView) (words : List ℕ) (slots : List Slot) (slot : Slot) (items others : List Worker) (last : Worker)
    (final : Final (Seen (KeepsTurn key) id then.0) words slots) (taken : get_elem? slots 0 ≡ maybe.some slot) (split : items ≡ others ++ last ∷ [])
    (first : seat ≡ (Some last.pass.view, [])) (rests : (last.pass.view.holding ≡ false) × (last.pass.view.olds ≡ []))
    (joined : (v : View) → IsSeatOf seat v → IsSeatOf then (record v { olds = map known_of others ++ v.olds })) (whole : AreAllWorkers value items) where
  -- the view of the last pass, which took all others in
  abbrev last_view : View
  last_view = record last.pass.view { olds = map known_of others ++ last.pass.view.olds }

  workers_same : key.workers ≡ value.opening.workers
  workers_same = ap (λ (s : SharedValue). s.opening.workers) is

  all_numbers : (number : ℕ) → 0 < number → number ≤ key.workers → (index : ℕ) × (w : Worker) × (slice_get (others ++ last ∷ []) index ≡ Some w) × ((known_of w).number ≡ number)
  all_numbers number some few =
      subst (λ (l : List Worker). (index : ℕ) × (w : Worker) × (slice_get l index ≡ Some w) × ((known_of w).number ≡ number)) split (whole.all number some (subst (λ (n : ℕ). number ≤ n) workers_same few))

  only_olds : last_view.olds ≡ map known_of others
  only_olds = ap (λ (l : List Known). map known_of others ++ l) rests.1 ∙ append-nil (map known_of others)

  -- the engine in its slot
  pub engine_at_end : HasEngine value.opening items slot
  engine_at_end =
      let s = final.0 in
      let holds = final.1.0 in
      let there : HasSeat s.views id (Some last_view) = final.1.1 ∙ ap (λ (m : Me Slot SeatView). maybe.some m.0) (joined last.pass.view first) in
      let home = home_at_end key s holds id last_view there rests.0 others last refl only_olds all_numbers in
      let closed = closing key s holds id last_view there rests.0 others last refl only_olds all_numbers in
      let in_slot = final.4 0 (Some home.engine) (ap (λ (hs : List (maybe.Option Slot)). get_elem? hs 0) home.home) in
      record {
        engine = home.engine;
        slot_is = one_view (get_elem? slots 0) slot (Some home.engine) taken in_slot;
        closing_is =
            subst (λ (l : List Worker). IsClosing value.opening l home.engine.value) (sym split)
            (subst (λ (s : SharedValue). IsClosing s.opening (others ++ last ∷ []) home.engine.value) is
            (subst (IsClosing key (others ++ last ∷ [])) (sym home.engine_is) closed));
      }
