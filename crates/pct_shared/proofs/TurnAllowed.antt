-- The steps on the table of a host keep the rule of the turn.
use Rattle.pct_names.proofs.Names.{◌++◌, ◌<◌, [], ap, arith, Bool, Box, drop-append_seam, Entry, eqb, false, false≢true, get_elem?, inl}
use Rattle.pct_names.proofs.Names.{inr, length, List, map, None, refl, same_Some, set, slice_index, Some, subst, suc, sym, true, ℕ}
use Rattle.pct_names.proofs.Names.{ℕ_discrete, ◌∙◌, ◌∷◌, ◌≡◌, ◌≢◌}
use Rattle.std.proofs.Common.{append-nil, ne_eqb}
use mathlib.Core.Option as maybe
use prog.Atomic.{either}
use Rattle.atomic_table.specs.Table.{State, Me, Act, keeps, takes, gives, stepped, carried_after, Valid, Allows, Splits, Joins, opening}
use Rattle.atomic_table.proofs.Lists.{at_longer, set_here, set_else}
use Rattle.pct_engine.specs.EngineStates.{EngineValue}
use Rattle.pct_shared.specs.declared.view.Opening.{Opening}
use Rattle.pct_shared.specs.declared.view.View.{View}
use Rattle.pct_shared.specs.Views.{engine_after, first_view, next_view, opened, taken_in, without_next}
use Rattle.pct_shared.specs.TurnRule.{AreSeated, HasSeat, IsHeld, KeepsTurn, SeatView, Slot}
use Rattle.pct_shared.specs.TurnSteps.{AtMostOne, Gave, GotTurn, MissedTurn, Took, gave_view, holding_view, missing_view}
use Rattle.pct_shared.proofs.Seats.{seat_within, that_view}
use Rattle.pct_shared.proofs.SeatsMade.{seats_joined, seats_opened, seats_split}
use Rattle.pct_shared.proofs.TurnTaken.{seats_given, seats_missed, seats_stepped, seats_taken}

-- ---- the pass that holds the turn

module _ (turn : ℕ) (seats : List SeatView) (id : ℕ) (v w : View) (there : HasSeat seats id (Some v)) (same : w.holding ≡ v.holding) where
  held_by : (held : IsHeld turn seats) → Dec (held.seat ≡ id) → IsHeld turn (set seats id (Some w))
  held_by held (yes is) =
      let view : held.view ≡ v = that_view seats id v there held.seat held.view is held.seated in
      record {
        seat = id;
        turn_is = held.turn_is ∙ ap suc is;
        view = w;
        seated = set_here seats id (Some w) (seat_within seats id (Some v) there);
        holds = same ∙ ap (λ (x : View). x.holding) (sym view) ∙ held.holds;
      }
  held_by held (no other) = record { seat = held.seat; turn_is = held.turn_is; view = held.view; seated = set_else seats id held.seat (Some w) other ∙ held.seated; holds = held.holds }

  -- the same pass holds the turn where a view changes
  held_kept : IsHeld turn seats → IsHeld turn (set seats id (Some w))
  held_kept held = held_by held (ℕ_discrete held.seat id)

-- ---- the take

module _ (o : Opening) (slots id number : ℕ) (v : View) (is : v.known.number ≡ number) (rests : v.holding ≡ false) (s : State Slot SeatView) (holds : KeepsTurn o s) (there : HasSeat s.views id (Some v)) where
  -- what the take finds
  abbrev found : ℕ
  found = slice_index s.words 0

  found_is : found ≡ holds.turn
  found_is = ap (λ (ws : List ℕ). slice_index ws 0) holds.words

  -- the word afterwards
  abbrev word : ℕ
  word = either (eqb found 0) number found

  abbrev Taken : View → Act Slot → Type 0
  Taken w a = Valid s.homes [] a × KeepsTurn o (stepped s 0 word id [] (Some w) a) × Took (Some v, []) found (Some w, carried_after [] a)

  number_is : number ≡ suc id
  number_is = sym is ∙ (holds.seats.seated id v there).number

  same_view : (u : View) → ◌≡◌ {A = Me Slot SeatView} (Some v, []) (Some u, []) → v ≡ u
  same_view u same = same_Some v u (ap (λ (me : Me Slot SeatView). me.0) same)

  -- the pass does not hold the turn
  not_mine : (held : IsHeld holds.turn s.views) → held.seat ≢ id
  not_mine held same =
      let view : held.view ≡ v = that_view s.views id v there held.seat held.view same held.seated in
      false≢true (sym rests ∙ ap (λ (x : View). x.holding) (sym view) ∙ held.holds)

  hit : holds.turn ≡ 0 → (w : View) × (a : Act Slot) × Taken w a
  hit free =
      let home = holds.home free in
      let history = holds.history in
      let w = holding_view v history in
      let none_found : found ≡ 0 = found_is ∙ free in
      let some_number : number ≢ 0 = λ zero_is. omega (arith, zero_is, number_is) in
      let taken = seats_taken o holds.turn history holds.newest s.views id v holds.seats there free in
      let got : GotTurn v (Some w, (0, Some home.engine) ∷ []) = record {
        engine = home.engine;
        history = history;
        engine_is = home.engine_is ∙ ap (λ (x : Opening). engine_after x history) (sym (holds.seats.seated id v there).opening);
        seen = (holds.seats.seated id v there).agrees.seen;
        own_is = (holds.seats.seated id v there).agrees.own_all;
        after_is = refl;
      } in (
        w,
        takes 0 (Some home.engine),
        (
          ap (λ (hs : List (maybe.Option Slot)). get_elem? hs 0) home.home,
          record {
            turn = number;
            words = ap (λ (n : ℕ). set s.words 0 (either (eqb n 0) number n)) none_found ∙ ap (λ (ws : List ℕ). set ws 0 number) holds.words;
            history = history;
            home = λ zero_is. absurd (some_number zero_is);
            away = λ some. ap (λ (hs : List (maybe.Option Slot)). set hs 0 maybe.none) home.home;
            held = λ some. record { seat = id; turn_is = number_is; view = w; seated = set_here s.views id (Some w) (seat_within s.views id (Some v) there); holds = refl };
            newest = holds.newest;
            seats = subst (λ (n : ℕ). AreSeated o n history holds.newest (set s.views id (Some w))) is taken;
          },
          record {
            got = λ u same free_found. subst (λ (x : View). GotTurn x (Some w, (0, Some home.engine) ∷ [])) (same_view u same) got;
            missed = λ u same some. absurd (some none_found);
          },
        ),
      )

  miss : holds.turn ≢ 0 → (w : View) × (a : Act Slot) × Taken w a
  miss some =
      let w = missing_view v found in
      let held = holds.held some in
      let mine = holds.seats.seated id v there in
      let here_within = seat_within s.views id (Some v) there in
      let held_within = seat_within s.views held.seat (Some held.view) held.seated in
      let few = holds.seats.few in
      let opening_is = ap (λ (x : Opening). x.workers) mine.opening in
      let some_found : found ≢ 0 = λ zero_is. some (sym found_is ∙ zero_is) in
      let another : found ≢ v.known.number = λ same. not_mine held (omega (arith, same, found_is, held.turn_is, mine.number)) in
      let missed : MissedTurn v found (Some w, []) = record {
        within = omega (arith, found_is, held.turn_is, held_within, few, opening_is);
        another = another;
        alone = λ lone. another (omega (arith, found_is, held.turn_is, held_within, few, opening_is, lone, mine.number, here_within));
        after_is = refl;
      } in (
        w,
        keeps,
        (
          tt,
          record {
            turn = holds.turn;
            words = ap (λ (b : Bool). set s.words 0 (either b number found)) (ne_eqb found 0 some_found) ∙ ap (λ (ws : List ℕ). set ws 0 (slice_index ws 0)) holds.words;
            history = holds.history;
            home = holds.home;
            away = holds.away;
            held = λ taken. held_kept holds.turn s.views id v w there refl (holds.held taken);
            newest = holds.newest;
            seats = seats_missed o holds.turn holds.history holds.newest s.views id v holds.seats there found rests;
          },
          record {
            got = λ u same free_found. absurd (some_found free_found);
            missed = λ u same some_there. subst (λ (x : View). MissedTurn x found (Some w, [])) (same_view u same) missed;
          },
        ),
      )

  by_turn : Dec (holds.turn ≡ 0) → (w : View) × (a : Act Slot) × Taken w a
  by_turn (yes free) = hit free
  by_turn (no some) = miss some

pub takes_allowed : (o : Opening) (slots id number : ℕ) (v : View) → v.known.number ≡ number → v.holding ≡ false → Allows (KeepsTurn o) slots id (Some v, []) 0 (λ m. either (eqb m 0) number m) (Took (Some v, []))
takes_allowed o slots id number v is rests s holds homes there bound =
    let t = by_turn o slots id number v is rests s holds there (ℕ_discrete holds.turn 0) in
    (Some t.0, t.1, t.2.0, t.2.1, t.2.2)

-- ---- the give

-- the view after the turn was given back, with the entries that are new
abbrev pub view_with : View → List Entry → List Entry → View
view_with v history new = record v {
  holding = false;
  known = record { number = v.known.number; seen = history; mine = v.known.mine ++ new; at = v.known.at ++ map (λ e. (length v.known.seen, v.takes)) new };
}

pub gave_added : (v : View) (added : List Entry) → gave_view (v.known.seen ++ added) v ≡ view_with v (v.known.seen ++ added) added
gave_added v added = ap (view_with v (v.known.seen ++ added)) (drop-append_seam v.known.seen added)

pub gave_nothing : (v : View) → gave_view (v.known.seen ++ []) v ≡ record v { holding = false }
gave_nothing v =
    gave_added v []
    ∙ ap (λ (l : List Entry). record v { holding = false; known = record { number = v.known.number; seen = l; mine = v.known.mine ++ []; at = v.known.at ++ [] } }) (append-nil v.known.seen)
    ∙ ap (λ (l : List Entry). record v { holding = false; known = record { number = v.known.number; seen = v.known.seen; mine = l; at = v.known.at ++ [] } }) (append-nil v.known.mine)
    ∙ ap (λ (l : List (ℕ × ℕ)). record v { holding = false; known = record { number = v.known.number; seen = v.known.seen; mine = v.known.mine; at = l } }) (append-nil v.known.at)

module _ (o : Opening) (slots id : ℕ) (v : View) (engine : Box EngineValue) (holding : v.holding ≡ true) (s : State Slot SeatView) (holds : KeepsTurn o s) (there : HasSeat s.views id (Some v)) where
  mine : (holds.turn ≡ v.known.number) × (v.known.seen ≡ holds.history)
  mine = (holds.seats.seated id v there).holding holding

  taken : holds.turn ≢ 0
  taken free = let is = mine.0 in let n = (holds.seats.seated id v there).number in omega (arith, is, n, free)

  abbrev Given : View → Type 0
  Given w = KeepsTurn o (stepped s 0 0 id ((0, Some engine) ∷ []) (Some w) gives)

  given : (after : List Entry) (w : View) → engine.value ≡ engine_after v.opening after → AreSeated o 0 after holds.newest (set s.views id (Some w)) → Given w
  given after w engine_is seats = record {
    turn = 0;
    words = ap (λ (ws : List ℕ). set ws 0 0) holds.words;
    history = after;
    home = λ free. record {
      engine = engine;
      home = ap (λ (hs : List (maybe.Option Slot)). set hs 0 (maybe.some (Some engine))) (holds.away taken);
      engine_is = engine_is ∙ ap (λ (x : Opening). engine_after x after) (holds.seats.seated id v there).opening;
    };
    away = λ some. absurd (some refl);
    held = λ some. absurd (some refl);
    newest = holds.newest;
    seats = seats;
  }

  given_by : (added : List Entry) → engine.value ≡ engine_after v.opening (v.known.seen ++ added) → AtMostOne v.known.number added → Given (gave_view (v.known.seen ++ added) v)
  given_by added engine_is (inl none) =
      let seats = seats_given o holds.turn holds.history holds.newest s.views id v holds.seats there holding in
      subst (λ (l : List Entry). Given (gave_view (v.known.seen ++ l) v)) (sym none)
      (subst Given (sym (gave_nothing v))
      (given v.known.seen (record v { holding = false }) (engine_is ∙ ap (λ (l : List Entry). engine_after v.opening (v.known.seen ++ l)) none ∙ ap (engine_after v.opening) (append-nil v.known.seen))
      (subst (λ (l : List Entry). AreSeated o 0 l holds.newest (set s.views id (Some (record v { holding = false })))) (sym mine.1) seats)))
  given_by added engine_is (inr (e, one, worker)) =
      let seats = seats_stepped o holds.turn holds.history holds.newest s.views id v holds.seats there e holding worker in
      subst (λ (l : List Entry). Given (gave_view (v.known.seen ++ l) v)) (sym one)
      (subst Given (sym (gave_added v (e ∷ [])))
      (given (v.known.seen ++ e ∷ []) (view_with v (v.known.seen ++ e ∷ []) (e ∷ [])) (engine_is ∙ ap (λ (l : List Entry). engine_after v.opening (v.known.seen ++ l)) one)
      (subst (λ (l : List Entry). AreSeated o 0 (l ++ e ∷ []) holds.newest (set s.views id (Some (record v { holding = false; known = record { number = v.known.number; seen = l ++ e ∷ []; mine = v.known.mine ++ e ∷ []; at = v.known.at ++ (length l, v.takes) ∷ [] } })))) (sym mine.1) seats)))

pub gives_allowed : (o : Opening) (slots id : ℕ) (v : View) (engine : Box EngineValue) (added : List Entry) → v.holding ≡ true → AtMostOne v.known.number added → engine.value ≡ engine_after v.opening (v.known.seen ++ added)
    → Allows (KeepsTurn o) slots id (Some v, (0, Some engine) ∷ []) 0 (λ m. 0) (λ m. Gave (Some v, (0, Some engine) ∷ []))
gives_allowed o slots id v engine added holding step engine_is s holds homes there bound =
    let history_is : engine.value.history ≡ v.known.seen ++ added = ap (λ (e : EngineValue). e.history) engine_is in (
      Some (gave_view engine.value.history v),
      gives,
      tt,
      subst (λ (l : List Entry). Given o slots id v engine holding s holds there (gave_view l v)) (sym history_is) (given_by o slots id v engine holding s holds there added engine_is step),
      refl,
    )

-- ---- the split and the join

longer_held : (turn : ℕ) (seats : List SeatView) (x : SeatView) → IsHeld turn seats → IsHeld turn (seats ++ x ∷ [])
longer_held turn seats x held = record { seat = held.seat; turn_is = held.turn_is; view = held.view; seated = at_longer seats (x ∷ []) held.seat (Some held.view) held.seated; holds = held.holds }

pub splits_allowed : (o : Opening) (id : ℕ) (v : View) → v.made ≢ 0 → v.made < o.workers → Splits (KeepsTurn o) id (Some v) (Some (without_next v)) (Some (next_view v))
splits_allowed o id v some room s holds there = record {
  turn = holds.turn;
  words = holds.words;
  history = holds.history;
  home = holds.home;
  away = holds.away;
  held = λ taken. longer_held holds.turn (set s.views id (Some (without_next v))) (Some (next_view v)) (held_kept holds.turn s.views id v (without_next v) there refl (holds.held taken));
  newest = length (set s.views id (Some (without_next v)));
  seats = seats_split o holds.turn holds.history holds.newest s.views id v holds.seats there some room;
}

-- the pass that holds the turn is not one that rests
held_apart : (turn : ℕ) (seats : List SeatView) (other : ℕ) (w : View) (x : SeatView) → IsHeld turn seats → HasSeat seats other (Some w) → w.holding ≡ false → IsHeld turn (set seats other x)
held_apart turn seats other w x held there rests =
    let apart : held.seat ≢ other = λ same.
    let view : held.view ≡ w = that_view seats other w there held.seat held.view same held.seated in
    false≢true (sym rests ∙ ap (λ (u : View). u.holding) (sym view) ∙ held.holds) in
    record { seat = held.seat; turn_is = held.turn_is; view = held.view; seated = set_else seats other held.seat x apart ∙ held.seated; holds = held.holds }

pub joins_allowed : (o : Opening) (id other : ℕ) (v w : View) → w.holding ≡ false → Joins (KeepsTurn o) id (Some v) other (Some w) (taken_in (Some v) (Some w)) None
joins_allowed o id other v w rests s holds there distinct others_there =
    let both : View = record v { olds = w.known ∷ (w.olds ++ v.olds) } in
    let others : HasSeat s.views other (Some w) = sym (set_else s.views id other (Some both) distinct) ∙ others_there in
    record {
      turn = holds.turn;
      words = holds.words;
      history = holds.history;
      home = holds.home;
      away = holds.away;
      held = λ taken. held_apart holds.turn (set s.views id (Some both)) other w None (held_kept holds.turn s.views id v both there refl (holds.held taken)) others_there rests;
      newest = holds.newest;
      seats = seats_joined o holds.turn holds.history holds.newest s.views id other v w holds.seats there distinct others;
    }

-- ---- the opening

pub opening_allowed : (o : Opening) (engine : Box EngineValue) → engine.value ≡ opened o → 0 < o.workers → KeepsTurn o (opening (0 ∷ []) (Some engine ∷ []) (Some (first_view o)))
opening_allowed o engine engine_is some = record {
  turn = 0;
  words = refl;
  history = (opened o).history;
  home = λ free. record { engine = engine; home = refl; engine_is = engine_is };
  away = λ taken. absurd (taken refl);
  held = λ taken. absurd (taken refl);
  newest = 0;
  seats = seats_opened o some;
}
