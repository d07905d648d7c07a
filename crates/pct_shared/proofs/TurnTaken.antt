-- The seats of a host after a take, and after the turn was given back.
use Rattle.pct_names.proofs.Names.{◌++◌, [], arith, Entry, false, false≢true, inl, length, List, nat_eq, refl, set, Some, sym, true, ℕ, ◌∙◌}
use Rattle.pct_names.proofs.Names.{◌∷◌, ◌≡◌, ◌≢◌}
use Rattle.std.proofs.Common.{ne_eqb, eq-eqb}
use Rattle.pct_shared.specs.declared.view.Opening.{Opening}
use Rattle.pct_shared.specs.declared.view.View.{View}
use Rattle.pct_shared.specs.TurnRule.{AreSeated, HasSeat, SeatView}
use Rattle.pct_shared.specs.TurnSteps.{holding_view, missing_view}
use Rattle.pct_shared.proofs.OwnEntries.{own_other}
use Rattle.pct_shared.proofs.Agreement.{agrees_seen, agrees_other, agrees_mine}
use Rattle.pct_shared.proofs.Seats.{IsSamePass, here, known_kept, seats_changed}

module _ (o : Opening) (turn : ℕ) (history : List Entry) (newest : ℕ) (seats : List SeatView) (id : ℕ) (v : View) (before : AreSeated o turn history newest seats) (there : HasSeat seats id (Some v)) where
  same_made : v.made ≢ 0 → (id ≡ newest) × (v.made ≡ length seats)
  same_made = (before.seated id v there).made

  -- the pass takes the turn
  pub seats_taken : turn ≡ 0 → AreSeated o v.known.number history newest (set seats id (Some (holding_view v history)))
  seats_taken free =
      let w = holding_view v history in
      let same : IsSamePass v w = record { opening = refl; number = refl; olds = refl } in
      seats_changed seats id v w there same o turn v.known.number history history newest before same_made
      (agrees_seen o history v.known (before.seated id v there).agrees)
      (λ holds. (refl, refl))
      (λ k other agrees. agrees)
      (λ seat u other seated holds. let h = (before.seated seat u seated).holding holds in let n = (before.seated seat u seated).number in let first = h.0 in absurd (omega (arith, first, n, free)))
      (w.known, inl (id, w, here seats id v w there same, refl), refl)
      (λ number other. refl)

  -- the pass finds another one
  pub seats_missed : (found : ℕ) → v.holding ≡ false → AreSeated o turn history newest (set seats id (Some (missing_view v found)))
  seats_missed found rests =
      let w = missing_view v found in
      let same : IsSamePass v w = record { opening = refl; number = refl; olds = refl } in
      seats_changed seats id v w there same o turn turn history history newest before same_made
      (before.seated id v there).agrees
      (before.seated id v there).holding
      (λ k other agrees. agrees)
      (λ seat u other seated holds. (before.seated seat u seated).holding holds)
      (let longest = before.longest in (longest.0, known_kept seats id v w there same longest.0 refl longest.1, longest.2))
      (λ number other. refl)

  -- only the pass that holds the turn does
  nobody_else : v.holding ≡ true → (seat : ℕ) (u : View) → seat ≢ id → HasSeat seats seat (Some u) → u.holding ≡ true → ⊥
  nobody_else holds seat u other seated also =
      let mine = ((before.seated id v there).holding holds).0 in
      let his = ((before.seated seat u seated).holding also).0 in
      let number = (before.seated id v there).number in
      let his_number = (before.seated seat u seated).number in
      other (omega (arith, mine, his, number, his_number))

  -- the pass gives the turn back without a step
  pub seats_given : v.holding ≡ true → AreSeated o 0 history newest (set seats id (Some (record v { holding = false })))
  seats_given holds =
      let w : View = record v { holding = false } in
      let same : IsSamePass v w = record { opening = refl; number = refl; olds = refl } in
      seats_changed seats id v w there same o turn 0 history history newest before same_made
      (before.seated id v there).agrees
      (λ still. absurd (false≢true still))
      (λ k other agrees. agrees)
      (λ seat u other seated also. absurd (nobody_else holds seat u other seated also))
      (let longest = before.longest in (longest.0, known_kept seats id v w there same longest.0 refl longest.1, longest.2))
      (λ number other. refl)

  -- the view of a pass that gives the turn back after the step of an entry
  abbrev pub stepped_view : Entry → View
  stepped_view e = record v {
    holding = false;
    known = record { number = v.known.number; seen = history ++ e ∷ []; mine = v.known.mine ++ e ∷ []; at = v.known.at ++ (length history, v.takes) ∷ [] };
  }

  -- the pass gives the turn back after a step
  pub seats_stepped : (e : Entry) → v.holding ≡ true → e.worker ≡ v.known.number → AreSeated o 0 (history ++ e ∷ []) newest (set seats id (Some (stepped_view e)))
  seats_stepped e holds mine =
      let w = stepped_view e in
      let same : IsSamePass v w = record { opening = refl; number = refl; olds = refl } in
      let is_mine : nat_eq e.worker v.known.number ≡ true = eq-eqb e.worker v.known.number mine in
      seats_changed seats id v w there same o turn 0 history (history ++ e ∷ []) newest before same_made
      (agrees_mine o history v.known e v.takes (before.seated id v there).agrees is_mine)
      (λ still. absurd (false≢true still))
      (λ k other agrees. agrees_other o history k e agrees (ne_eqb e.worker k.number (λ is. other (sym is ∙ mine))))
      (λ seat u other seated also. absurd (nobody_else holds seat u other seated also))
      (w.known, inl (id, w, here seats id v w there same, refl), refl)
      (λ number other. own_other number history e (ne_eqb e.worker number (λ is. other (sym is ∙ mine))))
