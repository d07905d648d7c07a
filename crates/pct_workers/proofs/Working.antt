-- What a worker did so far, turn by turn, and at the end.
use Rattle.pct_names.proofs.Names.{◌+◌, ◌++◌, ◌-◌, ◌<◌, [], All, All-append, All-cons, All-head, All-nil, All-tail, All-weaker, ap, arith}
use Rattle.pct_names.proofs.Names.{chosen, Entry, false, is_some, length, length-map, List, map, map-append, Option, refl, run, slice_get}
use Rattle.pct_names.proofs.Names.{Some, subst, suc, sym, take-append-le, take_all, true, Verdict, verdict_of, ℕ, ◌∙◌, ◌∷◌, ◌≡◌, ◌≢◌, ◌≤◌}
use Rattle.std.proofs.Common.{append-nil, length-append}
use Rattle.std.proofs.lemmas.List.{append_assoc}
use Rattle.rand_pcg.specs.Lcg.{Lcg}
use Rattle.pct_engine.specs.EngineStates.{IsRunOf, IsRunWith}
use Rattle.pct_scheduled_run.specs.ScheduledRuns.{IsChosenAt}
use Rattle.pct_scheduled_run.specs.Streams.{after_words, draws}
use Rattle.pct_scheduled_run.proofs.ContinuedRuns.{chosen_next, get_seam, get_front}
use Rattle.pct_scheduled_run.proofs.Words.{draws_after, no_words, words_next}
use Rattle.pct_shared.specs.declared.shared.Turn.{Turn}
use Rattle.pct_shared.specs.declared.shared.Turn.TheVariants as turn
use Rattle.pct_shared.specs.declared.view.Known.{Known}
use Rattle.pct_shared.specs.declared.view.Opening.{Opening}
use Rattle.pct_shared.specs.declared.worker.Worker.{Worker}
use Rattle.pct_workers.specs.Work.{IsMadeAt, RiseWithin, TookTurns, Worked, counted_from}
use Rattle.pct_shared.specs.Passes.{FoundClosed, IsTurn, MadeStep, TookOneTurn}
use Rattle.pct_shared.specs.Views.{IsPrefix, engine_after, opened}
use Rattle.pct_workers.proofs.LongerChoices.{chosen_with_more}
use Rattle.pct_shared.proofs.OwnEntries.{prefix_refl, prefix_of_same, prefix_trans}

-- ---- numbers that rise, or are counted

rise_from_lower : (low mid high : ℕ) (ns : List ℕ) → low ≤ mid → RiseWithin mid high ns → RiseWithin low high ns
rise_from_lower low mid high [] lower rise = omega (arith, lower, rise)
rise_from_lower low mid high (n ∷ ns) lower rise = (omega (arith, lower, rise.0), rise.1)

rise_append : (low mid high : ℕ) (ms ns : List ℕ) → RiseWithin low mid ms → RiseWithin mid high ns → RiseWithin low high (ms ++ ns)
rise_append low mid high [] ns rise more = rise_from_lower low mid high ns rise more
rise_append low mid high (m ∷ ms) ns rise more = (rise.0, rise_append m mid high ms ns rise.1 more)

counted_append : (from next : ℕ) (ms ns : List ℕ) → next ≡ from + length ms → counted_from from ms → counted_from next ns → counted_from from (ms ++ ns)
counted_append from next [] ns is counted more = let same : next ≡ from = omega (arith, is) in subst (λ (n : ℕ). counted_from n ns) same more
counted_append from next (m ∷ ms) ns is counted more = (counted.0, counted_append (suc from) next ms ns (omega (arith, is)) counted.1 more)

-- ---- the entries that a worker made, in a list that grows

-- the entry at the place of a pair
abbrev get_at : List Entry → ℕ × ℕ → Option Entry
get_at entries pair = slice_get entries pair.0

module _ (before : Worker) where
  made_in_longer : (entries more : List Entry) (pair : ℕ × ℕ) → IsMadeAt before entries pair → IsMadeAt before (entries ++ more) pair
  made_in_longer entries more pair is = record {
    within = omega (arith, is.within, length-append entries more);
    chosen = chosen_with_more (draws before.picks) before.pass.view.known.number _ _ entries more pair.0 (pair.1 - suc before.pass.view.takes) is.within is.chosen;
    legal =
        ap (λ (xs : List Entry). is_some (run (opened before.pass.view.opening).script (opened before.pass.view.opening).config xs)) (take-append-le (suc pair.0) entries more (omega (arith, is.within)))
        ∙ is.legal;
  }

  all_in_longer : (entries longer : List Entry) (at : List (ℕ × ℕ)) → IsPrefix entries longer → All (IsMadeAt before entries) at → All (IsMadeAt before longer) at
  all_in_longer entries longer at front each =
      subst (λ (xs : List Entry). All (IsMadeAt before xs) at) (sym front.all_is) (All-weaker (IsMadeAt before entries) (IsMadeAt before (entries ++ front.rest)) (made_in_longer entries front.rest) at each)

  same_entries : (entries more : List Entry) (at : List (ℕ × ℕ)) → All (IsMadeAt before entries) at → map (get_at (entries ++ more)) at ≡ map (get_at entries) at
  same_entries entries more [] each = refl
  same_entries entries more (pair ∷ at) each =
      ap (λ (x : Option Entry). x ∷ map (get_at (entries ++ more)) at) (get_front entries more pair.0 (All-head (IsMadeAt before entries) pair at each).within)
      ∙ ap (λ (xs : List (Option Entry)). slice_get entries pair.0 ∷ xs) (same_entries entries more at (All-tail (IsMadeAt before entries) pair at each))

-- ---- a turn more

-- what a turn adds to what a worker did: at most one entry, or a turn that was taken
record Adds (turns : ℕ) (before old new : Worker) (pairs : List (ℕ × ℕ)) (missed : ℕ) : Type 0 where
  front : IsPrefix old.pass.view.known.seen new.pass.view.known.seen
  misses : new.pass.view.misses ≡ old.pass.view.misses + missed
  at : new.pass.view.known.at ≡ old.pass.view.known.at ++ pairs
  each : All (IsMadeAt before new.pass.view.known.seen) pairs
  mine : map Some new.pass.view.known.mine ≡ map Some old.pass.view.known.mine ++ map (get_at new.pass.view.known.seen) pairs
  places_rise : RiseWithin (length old.pass.view.known.seen) (length new.pass.view.known.seen) (map (λ pair. suc pair.0) pairs)
  takes_rise : RiseWithin old.pass.view.takes new.pass.view.takes (map (λ pair. pair.1) pairs)
  alone : before.pass.view.opening.workers ≡ 1 → (missed ≡ 0) × counted_from (suc before.pass.view.takes + turns) (map (λ pair. pair.1) pairs)

-- the turns of a worker so far, none of which found the run closed
pub record WorkedSoFar (turns : ℕ) (before after : Worker) : Type 0 where
  pub took : TookTurns turns before after
  pub counts : turns ≡ length took.at + took.missed

module _ (turns : ℕ) (before old new : Worker) (so_far : WorkedSoFar turns before old) (one : TookOneTurn old.pass new.pass) (drawn : new.picks ≡ after_words 2 old.picks) where
  abbrev t : TookTurns turns before old
  t = so_far.took

  abbrev took_more : (pairs : List (ℕ × ℕ)) (missed : ℕ) → Adds turns before old new pairs missed → TookTurns (turns + 1) before new
  took_more pairs missed adds = record {
    host = one.host ∙ t.host;
    opening = one.kept.opening ∙ t.opening;
    number = one.kept.number ∙ t.number;
    olds = one.kept.olds ∙ t.olds;
    not_holding = one.kept.at_rest.1;
    front = prefix_trans _ _ _ t.front adds.front;
    takes = omega (arith, one.kept.takes, t.takes);
    picks = words_next before.picks old.picks new.picks turns t.picks drawn;
    missed = t.missed + missed;
    misses = omega (arith, adds.misses, t.misses);
    at = t.at ++ pairs;
    at_is = adds.at ∙ ap (λ (xs : List (ℕ × ℕ)). xs ++ pairs) t.at_is ∙ append_assoc before.pass.view.known.at t.at pairs;
    each = All-append (IsMadeAt before new.pass.view.known.seen) t.at pairs (all_in_longer before old.pass.view.known.seen new.pass.view.known.seen t.at adds.front t.each) adds.each;
    mine =
        adds.mine
        ∙ ap (λ (xs : List (Option Entry)). xs ++ map (get_at new.pass.view.known.seen) pairs) t.mine
        ∙ append_assoc (map Some before.pass.view.known.mine) (map (get_at old.pass.view.known.seen) t.at) (map (get_at new.pass.view.known.seen) pairs)
        ∙ ap (λ (xs : List (Option Entry)). map Some before.pass.view.known.mine ++ (xs ++ map (get_at new.pass.view.known.seen) pairs))
        (sym (same_entries before old.pass.view.known.seen adds.front.rest t.at t.each) ∙ ap (λ (xs : List Entry). map (get_at xs) t.at) (sym adds.front.all_is))
        ∙ ap (λ (xs : List (Option Entry)). map Some before.pass.view.known.mine ++ xs) (sym (map-append (get_at new.pass.view.known.seen) t.at pairs));
    places_rise =
        subst (RiseWithin (length before.pass.view.known.seen) (length new.pass.view.known.seen)) (sym (map-append (λ (pair : ℕ × ℕ). suc pair.0) t.at pairs))
        (rise_append _ (length old.pass.view.known.seen) _ (map (λ (pair : ℕ × ℕ). suc pair.0) t.at) (map (λ (pair : ℕ × ℕ). suc pair.0) pairs) t.places_rise adds.places_rise);
    takes_rise =
        subst (RiseWithin before.pass.view.takes new.pass.view.takes) (sym (map-append (λ (pair : ℕ × ℕ). pair.1) t.at pairs))
        (rise_append _ old.pass.view.takes _ (map (λ (pair : ℕ × ℕ). pair.1) t.at) (map (λ (pair : ℕ × ℕ). pair.1) pairs) t.takes_rise adds.takes_rise);
    alone = λ lone.
        let none = t.alone lone in
        let more = adds.alone lone in
        let next : suc before.pass.view.takes + turns ≡ suc before.pass.view.takes + length (map (λ (pair : ℕ × ℕ). pair.1) t.at) = omega (arith, so_far.counts, none.0, length-map t.at (λ (pair : ℕ × ℕ). pair.1)) in (
          omega (arith, none.0, more.0),
          subst (counted_from (suc before.pass.view.takes)) (sym (map-append (λ (pair : ℕ × ℕ). pair.1) t.at pairs))
              (counted_append (suc before.pass.view.takes) (suc before.pass.view.takes + turns) (map (λ (pair : ℕ × ℕ). pair.1) t.at) (map (λ (pair : ℕ × ℕ). pair.1) pairs) next none.1 more.1),
        );
  }

  -- a turn that makes no entry
  adds_none : (missed : ℕ) → IsPrefix old.pass.view.known.seen new.pass.view.known.seen → new.pass.view.misses ≡ old.pass.view.misses + missed → new.pass.view.known.at ≡ old.pass.view.known.at
      → new.pass.view.known.mine ≡ old.pass.view.known.mine → (before.pass.view.opening.workers ≡ 1 → missed ≡ 0) → Adds turns before old new [] missed
  adds_none missed front misses at mine alone = record {
    front = front;
    misses = misses;
    at = at ∙ sym (append-nil old.pass.view.known.at);
    each = All-nil (IsMadeAt before new.pass.view.known.seen);
    mine = ap (λ (xs : List Entry). map Some xs) mine ∙ sym (append-nil (map Some old.pass.view.known.mine));
    places_rise = omega (arith, length-append old.pass.view.known.seen front.rest, ap (λ (xs : List Entry). length xs) front.all_is);
    takes_rise = omega (arith, one.kept.takes);
    alone = λ lone. (alone lone, tt);
  }

  -- a turn that makes a step
  adds_step : (e : Entry) (step : MadeStep old.pass.view new.pass.view (draws old.picks 0).0 (draws old.picks 0).1 e) → Adds turns before old new ((length step.history, new.pass.view.takes) ∷ []) 0
  adds_step e step =
      let o = before.pass.view.opening in
      let number = before.pass.view.known.number in
      let history = step.history in
      let numbers : draws old.picks 0 ≡ draws before.picks turns = ap (λ (words : Lcg). draws words 0) t.picks ∙ draws_after before.picks turns in
      let picked : Some e ≡ chosen (opened o).script (opened o).config step.then.world number (draws before.picks turns).0 (draws before.picks turns).1 =
      sym step.chosen_is
      ∙ ap (λ (x : Opening). chosen (opened x).script (opened x).config step.then.world old.pass.view.known.number (draws old.picks 0).0 (draws old.picks 0).1) t.opening
      ∙ ap (λ (n : ℕ). chosen (opened o).script (opened o).config step.then.world n (draws old.picks 0).0 (draws old.picks 0).1) t.number
      ∙ ap (λ (pair : ℕ × ℕ). chosen (opened o).script (opened o).config step.then.world number pair.0 pair.1) numbers in
      let is_run : IsRunOf (engine_after o history) step.then = subst (λ (x : Opening). IsRunOf (engine_after x history) step.then) t.opening step.is_run in
      let legal : IsRunWith (engine_after o history) e = subst (λ (x : Opening). IsRunWith (engine_after x history) e) t.opening step.legal in
      let index : turns ≡ new.pass.view.takes - suc before.pass.view.takes = omega (arith, one.kept.takes, t.takes) in
      let ends : length (history ++ e ∷ []) ≡ length history + 1 = length-append history (e ∷ []) in
      let made : IsMadeAt before (history ++ e ∷ []) (length history, new.pass.view.takes) = record {
        within = omega (arith, ends);
        chosen =
            subst (λ (turn : ℕ). IsChosenAt (draws before.picks) number (opened o).script (opened o).config (history ++ e ∷ []) (length history) turn) index
            (chosen_next (draws before.picks) number turns (opened o).script (opened o).config history [] e step.then is_run picked);
        legal = ap (λ (xs : List Entry). is_some (run (opened o).script (opened o).config xs)) (take_all (suc (length history)) (history ++ e ∷ []) (omega (arith, ends))) ∙ legal;
      } in
      let longer : length new.pass.view.known.seen ≡ length history + 1 = ap (λ (xs : List Entry). length xs) step.seen ∙ ends in
      let grown : length history ≡ length old.pass.view.known.seen + length step.front.rest = ap (λ (xs : List Entry). length xs) step.front.all_is ∙ length-append old.pass.view.known.seen step.front.rest in
      record {
        front = prefix_trans _ _ _ step.front (record { rest = e ∷ []; all_is = step.seen });
        misses = omega (arith, step.misses);
        at = step.at;
        each = All-cons (IsMadeAt before new.pass.view.known.seen) (length history, new.pass.view.takes) [] (subst (λ (xs : List Entry). IsMadeAt before xs (length history, new.pass.view.takes)) (sym step.seen) made) (All-nil (IsMadeAt before new.pass.view.known.seen));
        mine =
            ap (λ (xs : List Entry). map Some xs) step.mine
            ∙ map-append Some old.pass.view.known.mine (e ∷ [])
            ∙ ap (λ (x : Option Entry). map Some old.pass.view.known.mine ++ x ∷ []) (sym (get_seam history [] e) ∙ ap (λ (xs : List Entry). slice_get xs (length history)) (sym step.seen));
        places_rise = (omega (arith, grown), omega (arith, longer));
        takes_rise = (omega (arith, one.kept.takes), omega arith);
        alone = λ lone. (refl, (omega (arith, one.kept.takes, t.takes), tt));
      }

  -- a turn after which the run may go on
  pub so_far_next : (result : Turn) → IsTurn old.pass.view new.pass.view (draws old.picks 0).0 (draws old.picks 0).1 result → ((v : Verdict) → result ≢ turn.Over v) → WorkedSoFar (turns + 1) before new
  so_far_next (turn.Did e) step not_over =
      let pairs : List (ℕ × ℕ) = (length step.history, new.pass.view.takes) ∷ [] in
      record { took = took_more pairs 0 (adds_step e step); counts = omega (arith, so_far.counts, length-append t.at pairs) }
  so_far_next (turn.Busy found) busy not_over =
      let adds = adds_none 1 (prefix_of_same _ _ (ap (λ (k : Known). k.seen) (sym busy.known))) (omega (arith, busy.misses)) (ap (λ (k : Known). k.at) busy.known) (ap (λ (k : Known). k.mine) busy.known)
      (λ lone. absurd (busy.alone (ap (λ (o : Opening). o.workers) t.opening ∙ lone))) in
      record { took = took_more [] 1 adds; counts = omega (arith, so_far.counts, length-append t.at []) }
  so_far_next (turn.Over v) closed not_over = absurd (not_over v refl)

  -- a turn finds the run closed
  pub worked_over : (limit : ℕ) (v : Verdict) → turns < limit → FoundClosed old.pass.view new.pass.view v → Worked limit before new
  worked_over limit v fewer found =
      let last : old.pass.view.takes ≡ new.pass.view.takes - 1 = omega (arith, one.kept.takes) in
      record {
        taken = turns + 1;
        few = omega (arith, fewer);
        took = took_more [] 0 (adds_none 0 found.front (omega (arith, found.misses)) found.at found.mine (λ lone. refl));
        over = true;
        counts = omega (arith, so_far.counts, length-append t.at []);
        closed = λ is. record {
          after = found.then;
          is_run = subst (λ (x : Opening). IsRunOf (engine_after x new.pass.view.known.seen) found.then) t.opening found.is_run;
          closed = λ is_open. found.closed (found.verdict_is ∙ ap (λ (x : Opening). verdict_of (opened x).script (opened x).config found.then.world (length new.pass.view.known.seen)) t.opening ∙ is_open);
        };
        all_turns = λ is. refl;
        over_last = λ is. (
          found.found,
          subst (λ (xs : List (ℕ × ℕ)). RiseWithin before.pass.view.takes (new.pass.view.takes - 1) (map (λ pair. pair.1) xs)) (sym (append-nil t.at))
              (subst (λ (high : ℕ). RiseWithin before.pass.view.takes high (map (λ pair. pair.1) t.at)) last t.takes_rise),
        );
      }

-- ---- the beginning and the end

-- no turn is made
pub so_far_none : (w : Worker) → w.pass.view.holding ≡ false → WorkedSoFar 0 w w
so_far_none w at_rest = record {
  took = record {
    host = refl;
    opening = refl;
    number = refl;
    olds = refl;
    not_holding = at_rest;
    front = prefix_refl w.pass.view.known.seen;
    takes = omega arith;
    picks = sym (no_words w.picks);
    missed = 0;
    misses = omega arith;
    at = [];
    at_is = sym (append-nil w.pass.view.known.at);
    each = All-nil (IsMadeAt w w.pass.view.known.seen);
    mine = sym (append-nil (map Some w.pass.view.known.mine));
    places_rise = omega arith;
    takes_rise = omega arith;
    alone = λ lone. (refl, tt);
  };
  counts = refl;
}

-- all turns are made
pub worked_all : (limit turns : ℕ) (before after : Worker) → WorkedSoFar turns before after → turns ≤ limit → limit ≤ turns → Worked limit before after
worked_all limit turns before after so_far within all = record {
  taken = turns;
  few = within;
  took = so_far.took;
  over = false;
  counts = omega (arith, so_far.counts);
  closed = λ is. absurd cc;
  all_turns = λ fewer. absurd (omega (arith, fewer, all));
  over_last = λ is. absurd cc;
}
