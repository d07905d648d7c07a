-- The places of the processes after a fork: the child is on the first free one.
use Rattle.pct_names.proofs.Names.{◌+◌, ◌++◌, ◌<◌, [], ap, arith, Bool, cond, drop, drop_all, get_or, get_or-take, length, List, map}
use Rattle.pct_names.proofs.Names.{none-some, position, refl, Relative, same_Some, slice_get, slice_get-get_or, slice_set, Some, subst, suc}
use Rattle.pct_names.proofs.Names.{sym, take, take-append-add, take_all, true, zero, ℕ, ◌∙◌, ◌∷◌, ◌≡◌, ◌≤◌}
use Rattle.std.proofs.Common.{append-nil}
use Rattle.std.proofs.lemmas.List.{length-take-le}
use Rattle.pct_engine_laws.specs.Seen.{SeenProcess, is_live_seen, child_seen, relative_in}
use Rattle.pct_place.specs.ProcessSteps.{HasThread}
use Rattle.pct_machine.specs.Places.{ProcessList, RiseWithin, AreSound}
use Rattle.pct_machine.specs.ListChanges.{child_with, list_with_child, ChildFits}
use Rattle.pct_machine.proofs.LegalEntries.{not_live, IsFound, found_by}
use Rattle.pct_machine.proofs.PlacesAfter.{past, not_first}

-- ---- a child that is made

module _ (pid tid child : ℕ) where
  -- a process with another id makes none
  none_with : (low high : ℕ) (ps : List SeenProcess) → RiseWithin low high ps → pid ≤ low → child_with pid tid child ps ≡ []
  none_with low high [] rise past = refl
  none_with low high (p ∷ ps) rise past =
      ap (λ (b : Bool). cond b (child_seen tid child p ∷ []) [] ++ child_with pid tid child ps) (not_live pid p (λ same. omega (arith, rise.0)))
      ∙ none_with p.pid high ps rise.1 (omega (arith, rise.0))

  -- its process makes it
  pub one_with : (low high i : ℕ) (ps : List SeenProcess) (p : SeenProcess) → RiseWithin low high ps → slice_get ps i ≡ Some p → is_live_seen pid p ≡ true → child_with pid tid child ps ≡ child_seen tid child p ∷ []
  one_with low high zero (q ∷ ps) p rise at live =
      let same : q ≡ p = same_Some q p at in
      ap (λ (b : Bool). cond b (child_seen tid child q ∷ []) [] ++ child_with pid tid child ps) (ap (is_live_seen pid) same ∙ live)
      ∙ ap (λ (rest : List SeenProcess). child_seen tid child q ∷ rest) (none_with q.pid high ps rise.1 (past pid high q ps rise.1 p same live))
      ∙ ap (λ (x : SeenProcess). child_seen tid child x ∷ []) same
  one_with low high (suc i) (q ∷ ps) p rise at live =
      ap (λ (b : Bool). cond b (child_seen tid child q ∷ []) [] ++ child_with pid tid child ps) (not_first pid high q ps rise.1 i p at live)
      ∙ one_with q.pid high i ps p rise.1 at live
  one_with low high i [] p rise at live = absurd (none-some p at)

rise_more : (low high : ℕ) (ps : List SeenProcess) (p : SeenProcess) → RiseWithin low high ps → p.pid ≡ suc high → RiseWithin low (suc high) (ps ++ p ∷ [])
rise_more low high [] p rise is = (omega (arith, rise, is), omega (arith, is))
rise_more low high (q ∷ ps) p rise is = (rise.0, rise_more q.pid high ps p rise.1 is)

-- the first free place, among those that are split before it
module _ (live : ℕ) (places front : List SeenProcess) (room : live < length places) (front_is : front ≡ take live places) where
  pub first_free : (back : List SeenProcess) → length front ≡ live → length back + live ≡ length places → (child : SeenProcess) → take (live + 1) (front ++ slice_set back 0 child) ≡ take live places ++ child ∷ []
  first_free [] long all child = absurd (omega (arith, room, all))
  first_free (p ∷ back) long all child =
      ap (λ (n : ℕ). take (n + 1) (front ++ child ∷ back)) (sym long)
      ∙ take-append-add front (child ∷ back) 1
      ∙ ap (λ (ps : List SeenProcess). ps ++ child ∷ []) front_is

  -- a place before it
  pub place_before : (index : ℕ) → index < live → (d : SeenProcess) → slice_get places index ≡ Some (get_or front index d)
  place_before index within d =
      slice_get-get_or places index d (omega (arith, within, room)) ∙ ap Some (sym (ap (λ (ps : List SeenProcess). get_or ps index d) front_is ∙ get_or-take live places index d within))

-- all places, written over by as many
written_over : (n : ℕ) (new old : List SeenProcess) → length old ≡ n → length new ≡ length old → take n (new ++ drop (length new) old) ≡ new
written_over n new old long same =
    ap (λ (rest : List SeenProcess). take n (new ++ rest)) (drop_all (length new) old (omega (arith, same)))
    ∙ ap (take n) (append-nil new)
    ∙ take_all n new (omega (arith, long, same))

-- a child that fits the list of the processes on some places, which are lent as this slice
module _ (pid tid child i live made : ℕ) (relatives : List Relative) (places lent : List SeenProcess) (list : ProcessList) (view : record { processes = take live places; made = made } ≡ list) (sound : AreSound live made relatives places)
    (at : Some i ≡ position (is_live_seen pid) list.processes) (fit : ChildFits pid tid child list) (lent_is : lent ≡ places) where
  fits : ChildFits pid tid child (record { processes = take live places; made = made })
  fits = subst (ChildFits pid tid child) (sym view) fit

  abbrev parent : SeenProcess
  parent = fit.parent

  found : IsFound pid i live places parent
  found = found_by pid i live made places list view at parent fit.live

  parent_at : slice_get lent i ≡ Some parent
  parent_at =
      ap (λ (ps : List SeenProcess). slice_get ps i) lent_is
      ∙ slice_get-get_or places i parent (omega (arith, found.within, sound.within, sound.all))
      ∙ ap Some (sym found.here)

  -- the thread that it inherits
  pub thread_lent : (p : SeenProcess) → slice_get lent i ≡ Some p → HasThread tid p.slots
  thread_lent p here = subst (λ (x : SeenProcess). HasThread tid x.slots) (same_Some parent p (sym parent_at ∙ here)) fit.thread

  -- the child was made on the slice
  module _ (new : List SeenProcess) (n : ℕ) (long : length lent ≡ n) (same : length new ≡ length lent) (made_is : (p : SeenProcess) → slice_get lent i ≡ Some p → take (live + 1) new ≡ take live lent ++ child_seen tid child p ∷ []) where
    -- the places as they were written back
    abbrev pub back : List SeenProcess
    back = take n (new ++ drop (length new) places)

    back_is : back ≡ new
    back_is = written_over n new places (ap length (sym lent_is) ∙ long) (same ∙ ap length lent_is)

    processes_are : take (live + 1) back ≡ take live places ++ child_seen tid child parent ∷ []
    processes_are =
        ap (take (live + 1)) back_is
        ∙ made_is parent parent_at
        ∙ ap (λ (ps : List SeenProcess). take live ps ++ child_seen tid child parent ∷ []) lent_is

    -- the places after it
    pub sound_with : (now : List Relative) → now ≡ map relative_in (take (live + 1) back) → AreSound (live + 1) child now back
    sound_with now known =
        let count : length (take live places) ≡ live = length-take-le live places (omega (arith, sound.within, sound.all)) in
        subst (λ (m : ℕ). AreSound (live + 1) m now back) (sym fits.next) (record {
          all = ap length back_is ∙ same ∙ ap length lent_is ∙ sound.all;
          within = omega (arith, fits.room, count);
          rising = subst (RiseWithin 0 (suc made)) (sym processes_are) (rise_more 0 made (take live places) (child_seen tid child parent) sound.rising fits.next);
          known = known;
        })

    -- the processes on them
    pub list_with : record { processes = take (live + 1) back; made = child } ≡ list_with_child pid tid child list
    list_with =
        let one : child_with pid tid child (take live places) ≡ child_seen tid child parent ∷ [] = one_with pid tid child 0 made i (take live places) parent sound.rising found.at found.has_id in
        let count : child ≡ made + length (child_with pid tid child (take live places)) = omega (arith, fits.next, ap length one) in
        (λ j. record { processes = (processes_are ∙ ap (λ (ps : List SeenProcess). take live places ++ ps) (sym one)) j; made = count j })
        ∙ ap (list_with_child pid tid child) view
