-- The places of the processes after a change of the list that makes no process.
use Rattle.pct_names.proofs.Names.{◌&&◌, ◌++◌, ◌<◌, [], arith, Bool, cond, false, flat_map, is_some, length, List, map, nat_eq}
use Rattle.pct_names.proofs.Names.{ProcessAction, refl, Relative, Some, subst, sym, take, true, ℕ, ◌∙◌, ◌∷◌, ◌≡◌, ◌≤◌}
use Rattle.pct_model.specs.declared.transition.ProcessAction.TheVariants as process_action
use Rattle.pct_engine_laws.specs.Seen.{SeenProcess, own_kept, other_kept, is_live_seen, relative_in}
use Rattle.pct_place.specs.ProcessSteps.{process_changed}
use Rattle.pct_machine.specs.Places.{RiseWithin, AreSound}

-- a process, or nothing, with the id of another one
abbrev KeepsId : SeenProcess → List SeenProcess → Type 0
KeepsId p [] = Unit {0}
KeepsId p (q ∷ []) = q.pid ≡ p.pid
KeepsId p (q ∷ r ∷ ps) = ⊥

keeps_either : (p : SeenProcess) (b : Bool) (ps qs : List SeenProcess) → KeepsId p ps → KeepsId p qs → KeepsId p (cond b ps qs)
keeps_either p true ps qs first second = first
keeps_either p false ps qs first second = second

kept_id : (pid : ℕ) (c : ProcessAction) (p : SeenProcess) → KeepsId p (process_changed pid c p)
unfolding own_kept other_kept
kept_id pid (process_action.End n) p =
    let itself : SeenProcess = record p { ended = Some n } in
    let orphan : SeenProcess = record p { parent = 0 } in
    keeps_either p (is_live_seen pid p) (cond (nat_eq p.parent 0) [] (itself ∷ [])) (cond (nat_eq p.parent pid) (cond (is_some p.ended) [] (orphan ∷ [])) (p ∷ []))
    (keeps_either p (nat_eq p.parent 0) [] (itself ∷ []) tt refl)
    (keeps_either p (nat_eq p.parent pid) (cond (is_some p.ended) [] (orphan ∷ [])) (p ∷ []) (keeps_either p (is_some p.ended) [] (orphan ∷ []) tt refl) refl)
kept_id pid (process_action.Reap child) p =
    keeps_either p (is_live_seen pid p) (p ∷ []) (cond (nat_eq p.pid child && is_some p.ended) [] (p ∷ [])) refl (keeps_either p (nat_eq p.pid child && is_some p.ended) [] (p ∷ []) tt refl)
kept_id pid (process_action.Make child) p = keeps_either p (is_live_seen pid p) (p ∷ []) (p ∷ []) refl refl

lower : (low next high : ℕ) (ps : List SeenProcess) → low ≤ next → RiseWithin next high ps → RiseWithin low high ps
lower low next high [] le rise = omega (arith, le, rise)
lower low next high (p ∷ ps) le rise = (omega (arith, le, rise.0), rise.1)

rise_after : (p : SeenProcess) (qs : List SeenProcess) → KeepsId p qs → (low high : ℕ) (ps : List SeenProcess) → low < p.pid → RiseWithin p.pid high ps → RiseWithin low high (qs ++ ps)
rise_after p [] keeps low high ps le rise = lower low p.pid high ps (omega (arith, le)) rise
rise_after p (q ∷ []) keeps low high ps le rise = subst (λ (n : ℕ). (low < n) × RiseWithin n high ps) (sym keeps) (le, rise)
rise_after p (q ∷ r ∷ qs) keeps low high ps le rise = absurd keeps

rise_changed : (pid : ℕ) (c : ProcessAction) (low high : ℕ) (ps : List SeenProcess) → RiseWithin low high ps → RiseWithin low high (flat_map (process_changed pid c) ps)
rise_changed pid c low high [] rise = rise
rise_changed pid c low high (p ∷ ps) rise = rise_after p (process_changed pid c p) (kept_id pid c p) low high (flat_map (process_changed pid c) ps) rise.0 (rise_changed pid c p.pid high ps rise.1)

-- the places after it
pub sound_changed : (pid : ℕ) (c : ProcessAction) (live made kept : ℕ) (relatives now : List Relative) (places after : List SeenProcess) → AreSound live made relatives places → kept ≤ live → length after ≡ length places → take kept after ≡ flat_map (process_changed pid c) (take live places)
    → now ≡ map relative_in (take kept after) → AreSound kept made now after
sound_changed pid c live made kept relatives now places after sound few all is known = record {
  all = all ∙ sound.all;
  within = omega (arith, few, sound.within);
  rising = subst (RiseWithin 0 made) (sym is) (rise_changed pid c 0 made (take live places) sound.rising);
  known = known;
}
