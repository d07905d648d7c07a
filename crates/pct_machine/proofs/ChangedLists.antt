-- The list of processes after a transition, by the change that it makes.
use Rattle.pct_names.proofs.Names.{◌+◌, ◌++◌, [], ap, Bool, cond, false, flat_map, flat_map-map, flat_map_single, length, List, map, map-id}
use Rattle.pct_names.proofs.Names.{None, Option, option_map_or, ProcessAction, refl, Some, sym, Transition, true, ℕ, ◌∙◌, ◌∷◌, ◌≡◌}
use Rattle.pct_names.proofs.Names.{is_some, stop_after, Why}
use Rattle.std.proofs.Common.{append-nil, add-zero}
use Rattle.std.proofs.lemmas.Bool.{true≢false}
use Rattle.pct_model.specs.declared.transition.ProcessAction.TheVariants as process_action
use Rattle.pct_engine_laws.specs.Seen.{SeenProcess, own_kept, other_kept, own_process_seen, other_process_seen, is_live_seen, child_seen_by}
use Rattle.pct_engine_laws.specs.Seen.{children_seen, process_seen, processes_kept, seen_after}
use Rattle.pct_engine_laws.proofs.ListFacts.{flat_map_agree}
use Rattle.pct_place.specs.ProcessSteps.{process_changed}
use Rattle.pct_machine.specs.Places.{ProcessList}
use Rattle.pct_machine.specs.ListChanges.{process_moved, list_moved, list_changed, seen_finished}

-- what is kept of a process after a change, if there is one
abbrev kept_by : ℕ → Option ProcessAction → SeenProcess → List SeenProcess
kept_by pid o p = option_map_or (λ c. process_changed pid c p) o (p ∷ [])

-- the child of a process that is made
abbrev made_by : ℕ → ℕ → Option ProcessAction → SeenProcess → List SeenProcess
made_by pid tid o p = cond (is_live_seen pid p) (child_seen_by tid p o) []

no_processes : (f : SeenProcess → List SeenProcess) → ((p : SeenProcess) → f p ≡ []) → (ps : List SeenProcess) → flat_map f ps ≡ []
no_processes f none [] = refl
no_processes f none (p ∷ ps) = ap (λ (first : List SeenProcess). first ++ flat_map f ps) (none p) ∙ no_processes f none ps

cond_same : {A : Type 0} (b : Bool) (x : A) → cond b x x ≡ x
cond_same true x = refl
cond_same false x = refl

each_alone : (ps : List SeenProcess) → flat_map (λ p. p ∷ []) ps ≡ ps
each_alone ps = flat_map_single (λ p. p) ps ∙ map-id ps

-- a change that makes no child
without_child : (pid tid : ℕ) (o : Option ProcessAction) → ((p : SeenProcess) → child_seen_by tid p o ≡ []) → (ps : List SeenProcess) → flat_map (made_by pid tid o) ps ≡ []
without_child pid tid o none ps = no_processes (made_by pid tid o) (λ p. ap (λ (made : List SeenProcess). cond (is_live_seen pid p) made []) (none p) ∙ cond_same (is_live_seen pid p) []) ps

-- the list after a change, by each process
list_by : (pid tid : ℕ) (o : Option ProcessAction) (list : ProcessList) → record { processes = flat_map (kept_by pid o) list.processes ++ flat_map (made_by pid tid o) list.processes; made = list.made + length (flat_map (made_by pid tid o) list.processes) } ≡ list_changed pid tid o list
unfolding own_kept other_kept child_seen_by
list_by pid tid None list =
    let none = without_child pid tid None (λ p. refl) list.processes in
    λ i. record { processes = (ap (λ (made : List SeenProcess). flat_map (λ p. p ∷ []) list.processes ++ made) none ∙ append-nil (flat_map (λ p. p ∷ []) list.processes) ∙ each_alone list.processes) i; made = (ap (λ (made : List SeenProcess). list.made + length made) none ∙ add-zero list.made) i }
list_by pid tid (Some (process_action.Make child)) list =
    λ i. record { processes = (flat_map_agree (process_changed pid (process_action.Make child)) (λ p. p ∷ []) (λ p. cond_same (is_live_seen pid p) (p ∷ [])) list.processes ∙ each_alone list.processes) i ++ flat_map (made_by pid tid (Some (process_action.Make child))) list.processes; made = list.made + length (flat_map (made_by pid tid (Some (process_action.Make child))) list.processes) }
list_by pid tid (Some c) list =
    let none = without_child pid tid (Some c) (λ p. refl) list.processes in
    λ i. record { processes = (ap (λ (made : List SeenProcess). flat_map (process_changed pid c) list.processes ++ made) none ∙ append-nil (flat_map (process_changed pid c) list.processes)) i; made = (ap (λ (made : List SeenProcess). list.made + length made) none ∙ add-zero list.made) i }

module _ (slots pid tid : ℕ) (o : Transition) where
  abbrev next : SeenProcess → SeenProcess
  next p = process_moved slots pid tid o p

  -- what is kept of a process, and the child that it makes, by the process after the step of its thread
  kept_is : (p : SeenProcess) → cond (is_live_seen pid p) (own_process_seen slots tid o p) (other_process_seen pid o p) ≡ kept_by pid o.process (next p)
  unfolding own_kept other_kept
  kept_is p = by (is_live_seen pid p) refl o.process where
    by : (live : Bool) → is_live_seen pid p ≡ live → (a : Option ProcessAction) → cond live (own_kept a (process_seen slots tid o p)) (other_kept pid a p) ≡ kept_by pid a (cond live (process_seen slots tid o p) p)
    by true live None = refl
    by false other None = refl
    by true live (Some c) = sym (ap (λ (b : Bool). cond b (own_kept (Some c) (process_seen slots tid o p)) (other_kept pid (Some c) (process_seen slots tid o p))) live)
    by false other (Some c) = sym (ap (λ (b : Bool). cond b (own_kept (Some c) p) (other_kept pid (Some c) p)) other)

  made_is : (p : SeenProcess) → cond (is_live_seen pid p) (child_seen_by tid (process_seen slots tid o p) o.process) [] ≡ made_by pid tid o.process (next p)
  made_is p = by (is_live_seen pid p) refl where
    by : (live : Bool) → is_live_seen pid p ≡ live → cond live (child_seen_by tid (process_seen slots tid o p) o.process) [] ≡ made_by pid tid o.process (cond live (process_seen slots tid o p) p)
    by true live = sym (ap (λ (b : Bool). cond b (child_seen_by tid (process_seen slots tid o p) o.process) []) live)
    by false other = sym (ap (λ (b : Bool). cond b (child_seen_by tid p o.process) []) other)

  -- the list after the transition
  pub list_after : (list : ProcessList) → list_changed pid tid o.process (list_moved slots pid tid o list) ≡ record { processes = processes_kept slots pid tid o list.processes ++ children_seen slots pid tid o list.processes; made = list.made + length (children_seen slots pid tid o list.processes) }
  list_after list =
      let ps : List SeenProcess = list.processes in
      let kept : flat_map (kept_by pid o.process) (map next ps) ≡ processes_kept slots pid tid o ps = flat_map-map (kept_by pid o.process) next ps ∙ sym (flat_map_agree (λ p. cond (is_live_seen pid p) (own_process_seen slots tid o p) (other_process_seen pid o p)) (λ p. kept_by pid o.process (next p)) kept_is ps) in
      let children : flat_map (made_by pid tid o.process) (map next ps) ≡ children_seen slots pid tid o ps = flat_map-map (made_by pid tid o.process) next ps ∙ sym (flat_map_agree (λ p. cond (is_live_seen pid p) (child_seen_by tid (process_seen slots tid o p) o.process) []) (λ p. made_by pid tid o.process (next p)) made_is ps) in
      sym (list_by pid tid o.process (list_moved slots pid tid o list))
      ∙ (λ i. record { processes = kept i ++ children i; made = list.made + length (children i) })

-- a run that was not stopped before stops for the reason of the transition
stop_is : (why stop : Option Why) → is_some stop ≡ false → why ≡ stop_after why stop
unfolding stop_after
stop_is (Some why) stop running = refl
stop_is None None running = refl
stop_is None (Some before) running = absurd (true≢false running)

-- a run that was not stopped, after a transition of a thread
pub finished : (slots pid tid : ℕ) (o : Transition) (list moved : ProcessList) (stop : Option Why) → is_some stop ≡ false → moved ≡ list_moved slots pid tid o list
    → seen_finished pid tid o (record { processes = moved.processes; made = moved.made; stop = stop }) ≡ seen_after slots pid tid o (record { processes = list.processes; made = list.made; stop = stop })
unfolding seen_after
finished slots pid tid o list moved stop running is =
    let after = ap (list_changed pid tid o.process) is ∙ list_after slots pid tid o list in
    λ i. record { processes = (after i).processes; made = (after i).made; stop = stop_is o.stop stop running i }
