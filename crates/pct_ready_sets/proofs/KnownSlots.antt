-- The slots whose threads are ready: those whose conditions hold, and those that are asked.
use Rattle.pct_names.proofs.Names.{◌&&◌, ◌<◌, ap, Bool, false, is_some, length, List, None, not, Option, option_map_or, refl, Script, Some}
use Rattle.pct_names.proofs.Names.{sym, Thread, true, ℕ, ◌∙◌, ◌≡◌}
use Rattle.std.proofs.Math.Bool.{and-false, and-true}
use Rattle.std.proofs.lemmas.Bool.{and_parts}
use Rattle.pct_model.specs.OtherProcesses.{Family}
use Rattle.pct_set.specs.Slots.{slots_where, has_slot, difference_of}
use Rattle.pct_set.proofs.SlotLemmas.{slots_agree, has_where, determined}
use Rattle.pct_set.proofs.SlotScans.{Scans}
use Rattle.pct_engine_laws.specs.Seen.{SeenProcess}
use Rattle.pct_engine_laws.specs.SeenSteps.{environment_in, is_ready_in}
use Rattle.pct_process.specs.ProcessViews.{thread_on_slot}
use Rattle.pct_transitions.specs.declared.readiness.ReadyWhen.{ReadyWhen}
use Rattle.pct_transitions.specs.declared.readiness.ReadyWhen.TheVariants as ready
use Rattle.pct_transitions.specs.Readiness.{is_met, ready_when}
use Rattle.pct_transitions.proofs.ReadyThreads.{ready_is_met}
use Rattle.pct_ready_sets.specs.ReadyConditions.{Follows}
use Rattle.pct_ready_sets.specs.ReadyGroups.{ReadyValue, condition_on, is_conditional, is_in_group}
use Rattle.pct_ready_sets.proofs.ReadySlots.{is_ready_on}

-- the slots that are in both of two sets
pub in_both : (p : ℕ → Bool) (stale held rest both : List ℕ) → held ≡ slots_where p → rest ≡ difference_of held stale → both ≡ difference_of held rest → both ≡ slots_where (λ k. p k && has_slot stale k)
in_both p stale held rest both held_is rest_is both_is =
    both_is ∙ slots_agree _ _ (λ k small.
    let has : has_slot held k ≡ p k = ap (λ (set : List ℕ). has_slot set k) held_is ∙ has_where p k small in
    let left : has_slot rest k ≡ (has_slot held k && not (has_slot stale k)) = ap (λ (set : List ℕ). has_slot set k) rest_is ∙ has_where (λ s. has_slot held s && not (has_slot stale s)) k small in
    ap (λ (b : Bool). has_slot held k && not b) left ∙ twice (has_slot held k) (has_slot stale k) ∙ ap (λ (b : Bool). b && has_slot stale k) has)
  where
    twice : (a b : Bool) → (a && not (a && not b)) ≡ (a && b)
    twice true true = refl
    twice true false = refl
    twice false b = refl

-- the scan of the slots with conditions begins: those that are ready now are taken
pub conditions_begun : (met : ReadyWhen → Bool) (conditions : List ReadyWhen) (rest taken : List ℕ) → ((c : ReadyWhen) → is_in_group 1 c ≡ (met c && not (is_conditional c))) → rest ≡ slots_where (λ k. is_conditional (condition_on conditions k))
    → taken ≡ slots_where (λ k. is_in_group 1 (condition_on conditions k)) → Scans (λ k. met (condition_on conditions k)) (λ _. true) rest taken
conditions_begun met conditions rest taken now rest_is taken_is = record {
  set = rest_is ∙ determined (λ k. is_conditional (condition_on conditions k)) ∙ ap (λ (set : List ℕ). slots_where (has_slot set)) (sym rest_is);
  held = λ s small in_set. refl;
  so_far = taken_is ∙ slots_agree _ _ (λ s small. now (condition_on conditions s) ∙ ap (λ (b : Bool). met (condition_on conditions s) && not b) (sym (ap (λ (set : List ℕ). has_slot set s) rest_is ∙ has_where (λ k. is_conditional (condition_on conditions k)) s small)));
}

module _ (script : Script) (timeouts : Bool) (family : Family) (p : SeenProcess) (v : ReadyValue) (follows : Follows script timeouts p v) where
  abbrev met : ℕ → ReadyWhen → Bool
  met tid = is_met p.shared (environment_in timeouts (length p.slots) family p.slots tid)

  abbrev is_ready : Thread → Bool
  is_ready = is_ready_in script timeouts (length p.slots) family p

  module _ (known : List ℕ) (are : (tid : ℕ) → known ≡ slots_where (λ k. met tid (condition_on v.conditions k))) where
    has_known : (tid k : ℕ) → k < 64 → has_slot known k ≡ met tid (condition_on v.conditions k)
    has_known tid k small = ap (λ (set : List ℕ). has_slot set k) (are tid) ∙ has_where (λ k. met tid (condition_on v.conditions k)) k small

    known_on : (k : ℕ) → k < 64 → (o : Option Thread) → condition_on v.conditions k ≡ option_map_or (ready_when script timeouts p.shared.restricted) o ready.Never → has_slot known k ≡ option_map_or is_ready o false
    known_on k small None is = has_known 0 k small ∙ ap (met 0) is
    known_on k small (Some t) is = has_known t.id k small ∙ ap (met t.id) is ∙ sym (ready_is_met timeouts (length p.slots) family script p t)

    slot_by : (k : ℕ) → k < 64 → (has_slot known k && not (has_slot v.stale k)) ≡ (is_ready_on is_ready p.slots k && not (is_some (thread_on_slot p.slots k) && has_slot v.stale k))
    slot_by k small = by (has_slot v.stale k) refl where
      stale_on : (b : Bool) (o : Option Thread) → (b && false) ≡ (option_map_or is_ready o false && not (is_some o && true))
      stale_on b None = and-false b
      stale_on b (Some t) = and-false b ∙ sym (and-false (is_ready t))

      fresh_on : (b : Bool) (o : Option Thread) → b ≡ option_map_or is_ready o false → (b && true) ≡ (option_map_or is_ready o false && not (is_some o && false))
      fresh_on b o is = and-true b ∙ is ∙ sym (ap (λ (a : Bool). option_map_or is_ready o false && not a) (and-false (is_some o)) ∙ and-true (option_map_or is_ready o false))

      by : (stale : Bool) → has_slot v.stale k ≡ stale → (has_slot known k && not stale) ≡ (is_ready_on is_ready p.slots k && not (is_some (thread_on_slot p.slots k) && stale))
      by true is = stale_on (has_slot known k) (thread_on_slot p.slots k)
      by false is = fresh_on (has_slot known k) (thread_on_slot p.slots k) (known_on k small (thread_on_slot p.slots k) (follows k small is))

    -- the scan of those that have to be asked begins
    pub asking_begun : (rest taken : List ℕ) → rest ≡ slots_where (λ k. is_some (thread_on_slot p.slots k) && has_slot v.stale k) → taken ≡ difference_of known v.stale → Scans (is_ready_on is_ready p.slots) (λ k. is_some (thread_on_slot p.slots k)) rest taken
    asking_begun rest taken rest_is taken_is =
        let asked : ℕ → Bool = λ k. is_some (thread_on_slot p.slots k) && has_slot v.stale k in
        let has : (s : ℕ) → s < 64 → has_slot rest s ≡ (is_some (thread_on_slot p.slots s) && has_slot v.stale s) = λ s small. ap (λ (set : List ℕ). has_slot set s) rest_is ∙ has_where asked s small in
        record {
          set = rest_is ∙ determined asked ∙ ap (λ (set : List ℕ). slots_where (has_slot set)) (sym rest_is);
          held = λ s small in_set. (and_parts (is_some (thread_on_slot p.slots s)) (has_slot v.stale s) (sym (has s small) ∙ in_set)).0;
          so_far = taken_is ∙ slots_agree _ _ (λ s small. slot_by s small ∙ ap (λ (b : Bool). is_ready_on is_ready p.slots s && not b) (sym (has s small)));
        }
