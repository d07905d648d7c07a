-- The standings of the threads of a process, read, and after a change of its table. For the crates that use them.
use Rattle.pct_names.proofs.Names.{◌&&◌, ◌||◌, ◌<◌, ◌≡◌, ◌≤◌, ◌∙◌, [], ap, arith, Bool, cases_eq, cond, false, inl, inr, is_some, length, List, list_any}
use Rattle.pct_names.proofs.Names.{None, not, Some, Option, option_map, get_or-replicate, length-replicate, refl, slice_get, subst, sym, true, ℕ}
use Rattle.std.proofs.Common.{length-set}
use Rattle.std.proofs.lemmas.Bool.{eq-eqb, ne_eqb}
use Rattle.std.proofs.lemmas.List.{get_or-set_same, get_or-set_other}
use Rattle.pct_set.specs.Slots.{slots_where, with_slot, without_slot}
use Rattle.pct_set.proofs.SlotLemmas.{slots_agree, with_slot-where, without_slot-where}
use Rattle.pct_threads.specs.Slots.{Held, Slot, unused}
use Rattle.pct_threads.specs.Tables.{slot_at, held_at, on_slot}
use Rattle.pct_process.specs.declared.standings.Standing.{Standing}
use Rattle.pct_process.specs.declared.standings.Standing.TheVariants as standing
use Rattle.pct_process.specs.Standings.{standing_of, standing_on, is_unfinished, StandingsValue, no_standings, standing_at, with_standing, AreStandings}
use Rattle.pct_process.proofs.ListedSlots.{some_slot}

-- what holds a slot stands as before, and has ended or not as before
pub record StandsAs (before after : Option Held) : Type 0 where
  pub standing : standing_on before ≡ standing_on after
  pub unfinished : is_unfinished before ≡ is_unfinished after

-- the same thread does
pub same_stands : (before after : Option Held) → before ≡ after → StandsAs before after
same_stands before after same = record { standing = ap standing_on same; unfinished = ap is_unfinished same }

-- so does one whose status and end a change keeps
pub changed_stands : (change : Held → Held) → ((h : Held) → (change h).thread.status ≡ h.thread.status) → ((h : Held) → (change h).thread.ended ≡ h.thread.ended) → (here : Option Held) → StandsAs here (option_map change here)
changed_stands change status ended None = record { standing = refl; unfinished = refl }
changed_stands change status ended (Some h) = record { standing = ap standing_of (sym (status h)); unfinished = ap not (sym (ended h)) }

no_slot : [] ≡ slots_where (λ k. false)
unfolding slots_where
no_slot = refl

-- ---- a table without threads

pub standings_none : (threads : List Slot) → ((k : ℕ) → k < 64 → held_at threads k ≡ None) → AreStandings no_standings threads
standings_none threads none = record {
  all = length-replicate 64 standing.Other;
  each = λ k small. get_or-replicate 64 k standing.Other standing.Other small ∙ sym (ap standing_on (none k small));
  unfinished = no_slot ∙ slots_agree _ _ (λ k small. sym (ap is_unfinished (none k small)));
}

-- ---- changes

module _ (v : StandingsValue) (old new : List Slot) (are : AreStandings v old) where
  -- each thread stands as before
  pub standings_kept : ((k : ℕ) → k < 64 → StandsAs (held_at old k) (held_at new k)) → AreStandings v new
  standings_kept same = record {
    all = are.all;
    each = λ k small. are.each k small ∙ (same k small).standing;
    unfinished = are.unfinished ∙ slots_agree _ _ (λ k small. (same k small).unfinished);
  }

  module _ (slot : ℕ) (inside : slot < 64) (same : (k : ℕ) → k < 64 → (k ≡ slot → ⊥) → StandsAs (held_at old k) (held_at new k)) where
    abbrev was : ℕ → Bool
    was k = is_unfinished (held_at old k)

    set_put : (unfinished : Bool) → unfinished ≡ is_unfinished (held_at new slot) → cond unfinished (with_slot slot (slots_where was)) (without_slot slot (slots_where was)) ≡ slots_where (λ k. is_unfinished (held_at new k))
    set_put true is =
        with_slot-where was slot
        ∙ slots_agree _ _ (λ k small. elim (cases_eq k slot) [
          | inl at ↦ ap (λ (b : Bool). b || was k) (eq-eqb k slot at) ∙ is ∙ ap (λ (n : ℕ). is_unfinished (held_at new n)) (sym at)
          | inr other ↦ ap (λ (b : Bool). b || was k) (ne_eqb k slot other) ∙ (same k small other).unfinished
        ])
    set_put false is =
        without_slot-where was slot
        ∙ slots_agree _ _ (λ k small. elim (cases_eq k slot) [
          | inl at ↦ ap (λ (b : Bool). not b && was k) (eq-eqb k slot at) ∙ is ∙ ap (λ (n : ℕ). is_unfinished (held_at new n)) (sym at)
          | inr other ↦ ap (λ (b : Bool). not b && was k) (ne_eqb k slot other) ∙ (same k small other).unfinished
        ])

    -- each thread but the one on a slot, whose standing was written
    pub standings_put : (s : Standing) (unfinished : Bool) → s ≡ standing_on (held_at new slot) → unfinished ≡ is_unfinished (held_at new slot) → AreStandings (with_standing slot s unfinished v) new
    standings_put s unfinished stands ended = record {
      all = length-set v.of slot s ∙ are.all;
      each = λ k small. elim (cases_eq k slot) [
        | inl at ↦
            subst (λ (n : ℕ). standing_at (with_standing slot s unfinished v) n ≡ standing_on (held_at new n)) (sym at)
            (get_or-set_same v.of slot s standing.Other (omega (arith, inside, are.all)) ∙ stands)
        | inr other ↦ get_or-set_other v.of slot k s standing.Other other ∙ are.each k small ∙ (same k small other).standing
      ];
      unfinished = ap (λ (set : List ℕ). cond unfinished (with_slot slot set) (without_slot slot set)) are.unfinished ∙ set_put unfinished ended;
    }

-- a change of one slot
module _ (v : StandingsValue) (threads : List Slot) (are : AreStandings v threads) (slot : ℕ) (within : slot < length threads) (change : Slot → Slot) where
  here : held_at (on_slot slot change threads) slot ≡ (change (slot_at threads slot)).here
  here = ap (λ (s : Slot). s.here) (get_or-set_same threads slot (change (slot_at threads slot)) unused within)

  elsewhere : (k : ℕ) → (k ≡ slot → ⊥) → held_at threads k ≡ held_at (on_slot slot change threads) k
  elsewhere k other = sym (ap (λ (s : Slot). s.here) (get_or-set_other threads slot k (change (slot_at threads slot)) unused other))

  -- what holds the slot stands as before
  pub standings_kept-on_slot : StandsAs (held_at threads slot) (change (slot_at threads slot)).here → AreStandings v (on_slot slot change threads)
  standings_kept-on_slot same =
      standings_kept v threads (on_slot slot change threads) are (λ k small. elim (cases_eq k slot) [
        | inl at ↦
            subst (λ (n : ℕ). StandsAs (held_at threads n) (held_at (on_slot slot change threads) n)) (sym at)
            (subst (λ (o : Option Held). StandsAs (held_at threads slot) o) (sym here) same)
        | inr other ↦ same_stands _ _ (elsewhere k other)
      ])

  -- its standing was written
  pub standings_put-on_slot : slot < 64 → (s : Standing) (unfinished : Bool) → s ≡ standing_on (change (slot_at threads slot)).here → unfinished ≡ is_unfinished (change (slot_at threads slot)).here → AreStandings (with_standing slot s unfinished v) (on_slot slot change threads)
  standings_put-on_slot small s unfinished stands ended =
      standings_put v threads (on_slot slot change threads) are slot small (λ k low other. same_stands _ _ (elsewhere k other)) s unfinished (stands ∙ sym (ap standing_on here)) (ended ∙ sym (ap is_unfinished here))

-- ---- reads

module _ (v : StandingsValue) (threads : List Slot) (are : AreStandings v threads) (test : Standing → Bool) where
  -- the slots of the threads that stand in a way
  pub slots_standing : slots_where (λ k. test (standing_at v k)) ≡ slots_where (λ k. test (standing_on (held_at threads k)))
  slots_standing = slots_agree _ _ (λ k small. ap test (are.each k small))

  -- whether a thread stands in a way in which no free slot does
  pub any_standing : length threads ≤ 64 → test standing.Other ≡ false → list_any test v.of ≡ list_any (λ s. test (standing_on s.here)) threads
  any_standing few fails =
      sym (some_slot test standing.Other fails v.of (omega (arith, are.all)))
      ∙ ap (λ (set : List ℕ). is_some (slice_get set 0)) slots_standing
      ∙ some_slot (λ s. test (standing_on s.here)) unused fails threads few
