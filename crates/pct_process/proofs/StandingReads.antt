-- The slots of the threads that stand in a way, read from the sets by key.
use Rattle.pct_names.proofs.Names.{◌%◌, ◌&&◌, ◌<◌, ◌≡◌, ◌∙◌, ap, arith, Bool, cases_lt, false, false≢true, inl, inr, length, List, map}
use Rattle.pct_names.proofs.Names.{map-set, nat_eq, refl, slice_set, sym, true, ℕ}
use Rattle.std.proofs.Common.{length-set}
use Rattle.std.proofs.lemmas.Bool.{eq-eqb, eqb-true, ne_eqb, lt-ltb, le-ltb}
use Rattle.std.proofs.lemmas.List.{get_or-map}
use Rattle.pct_set.specs.Slots.{slots_where, has_slot}
use Rattle.pct_set.specs.Keyed.{key_at}
use Rattle.pct_set.specs.declared.keyed_sets.TheConstants.{NO_KEY}
use Rattle.pct_set.proofs.SlotLemmas.{slots_agree, has_where}
use Rattle.pct_process.specs.declared.standings.Standing.{Standing}
use Rattle.pct_process.specs.declared.standings.Standing.TheVariants as standing
use Rattle.pct_process.specs.Standings.{waits_on, waits_with, joins, index_key, cond_key, mutex_key, target_key, standing_at, StandingsValue, AreIndexed}

-- ---- the sets by a key

module _ (of : List Standing) (all : length of ≡ 64) (unfinished : List ℕ) (v : StandingsValue) (is : record { of = of; unfinished = unfinished } ≡ v) (key_of : Standing → ℕ) (keys : List ℕ) (are : keys ≡ map key_of of) (test : Standing → Bool) (key : ℕ) where
  key_is : (k : ℕ) → k < 64 → key_at keys k ≡ key_of (standing_at v k)
  key_is k small =
      ap (λ (ks : List ℕ). key_at ks k) are ∙ get_or-map key_of of k standing.Other 0 (omega (arith, small, all)) ∙ ap (λ (w : StandingsValue). key_of (standing_at w k)) is

  -- those with the key pass, and no others
  pub exactly : ((s : Standing) → nat_eq (key_of s) key ≡ test s) → slots_where (λ k. nat_eq (key_at keys k) key) ≡ slots_where (λ k. test (standing_at v k))
  exactly same = slots_agree _ _ (λ k small. ap (λ (n : ℕ). nat_eq n key) (key_is k small) ∙ same (standing_at v k))

  -- those with the key are all that can pass
  pub looked_through : ((s : Standing) → test s ≡ true → key_of s ≡ key) → (candidates : List ℕ) → candidates ≡ slots_where (λ k. nat_eq (key_at keys k) key) → slots_where (λ k. has_slot candidates k && test (standing_at v k)) ≡ slots_where (λ k. test (standing_at v k))
  looked_through covers candidates found =
      slots_agree _ _ (λ k small. by (has_slot candidates k) (test (standing_at v k)) (λ passes. ap (λ (set : List ℕ). has_slot set k) found ∙ has_where (λ k. nat_eq (key_at keys k) key) k small ∙ eq-eqb (key_at keys k) key (key_is k small ∙ covers (standing_at v k) passes))) where
        by : (has passes : Bool) → (passes ≡ true → has ≡ true) → (has && passes) ≡ passes
        by true passes of = refl
        by false true of = absurd (false≢true (of refl))
        by false false of = refl

-- ---- keys

same_index : (i c : ℕ) → c < 32 → nat_eq (index_key i) (index_key c) ≡ nat_eq i c
same_index i c low =
    elim (cases_lt i 32) [
      | inl small ↦ rw (lt-ltb c 32 low, lt-ltb i 32 small) refl
      | inr large ↦ rw (lt-ltb c 32 low, le-ltb i 32 large, ne_eqb 32 c (λ is. omega (arith, is, low)), ne_eqb i c (λ is. omega (arith, is, low, large))) refl
    ]

no_index : (c : ℕ) → nat_eq NO_KEY (index_key c) ≡ false
no_index c =
    elim (cases_lt c 32) [
      | inl small ↦ rw (lt-ltb c 32 small) (ne_eqb NO_KEY c (λ is. omega (arith, is, small)))
      | inr large ↦ rw (le-ltb c 32 large) refl
    ]

-- a condition variable that has its own key
pub cond_exact : (c : ℕ) → c < 32 → (s : Standing) → nat_eq (cond_key s) (index_key c) ≡ waits_on c s
cond_exact c low standing.Other = no_index c
cond_exact c low (standing.Waiting waited released) = same_index waited c low
cond_exact c low (standing.Joining id) = no_index c
cond_exact c low (standing.Ended value) = no_index c

pub cond_covers : (c : ℕ) (s : Standing) → waits_on c s ≡ true → cond_key s ≡ index_key c
cond_covers c standing.Other passes = absurd (false≢true passes)
cond_covers c (standing.Waiting waited released) passes = ap index_key (eqb-true waited c passes)
cond_covers c (standing.Joining id) passes = absurd (false≢true passes)
cond_covers c (standing.Ended value) passes = absurd (false≢true passes)

-- a mutex that has its own key
pub mutex_exact : (m : ℕ) → m < 32 → (s : Standing) → nat_eq (mutex_key s) (index_key m) ≡ waits_with m s
mutex_exact m low standing.Other = no_index m
mutex_exact m low (standing.Waiting waited released) = same_index released m low
mutex_exact m low (standing.Joining id) = no_index m
mutex_exact m low (standing.Ended value) = no_index m

pub mutex_covers : (m : ℕ) (s : Standing) → waits_with m s ≡ true → mutex_key s ≡ index_key m
mutex_covers m standing.Other passes = absurd (false≢true passes)
mutex_covers m (standing.Waiting waited released) passes = ap index_key (eqb-true released m passes)
mutex_covers m (standing.Joining id) passes = absurd (false≢true passes)
mutex_covers m (standing.Ended value) passes = absurd (false≢true passes)

pub target_covers : (id : ℕ) (s : Standing) → joins id s ≡ true → target_key s ≡ id % 64
target_covers id standing.Other passes = absurd (false≢true passes)
target_covers id (standing.Waiting waited released) passes = absurd (false≢true passes)
target_covers id (standing.Joining target) passes = ap (λ (n : ℕ). n % 64) (eqb-true target id passes)
target_covers id (standing.Ended value) passes = absurd (false≢true passes)

-- ---- a change

pub indexed_put : (of : List Standing) (conds mutexes targets : List ℕ) → AreIndexed of conds mutexes targets → (slot : ℕ) (s : Standing)
    → AreIndexed (slice_set of slot s) (slice_set conds slot (cond_key s)) (slice_set mutexes slot (mutex_key s)) (slice_set targets slot (target_key s))
indexed_put of conds mutexes targets are slot s = record {
  all = length-set of slot s ∙ are.all;
  conds = put cond_key conds are.conds;
  mutexes = put mutex_key mutexes are.mutexes;
  targets = put target_key targets are.targets;
} where
  put : (key_of : Standing → ℕ) (keys : List ℕ) → keys ≡ map key_of of → slice_set keys slot (key_of s) ≡ map key_of (slice_set of slot s)
  put key_of keys is = ap (λ (ks : List ℕ). slice_set ks slot (key_of s)) is ∙ sym (map-set key_of of slot s)
