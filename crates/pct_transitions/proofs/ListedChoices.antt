-- The choices of a thread that creates another.
use Rattle.pct_names.proofs.Names.{◌%◌, ◌&&◌, ◌*◌, ◌+◌, ◌-◌, ◌<◌, [], add-mul-mod_self_left, All, All-tail, Alt, ap, arith, Bool, cases_eq}
use Rattle.pct_names.proofs.Names.{false, inl, inr, length, List, list_any, map, mod-eq_of_lt, nat_eq, new_or_go, offers, refl, same_choice}
use Rattle.pct_names.proofs.Names.{sym, true, ◌||◌, ℕ, ◌∙◌, ◌∷◌, ◌≡◌}
use Rattle.std.proofs.lemmas.Bool.{eq-eqb, ne_eqb}
use Rattle.pct_model.specs.declared.schedule.Alt.TheVariants as alt
use Rattle.pct_engine_laws.proofs.ListFacts.{any_agree, any_never, any-map, any_and, map-map}
use Rattle.pct_set.specs.Slots.{has_slot}
use Rattle.pct_threads.specs.Slots.{Slot}
use Rattle.pct_threads.specs.Tables.{slot_at, next_id_at}

-- with a free slot, they are the ids of the next threads
pub news_listed : (threads : List Slot) (free : List ℕ) → 0 < length free → map (λ s. alt.New (next_id_at threads s)) free ≡ new_or_go (map (next_id_at threads) free)
news_listed threads [] some = absurd (omega arith)
news_listed threads (s ∷ free) some = ap (λ (rest : List Alt). alt.New (next_id_at threads s) ∷ rest) (sym (map-map (λ n. alt.New n) (next_id_at threads) free))

-- ---- membership

-- a choice that creates no thread and makes no key, one that calls no destructor, one that sends no signal, and one that does not act
-- upon a request
pub never_new : (choice : Alt) → ((m : ℕ) → choice ≡ alt.New m → ⊥) → (n : ℕ) → same_choice choice (alt.New n) ≡ false
never_new (alt.New m) other n = absurd (other m refl)
never_new _ other n = refl

pub never_pick : (choice : Alt) → ((m : ℕ) → choice ≡ alt.Pick m → ⊥) → (n : ℕ) → same_choice choice (alt.Pick n) ≡ false
never_pick (alt.Pick m) other n = absurd (other m refl)
never_pick _ other n = refl

pub never_act : (choice : Alt) → ((m : ℕ) → choice ≡ alt.Act m → ⊥) → (n : ℕ) → same_choice choice (alt.Act n) ≡ false
never_act (alt.Act m) other n = absurd (other m refl)
never_act _ other n = refl

pub never_dtor : (choice : Alt) → ((m : ℕ) → choice ≡ alt.Dtor m → ⊥) → (n : ℕ) → same_choice choice (alt.Dtor n) ≡ false
never_dtor (alt.Dtor m) other n = absurd (other m refl)
never_dtor _ other n = refl

-- a choice that is never one that names a number is not offered
pub none_offered : (choose : ℕ → Alt) (choice : Alt) → ((n : ℕ) → same_choice choice (choose n) ≡ false) → (numbers : List ℕ)
    → offers (map choose numbers) choice ≡ false
none_offered choose choice never numbers =
    any-map (same_choice choice) choose numbers ∙ any_agree (λ n. same_choice choice (choose n)) (λ n. false) never numbers ∙ any_never numbers

-- two tests that agree on each item
same_on : (p q : ℕ → Bool) (xs : List ℕ) → All (λ x. p x ≡ q x) xs → list_any p xs ≡ list_any q xs
same_on p q [] same = refl
same_on p q (x ∷ xs) same = λ i. same 0 x (omega arith) i || same_on p q xs (All-tail (λ x. p x ≡ q x) x xs same) i

-- the slot of an id, and the id of the next thread on it
module _ (threads : List Slot) (id k : ℕ) (is : (id - 1) % length threads ≡ k) where
  on_its_slot : (s : ℕ) → s < length threads → id ≡ next_id_at threads s → s ≡ k
  on_its_slot s inside next =
      let made = (slot_at threads s).made in
      let minus : id - 1 ≡ s + length threads * made = omega (arith, next) in
      sym (mod-eq_of_lt inside) ∙ sym (add-mul-mod_self_left s (length threads) made) ∙ ap (λ n. n % length threads) (sym minus) ∙ is

  agrees : (s : ℕ) → s < length threads → nat_eq id (next_id_at threads s) ≡ (nat_eq s k && nat_eq id (next_id_at threads k))
  agrees s inside =
      elim (cases_eq s k) [
        | inl same ↦ ap (λ t. nat_eq id (next_id_at threads t)) same ∙ ap (λ b. b && nat_eq id (next_id_at threads k)) (sym (eq-eqb s k same))
        | inr other ↦
            ne_eqb id (next_id_at threads s) (λ next. other (on_its_slot s inside next))
            ∙ ap (λ b. b && nat_eq id (next_id_at threads k)) (sym (ne_eqb s k other))
      ]

  -- the id is offered exactly if its slot is free and it is the next one there
  pub id_offered : (free : List ℕ) → All (λ s. s < length threads) free → offers (map (λ s. alt.New (next_id_at threads s)) free) (alt.New id) ≡ (has_slot free k && nat_eq id (next_id_at threads k))
  unfolding has_slot
  id_offered free within =
      any-map (same_choice (alt.New id)) (λ s. alt.New (next_id_at threads s)) free
      ∙ same_on (λ s. nat_eq id (next_id_at threads s)) (λ s. nat_eq s k && nat_eq id (next_id_at threads k)) free (λ i d inside. agrees _ (within i d inside))
      ∙ any_and (λ s. nat_eq s k) (nat_eq id (next_id_at threads k)) free

pub swapped : (a b : ℕ) → nat_eq a b ≡ nat_eq b a
swapped a b =
    elim (cases_eq a b) [
      | inl same ↦ eq-eqb a b same ∙ sym (eq-eqb b a (sym same))
      | inr other ↦ ne_eqb a b other ∙ sym (ne_eqb b a (λ e. other (sym e)))
    ]

-- the next id on a slot of the set
pub id_on_free : (threads : List Slot) (id k next : ℕ) (free : List ℕ) → (id - 1) % length threads ≡ k → All (λ s. s < length threads) free → has_slot free k ≡ true → next ≡ next_id_at threads k
    → nat_eq next id ≡ offers (map (λ s. alt.New (next_id_at threads s)) free) (alt.New id)
id_on_free threads id k next free is within has is_next =
    swapped next id
    ∙ ap (nat_eq id) is_next
    ∙ ap (λ b. b && nat_eq id (next_id_at threads k)) (sym has)
    ∙ sym (id_offered threads id k is free within)

-- an id on a slot that is not in the set
pub id_on_held : (threads : List Slot) (id k : ℕ) (free : List ℕ) → (id - 1) % length threads ≡ k → All (λ s. s < length threads) free → has_slot free k ≡ false → false ≡ offers (map (λ s. alt.New (next_id_at threads s)) free) (alt.New id)
id_on_held threads id k free is within has = sym (id_offered threads id k is free within ∙ ap (λ b. b && nat_eq id (next_id_at threads k)) has)

-- no thread gets the id 0
pub zero_offered : (threads : List Slot) (id : ℕ) (free : List ℕ) → id ≡ 0 → false ≡ offers (map (λ s. alt.New (next_id_at threads s)) free) (alt.New id)
zero_offered threads id free is =
    sym (none_offered (λ s. alt.New (next_id_at threads s)) (alt.New id) (λ s. ne_eqb id (next_id_at threads s) (λ e. omega (arith, e, is))) free)
