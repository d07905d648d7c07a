-- The known ids of a process are those of its known threads.
use Rattle.std.proofs.Common.{◌≡◌, ℕ, Bool, true, false, ◌&&◌, ◌||◌, cond, List, [], ◌∷◌, refl, sym, ap, ap₂, ◌∙◌, nat_eq}
use Rattle.std.proofs.Common.{true≢false, eq-eqb}
use Rattle.std.specs.List.{list_any, list_all}
use Rattle.std.proofs.lemmas.Bool.{and_parts, and_from, eqb-true}
use Rattle.std.proofs.lemmas.List.Folds.{list_any-append}
use Rattle.std.proofs.Math.Bool.{or_assoc, or-false}
use Rattle.pct_model.specs.declared.event.Event.{Event}
use Rattle.pct_model.specs.declared.event.What.{What}
use Rattle.pct_model.specs.declared.event.What.TheVariants as what
use Rattle.pct_laws.specs.KnownThreads.{is_in, makes_process, is_fork_of, creates_id, is_known}
use Rattle.pct_laws.specs.KnownIds.{created_ids, new_ids, known_ids}

-- the id is one of some
abbrev pub is_among : ℕ → List ℕ → Bool
is_among id ids = list_any (λ tid. nat_eq tid id) ids

or_later : (a b : Bool) → b ≡ true → (a || b) ≡ true
or_later true b is = refl
or_later false b is = is

-- a test that each of some ids passes
pub all_from_members : (p : ℕ → Bool) (ids : List ℕ) → ((id : ℕ) → is_among id ids ≡ true → p id ≡ true) → list_all p ids ≡ true
all_from_members p [] passes = refl
all_from_members p (id ∷ ids) passes =
    and_from (p id) (list_all p ids) (passes id (ap (λ b. b || is_among id ids) (eq-eqb id id refl)))
    (all_from_members p ids (λ other is. passes other (or_later (nat_eq id other) (is_among other ids) is)))

-- each of some ids passes a test that all pass
pub member_passes : (p : ℕ → Bool) (ids : List ℕ) (id : ℕ) → list_all p ids ≡ true → is_among id ids ≡ true → p id ≡ true
member_passes p [] id all among = absurd (true≢false (sym among))
member_passes p (first ∷ ids) id all among =
    let parts = and_parts (p first) (list_all p ids) all in
    here (nat_eq first id) refl parts.0 (member_passes p ids id parts.1) among
  where
    here : (same : Bool) → nat_eq first id ≡ same → p first ≡ true → (is_among id ids ≡ true → p id ≡ true)
        → (same || is_among id ids) ≡ true → p id ≡ true
    here true is passes later among = ap p (sym (eqb-true first id is)) ∙ passes
    here false is passes later among = later among

module _ (tid : ℕ) where
  among_created : (w : What) → is_among tid (created_ids w) ≡ creates_id tid w
  among_created (what.Created id detached) = or-false (nat_eq id tid)
  among_created _ = refl

  among_if : (b : Bool) (ids : List ℕ) (is : Bool) → is_among tid ids ≡ is → is_among tid (cond b ids []) ≡ (b && is)
  among_if true ids is same = same
  among_if false ids is same = refl

  among_forker : (same makes : Bool) (id : ℕ) → nat_eq id tid ≡ same → is_among tid (cond makes (id ∷ []) []) ≡ (same && makes)
  among_forker true true id is = ap (λ b. b || false) is
  among_forker false true id is = ap (λ b. b || false) is
  among_forker true false id is = refl
  among_forker false false id is = refl

  among_new : (pid : ℕ) (e : Event) → is_among tid (new_ids pid e) ≡ ((is_in pid e && creates_id tid e.what) || is_fork_of pid tid e)
  among_new pid e =
      list_any-append (λ (id : ℕ). nat_eq id tid) (cond (is_in pid e) (created_ids e.what) [])
      (cond (makes_process pid e.what) (e.tid ∷ []) [])
      ∙ ap₂ (λ (a b : Bool). a || b) (among_if (is_in pid e) (created_ids e.what) (creates_id tid e.what) (among_created e.what))
      (among_forker (nat_eq e.tid tid) (makes_process pid e.what) e.tid refl)

  -- a thread is known exactly if its id is a known one
  pub among_known : (pid : ℕ) (events : List Event) → is_among tid (known_ids pid events) ≡ is_known pid tid events
  among_known pid [] = among_if (nat_eq 1 pid) (1 ∷ []) (nat_eq 1 tid) (or-false (nat_eq 1 tid))
  among_known pid (e ∷ earlier) =
      list_any-append (λ (id : ℕ). nat_eq id tid) (new_ids pid e) (known_ids pid earlier)
      ∙ ap₂ (λ (a b : Bool). a || b) (among_new pid e) (among_known pid earlier)
      ∙ or_assoc (is_in pid e && creates_id tid e.what) (is_fork_of pid tid e) (is_known pid tid earlier)
