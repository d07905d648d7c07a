-- While the verdict is `Open`, the scheduler chooses an entry.
use Rattle.pct_names.proofs.Names.{◌%◌, ◌++◌, ◌<◌, [], All, All-append, All-map, All-nil, Alt, and_parts, ap, arith, Bool, Candidate, cond}
use Rattle.pct_names.proofs.Names.{Config, Entry, entry_for, false, false≢true, Family, filter, filter_passes, get_or, has_timeouts}
use Rattle.pct_names.proofs.Names.{is_enabled, is_none, is_some, item_at, length, length-map, List, list_all, list_any, map, nat_eq, None}
use Rattle.pct_names.proofs.Names.{not, not-true, Option, option_and_then, option_map, refl, Script, slice_get-get_or, Some, Thread, true}
use Rattle.pct_names.proofs.Names.{Why, ◌||◌, ℕ, ◌∙◌, ◌∷◌, ◌≡◌}
use Rattle.std.proofs.Common.{length-append}
use Rattle.std.specs.List.{flat_map}
use Rattle.pct_model.specs.declared.stop.Verdict.TheVariants as verdict
use Rattle.pct_engine_laws.specs.Seen.{SeenProcess, Seen, threads_on, family_in}
use Rattle.pct_engine_laws.specs.SeenSteps.{is_ready_in, ready_in, candidate_in, seen_candidates, seen_chosen, has_ready_in, seen_verdict, seen_verdict_by}

-- an item of a list that is not empty
item : {A : Type 0} (P : A → Type 0) (xs : List A) (n : ℕ) → 0 < length xs → All P xs → (x : A) × (item_at xs n ≡ Some x) × P x
item P [] n some each = absurd (omega arith)
item P (y ∷ ys) n some each =
    let k : ℕ = n % length (y ∷ ys) in
    let inside : k < length (y ∷ ys) = omega arith in
    (get_or (y ∷ ys) k y, slice_get-get_or (y ∷ ys) k y inside, each k y inside)

some_choice : (choices : List Alt) → is_enabled choices ≡ true → 0 < length choices
some_choice [] enabled = absurd (false≢true enabled)
some_choice (c ∷ rest) enabled = omega arith

some_left : {A : Type 0} (p : A → Bool) (xs : List A) → list_any p xs ≡ true → 0 < length (filter p xs)
some_left p [] some = absurd (false≢true some)
some_left p (x ∷ xs) some = either (p x) some (some_left p xs) where
  either : (b : Bool) → (b || list_any p xs) ≡ true → (list_any p xs ≡ true → 0 < length (filter p xs)) → 0 < length (cond b (x ∷ filter p xs) (filter p xs))
  either true some rest = omega arith
  either false some rest = rest some

-- ---- the candidates

abbrev HasChoice : Candidate → Type 0
HasChoice c = is_enabled c.choices ≡ true

module _ (script : Script) (timeouts : Bool) (slots : ℕ) (seen_by : ℕ → Family) where
  abbrev ready_here : SeenProcess → List Candidate
  ready_here p = map (candidate_in script timeouts slots (seen_by p.pid) p) (ready_in script timeouts slots (seen_by p.pid) p)

  -- each has a choice
  each_here : (p : SeenProcess) → All HasChoice (ready_here p)
  each_here p = All-map HasChoice (candidate_in script timeouts slots (seen_by p.pid) p) (ready_in script timeouts slots (seen_by p.pid) p) (by (is_some p.ended)) where
    by : (b : Bool) → All (λ t. HasChoice (candidate_in script timeouts slots (seen_by p.pid) p t)) (cond b [] (filter (is_ready_in script timeouts slots (seen_by p.pid) p) (threads_on p.slots)))
    by true = All-nil (λ t. HasChoice (candidate_in script timeouts slots (seen_by p.pid) p t))
    by false = filter_passes (is_ready_in script timeouts slots (seen_by p.pid) p) (threads_on p.slots)

  each_of : (ps : List SeenProcess) → All HasChoice (flat_map ready_here ps)
  each_of [] = All-nil HasChoice
  each_of (p ∷ ps) = All-append HasChoice (ready_here p) (flat_map ready_here ps) (each_here p) (each_of ps)

  -- a process has one, if it has not ended and a thread is ready
  some_here : (p : SeenProcess) → has_ready_in script timeouts slots (seen_by p.pid) p ≡ true → 0 < length (ready_here p)
  some_here p has =
      let parts = and_parts (not (is_some p.ended)) (list_any (is_ready_in script timeouts slots (seen_by p.pid) p) (threads_on p.slots)) has in
      let ready : List Thread = filter (is_ready_in script timeouts slots (seen_by p.pid) p) (threads_on p.slots) in
      let here : length (ready_here p) ≡ length ready = length-map (ready_in script timeouts slots (seen_by p.pid) p) (candidate_in script timeouts slots (seen_by p.pid) p) ∙ ap (λ b. length (cond b [] ready)) (not-true (is_some p.ended) parts.0) in
      omega (arith, here, some_left (is_ready_in script timeouts slots (seen_by p.pid) p) (threads_on p.slots) parts.1)

  some_of : (ps : List SeenProcess) → list_any (λ p. has_ready_in script timeouts slots (seen_by p.pid) p) ps ≡ true → 0 < length (flat_map ready_here ps)
  some_of [] some = absurd (false≢true some)
  some_of (p ∷ ps) some = either (has_ready_in script timeouts slots (seen_by p.pid) p) refl some (some_of ps) where
    either : (b : Bool) → has_ready_in script timeouts slots (seen_by p.pid) p ≡ b → (b || list_any (λ p. has_ready_in script timeouts slots (seen_by p.pid) p) ps) ≡ true → (list_any (λ p. has_ready_in script timeouts slots (seen_by p.pid) p) ps ≡ true → 0 < length (flat_map ready_here ps)) → 0 < length (ready_here p ++ flat_map ready_here ps)
    either true has some rest = omega (arith, some_here p has, length-append (ready_here p) (flat_map ready_here ps))
    either false has some rest = omega (arith, rest some, length-append (ready_here p) (flat_map ready_here ps))

-- ---- the verdict

-- what the verdict `Open` says
by_tests : (ended dead full : Bool) → cond ended verdict.Complete (cond (not dead) verdict.Deadlock (cond full verdict.Budget verdict.Open)) ≡ verdict.Open → dead ≡ true
by_tests true dead full is = absurd cc
by_tests false false full is = absurd cc
by_tests false true full is = refl

open_says : (stop : Option Why) (script : Script) (config : Config) (v : Seen) (n : ℕ) → seen_verdict_by stop script config v n ≡ verdict.Open → (is_none stop ≡ true) × (list_any (λ p. has_ready_in script (has_timeouts config.format) config.slots (family_in v p.pid) p) v.processes ≡ true)
open_says (Some why) script config v n is = absurd cc
open_says None script config v n is =
    (refl, by_tests (list_all (λ p. is_some p.ended) v.processes) (list_any (λ p. has_ready_in script (has_timeouts config.format) config.slots (family_in v p.pid) p) v.processes) (nat_eq n config.budget) is)

pub open_chooses : (script : Script) (config : Config) (v : Seen) (n worker a b : ℕ) → seen_verdict script config v n ≡ verdict.Open → is_some (seen_chosen script config v worker a b) ≡ true
unfolding seen_verdict seen_candidates
open_chooses script config v n worker a b is =
    let says = open_says v.stop script config v n is in
    let thread = item HasChoice (seen_candidates script config v) a (some_of script (has_timeouts config.format) config.slots (family_in v) v.processes says.1) (each_of script (has_timeouts config.format) config.slots (family_in v) v.processes) in
    let choice = item (λ c. Unit {0}) thread.0.choices b (some_choice thread.0.choices thread.2) (λ k d inside. tt) in
    let entry : Alt → Entry = λ c. record { worker = worker; pid = thread.0.pid; tid = thread.0.tid; alt = c } in
    ap (λ t. is_some (cond t (option_and_then (entry_for worker b) (item_at (seen_candidates script config v) a)) None)) says.0
    ∙ ap (λ (o : Option Candidate). is_some (option_and_then (entry_for worker b) o)) thread.1
    ∙ ap (λ (o : Option Alt). is_some (option_map (λ (c : Alt). entry c) o)) choice.1
