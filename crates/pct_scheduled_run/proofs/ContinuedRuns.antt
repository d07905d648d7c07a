-- Runs that go on as a scheduler chooses, an entry after the other.
use Rattle.pct_names.proofs.Names.{◌+◌, ◌++◌, ◌<◌, [], ap, arith, chosen, Config, Entry, is_some, length, List, None, Option, refl, Run}
use Rattle.pct_names.proofs.Names.{run, same_Some, Script, slice_get, Some, subst, suc, sym, take-append_seam, true, zero, ℕ, ◌∙◌, ◌∷◌, ◌≡◌}
use Rattle.std.proofs.Common.{append-nil, length-append}
use Rattle.std.proofs.lemmas.List.{append_assoc}
use Rattle.pct_engine.specs.EngineStates.{EngineValue, IsChoice, IsRunOf}
use Rattle.pct_engine.proofs.ChosenEntries.{chosen-legal, is_open}
use Rattle.pct_engine_laws.proofs.LongerRuns.{run_parts}
use Rattle.pct_scheduled_run.specs.ScheduledRuns.{IsChosenAt, IsContinuedBy}

pub has_value : {A : Type 0} (o : Option A) → is_some o ≡ true → (x : A) × (o ≡ Some x)
has_value None is = absurd cc
has_value (Some x) is = (x, refl)

-- the run has room for an entry that is chosen
pub within_budget : (engine : EngineValue) (after : Run) (worker a b : ℕ) (e : Entry) → IsChoice engine after worker a b (Some e) → length engine.history < engine.config.budget
within_budget engine after worker a b e choice =
    let more = has_value (run engine.script engine.config (engine.history ++ e ∷ [])) (chosen-legal engine after worker a b e choice) in
    let within = (run_parts engine.script engine.config (engine.history ++ e ∷ []) more.0 more.1).within in
    omega (arith, within, length-append engine.history (e ∷ []))

pub get_front : {A : Type 0} (xs ys : List A) (k : ℕ) → k < length xs → slice_get (xs ++ ys) k ≡ slice_get xs k
get_front [] ys k within = absurd (omega (arith, within))
get_front (x ∷ xs) ys zero within = refl
get_front (x ∷ xs) ys (suc k) within = get_front xs ys k (omega (arith, within))

pub get_seam : {A : Type 0} (xs ys : List A) (x : A) → slice_get (xs ++ x ∷ ys) (length xs) ≡ Some x
get_seam [] ys x = refl
get_seam (z ∷ xs) ys x = get_seam xs ys x

-- an entry that was chosen comes after those before it
pub chosen_next : (draws : ℕ → ℕ × ℕ) (worker turn : ℕ) (script : Script) (config : Config) (entries rest : List Entry) (e : Entry) (after : Run) → run script config entries ≡ Some after
    → Some e ≡ chosen script config after.world worker (draws turn).0 (draws turn).1 → IsChosenAt draws worker script config (entries ++ e ∷ rest) (length entries) turn
chosen_next draws worker turn script config entries rest e after is_run picked before is =
    let same : after ≡ before = same_Some after before (sym is_run ∙ ap (run script config) (sym (take-append_seam entries (e ∷ rest))) ∙ is) in
    get_seam entries rest e ∙ picked ∙ ap (λ (r : Run). chosen script config r.world worker (draws turn).0 (draws turn).1) same

-- a run to its end goes on from itself
pub continued_none : (draws : ℕ → ℕ × ℕ) (worker a b : ℕ) (engine : EngineValue) (after : Run) → IsRunOf engine after → IsChoice engine after worker a b None
    → IsContinuedBy draws worker engine.script engine.config engine.history engine.history
continued_none draws worker a b engine after is_run choice = record {
  whole = record { after = after; is_run = is_run; is_closed = choice.legal };
  rest = [];
  begins = sym (append-nil engine.history);
  choices = λ k within. absurd (omega (arith, within));
}

-- a run that goes on from an entry that was chosen goes on from before it
module _ (draws then : ℕ → ℕ × ℕ) (worker : ℕ) (engine : EngineValue) (after : Run) (e : Entry) (entries : List Entry) (shifted : (turn : ℕ) → then turn ≡ draws (suc turn)) (is_run : IsRunOf engine after)
    (choice : IsChoice engine after worker (draws 0).0 (draws 0).1 (Some e)) (continued : IsContinuedBy then worker engine.script engine.config (engine.history ++ e ∷ []) entries) where
  split : entries ≡ engine.history ++ e ∷ continued.rest
  split = continued.begins ∙ append_assoc engine.history (e ∷ []) continued.rest

  by_turn : (k : ℕ) → length engine.history + k < length entries → IsChosenAt draws worker engine.script engine.config entries (length engine.history + k) k
  by_turn zero within =
      let picked = choice.scheduled (is_open engine after worker (draws 0).0 (draws 0).1 e choice) in
      let first : length engine.history ≡ length engine.history + 0 = omega arith in
      subst (λ (place : ℕ). IsChosenAt draws worker engine.script engine.config entries place 0) first
      (subst (λ (xs : List Entry). IsChosenAt draws worker engine.script engine.config xs (length engine.history) 0) (sym split) (chosen_next draws worker 0 engine.script engine.config engine.history continued.rest e after is_run picked))
  by_turn (suc k) within = λ before is.
      let place : length (engine.history ++ e ∷ []) + k ≡ length engine.history + suc k = omega (arith, length-append engine.history (e ∷ [])) in
      let later = subst (λ (at : ℕ). IsChosenAt then worker engine.script engine.config entries at k) place (continued.choices k (omega (arith, place, within))) in
      later before is ∙ ap (λ (pair : ℕ × ℕ). chosen engine.script engine.config before.world worker pair.0 pair.1) (shifted k)

  pub continued_more : IsContinuedBy draws worker engine.script engine.config engine.history entries
  continued_more = record { whole = continued.whole; rest = e ∷ continued.rest; begins = split; choices = by_turn }
