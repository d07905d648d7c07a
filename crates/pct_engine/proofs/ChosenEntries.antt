-- The entry that two numbers choose for a worker.
use Rattle.pct_names.proofs.Names.{Entry, inl, inr, length, none-some, refl, Run, Some, sym, Verdict, verdict_of, ℕ, ◌≡◌, ◌⊎◌}
use Rattle.pct_model.specs.declared.stop.Verdict.TheVariants as verdict
use Rattle.pct_engine.specs.EngineStates.{EngineValue, IsRunWith, IsChoice}

open_or_not : (v : Verdict) → (v ≡ verdict.Open) ⊎ (v ≡ verdict.Open → ⊥)
open_or_not verdict.Complete = inr (λ same. cc)
open_or_not verdict.Deadlock = inr (λ same. cc)
open_or_not verdict.Budget = inr (λ same. cc)
open_or_not (verdict.Undefined why) = inr (λ same. cc)
open_or_not verdict.Open = inl refl

-- if there is a choice, the verdict is `Open`
open_by : (engine : EngineValue) (after : Run) (worker a b : ℕ) (e : Entry) → IsChoice engine after worker a b (Some e)
    → (verdict_of engine.script engine.config after.world (length engine.history) ≡ verdict.Open) ⊎ (verdict_of engine.script engine.config after.world (length engine.history) ≡ verdict.Open → ⊥)
    → verdict_of engine.script engine.config after.world (length engine.history) ≡ verdict.Open
open_by engine after worker a b e choice (inl is_open) = is_open
open_by engine after worker a b e choice (inr is_closed) = absurd (none-some e (sym (choice.closed is_closed)))

pub is_open : (engine : EngineValue) (after : Run) (worker a b : ℕ) (e : Entry) → IsChoice engine after worker a b (Some e) → verdict_of engine.script engine.config after.world (length engine.history) ≡ verdict.Open
is_open engine after worker a b e choice = open_by engine after worker a b e choice (open_or_not (verdict_of engine.script engine.config after.world (length engine.history)))

-- the entry that is chosen is legal
pub chosen-legal : (engine : EngineValue) (after : Run) (worker a b : ℕ) (e : Entry) → IsChoice engine after worker a b (Some e) → IsRunWith engine e
chosen-legal engine after worker a b e choice = choice.legal (is_open engine after worker a b e choice)
