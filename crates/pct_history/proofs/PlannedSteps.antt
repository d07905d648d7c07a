-- The steps of planned entries.
use Rattle.pct_names.proofs.Names.{◌+◌, ◌++◌, ◌<◌, [], ap, arith, Config, drop, Entry, first_illegal, get_or, is_some, length, List}
use Rattle.pct_names.proofs.Names.{Run, run, Script, Some, subst, sym, take, true, ℕ, ◌∙◌, ◌∷◌, ◌≡◌, ◌≤◌}
use lib.Seq.{drop-cons, drop-drop, take-add}
use Rattle.pct_engine.specs.EngineStates.{EngineValue, IsRunOf}
use Rattle.pct_engine.specs.PlannedRuns.{IsNextLegal, PlannedValue}
use Rattle.pct_history.proofs.IllegalEntries.{has_value, illegal-at}

-- the first entry of a list that has one
first_of : (entries : List Entry) → 0 < length entries → Entry
first_of [] some = absurd (omega (arith, some))
first_of (e ∷ entries) some = e

-- the entries before an index and the next are those before the next index
made_more : (entries : List Entry) (i : ℕ) → take i entries ++ take 1 (drop i entries) ≡ take (i + 1) entries
made_more entries i = sym (take-add i 1 entries)

-- the entries from an index on without the first are those from the next index on
planned_more : (entries : List Entry) (i : ℕ) → drop 1 (drop i entries) ≡ drop (i + 1) entries
planned_more entries i = drop-drop 1 i entries

abbrev engine_at : Script → Config → List Entry → ℕ → EngineValue
engine_at script config entries i = record { script = script; config = config; history = take i entries }

-- a run has made the steps of the entries before an index, and the others are still planned
module _ (r : PlannedValue) (script : Script) (config : Config) (entries : List Entry) (i : ℕ) (made : r.engine ≡ engine_at script config entries i) (planned : r.planned ≡ drop i entries) where
  -- the entry at the index is not legal: it is the first
  pub illegal-next : i < length entries → length entries ≤ config.budget → is_some (run script config (take i entries)) ≡ true → (IsNextLegal r → ⊥) → first_illegal script config entries ≡ Some (i + 1)
  illegal-next within few legal illegal =
      let d = first_of entries (omega (arith, within)) in
      let next : take 1 r.planned ≡ get_or entries i d ∷ [] = ap (take 1) (planned ∙ drop-cons entries i d within) in
      illegal-at r.engine script config entries i d made within few legal
      (λ with_it. illegal (subst (λ (xs : List Entry). is_some (run r.engine.script r.engine.config (r.engine.history ++ xs)) ≡ true) (sym next) with_it))

  -- it is legal: so are the entries before the next index
  pub legal-next : IsNextLegal r → is_some (run script config (take (i + 1) entries)) ≡ true
  legal-next legal =
      sym ((λ j. is_some (run (made j).script (made j).config ((made j).history ++ take 1 (planned j)))) ∙ ap (λ (xs : List Entry). is_some (run script config xs)) (made_more entries i)) ∙ legal

  -- after its step
  pub made-next : (next : PlannedValue) → next ≡ record { engine = record r.engine { history = r.engine.history ++ take 1 r.planned }; planned = drop 1 r.planned } → next.engine ≡ engine_at script config entries (i + 1)
  made-next next is =
      ap (λ (q : PlannedValue). q.engine) is
      ∙ (λ j. record { script = (made j).script; config = (made j).config; history = (made j).history ++ take 1 (planned j) })
      ∙ ap (λ (xs : List Entry). record { script = script; config = config; history = xs }) (made_more entries i)

  pub planned-next : (next : PlannedValue) → next ≡ record { engine = record r.engine { history = r.engine.history ++ take 1 r.planned }; planned = drop 1 r.planned } → next.planned ≡ drop (i + 1) entries
  planned-next next is = ap (λ (q : PlannedValue). q.planned) is ∙ ap (drop 1) planned ∙ planned_more entries i

  -- the run of its engine
  pub run-there : is_some (run script config (take i entries)) ≡ true → (after : Run) × IsRunOf r.engine after
  run-there legal = subst (λ (v : EngineValue). (after : Run) × IsRunOf v after) (sym made) (has_value (run script config (take i entries)) legal)
