-- Entries that were chosen, in histories that grow.
use Rattle.pct_names.proofs.Names.{◌+◌, ◌++◌, ◌<◌, All, ap, arith, Config, Entry, get_or, get_or-append-add, length, List, Run}
use Rattle.pct_names.proofs.Names.{run, Script, slice_get-get_or, Some, subst, sym, take-append-le, ℕ, ◌∙◌, ◌≡◌}
use Rattle.std.proofs.Common.{length-append}
use Rattle.pct_scheduled_run.specs.ScheduledRuns.{AreChosenBy, IsChosenAt}
use Rattle.pct_scheduled_run.proofs.ContinuedRuns.{get_front}
use Rattle.pct_scheduled_run.proofs.WholeRuns.{first_run}
use Rattle.pct_shared.specs.Views.{IsPrefix}
use Rattle.pct_shared.proofs.ChosenWorkers.{chosen-worker}

-- an entry that was chosen is so in each history that begins with its own
pub chosen_with_more : (draws : ℕ → ℕ × ℕ) (worker : ℕ) (script : Script) (config : Config) (entries rest : List Entry) (place turn : ℕ) → place < length entries
    → IsChosenAt draws worker script config entries place turn → IsChosenAt draws worker script config (entries ++ rest) place turn
chosen_with_more draws worker script config entries rest place turn within chosen_at before is =
    get_front entries rest place within
    ∙ chosen_at before (ap (run script config) (sym (take-append-le place entries rest (omega (arith, within)))) ∙ is)

pub chosen_in_longer : (draws : ℕ → ℕ × ℕ) (worker : ℕ) (script : Script) (config : Config) (xs ys : List Entry) (place turn : ℕ) → IsPrefix xs ys → place < length xs
    → IsChosenAt draws worker script config xs place turn → IsChosenAt draws worker script config ys place turn
chosen_in_longer draws worker script config xs ys place turn front within chosen_at =
    subst (λ (entries : List Entry). IsChosenAt draws worker script config entries place turn) (sym front.all_is) (chosen_with_more draws worker script config xs front.rest place turn within chosen_at)

-- the entries after the first ones of a run have the number of the worker that chose them
pub numbers_after : (draws : ℕ → ℕ × ℕ) (worker : ℕ) (script : Script) (config : Config) (begun rest : List Entry) (end : Run) → run script config (begun ++ rest) ≡ Some end
    → AreChosenBy draws worker script config (length begun) (begun ++ rest) → All (λ e. e.worker ≡ worker) rest
numbers_after draws worker script config begun rest end is choices k d within =
    let entries = begun ++ rest in
    let place = length begun + k in
    let inside : place < length entries = omega (arith, within, length-append begun rest) in
    let before = first_run script config entries end place is (omega (arith, inside)) in
    chosen-worker script config before.0.world worker (draws k).0 (draws k).1 (get_or rest k d)
    (sym (choices k inside before.0 before.1)
    ∙ slice_get-get_or entries place d inside
    ∙ ap (λ (e : Entry). Some e) (get_or-append-add begun rest k d))
