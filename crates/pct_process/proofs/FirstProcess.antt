-- The first process before the first step is that of the initial state.
use Rattle.pct_names.proofs.Names.{◌*◌, ◌+◌, ◌<◌, [], ap, arith, false, ForkHandlers, get_or-replicate, length, length-map}
use Rattle.pct_names.proofs.Names.{length-replicate, List, Main, main_of, map, map-set, MAX_DECLARED, names_of, no_keys, no_values, None}
use Rattle.pct_names.proofs.Names.{cases_lt, get_or_past, inl, inr, option_map, subst, true}
use Rattle.pct_names.proofs.Names.{Option, refl, replicate, Script, SemDecl, slice_set, Some, suc, sym, zero, zero-mod, ℕ, ◌∙◌, ◌∷◌, ◌≡◌}
use Rattle.pct_names.proofs.Names.{◌≤◌}
use Rattle.pct_model.specs.declared.line_kind.SymbolKind.TheVariants as kind
use Rattle.pct_model.specs.declared.state.OnceState.{OnceState}
use Rattle.pct_model.specs.declared.state.OnceState.TheVariants.{Fresh}
use Rattle.pct_model.proofs.StaticFacts.{limits_kept}
use Rattle.pct_threads.specs.Slots.{Held, Slot, unused, created, with_change, with_call_alone}
use Rattle.pct_threads.specs.Tables.{slot_at, held_at, next_id_at, on_held, with_created}
use Rattle.pct_threads.proofs.TableLemmas.{length-on_slot, on_slot-then}
use Rattle.pct_keys.specs.Tables.{Table, new_table}
use Rattle.pct_engine_laws.specs.Seen.{SeenSlot}
use Rattle.pct_engine_laws.proofs.OpeningSeen.{first_on_slot, first_thread, first_slots, one_thread_on_first}
use Rattle.pct_process.specs.ThreadViews.{threads_of, slot_view}
use Rattle.pct_process.specs.ProcessViews.{with_row, slots_of, shared_of, first_data}
use Rattle.pct_process.specs.declared.standings.Standing.TheVariants as standing
use Rattle.pct_process.specs.Standings.{AreStandings, no_standings, with_standing}
use Rattle.pct_process.proofs.StandingsKept.{StandsAs, changed_stands, standings_none, standings_kept-on_slot, standings_put-on_slot}

-- a script declares few globals, mutexes, semaphores and once controls
pub few_declared : (script : Script) → (length script.globals ≤ MAX_DECLARED) × (length script.mutexes ≤ MAX_DECLARED) × (length script.sems ≤ MAX_DECLARED) × (length script.onces ≤ MAX_DECLARED)
few_declared s =
    let limits = (limits_kept (record { globals = s.globals; mutexes = s.mutexes; conds = s.conds; sems = s.sems; onces = s.onces; funcs = s.funcs }) s.passes_checks).kinds in
    (limits kind.Global, limits kind.Mutex, omega (arith, limits kind.Sem, length-map s.sems (λ (d : SemDecl). d.name)), limits kind.Once)

map-replicate : {A B : Type 0} (f : A → B) (n : ℕ) (x : A) → map f (replicate n x) ≡ replicate n (f x)
map-replicate f zero x = refl
map-replicate f (suc n) x = ap (λ ys. f x ∷ ys) (map-replicate f n x)

-- a slot of a table on which no thread was created
pub free_slot : (n k : ℕ) → slot_at (replicate n unused) k ≡ unused
free_slot n k = elim (cases_lt k n) [
  | inl inside ↦ get_or-replicate n k unused unused inside
  | inr past ↦ get_or_past (replicate n unused) k unused (omega (arith, past, length-replicate n unused))
]

-- the table of the first thread
abbrev pub first_table : ℕ → ℕ → List Slot
first_table n func = on_held 0 (with_call_alone func 0 Main) (with_created 0 func 0 false (replicate n unused))

-- the first slot, after its thread was created with this function and an id
abbrev first_slot : ℕ → ℕ → Slot → Slot
first_slot func id s = with_change (with_call_alone func 0 Main) (created id func 0 false s)

first_table-is : (n func : ℕ) → 0 < n → first_table n func ≡ slice_set (replicate n unused) 0 (first_slot func 1 unused)
first_table-is n func some =
    let empty : List Slot = replicate n unused in
    let id : 1 + 0 + length empty * 0 ≡ 1 = omega arith in
    on_slot-then 0 (created (next_id_at empty 0) func 0 false) (with_change (with_call_alone func 0 Main)) empty
    ∙ ap (λ (s : Slot). slice_set empty 0 (first_slot func (1 + 0 + length empty * s.made) s)) (get_or-replicate n 0 unused unused some)
    ∙ ap (λ (k : ℕ). slice_set empty 0 (first_slot func k unused)) id

-- no thread has data
no_data : (n : ℕ) (threads : List Slot) → slots_of (replicate n no_values) threads ≡ map slot_view threads
no_data n [] = refl
no_data zero (s ∷ threads) = refl
no_data (suc n) (s ∷ threads) = ap (λ (x : SeenSlot). x ∷ slots_of (replicate n no_values) threads) (by s.here) ∙ ap (λ (rest : List SeenSlot). slot_view s ∷ rest) (no_data n threads) where
  by : (o : Option Held) → with_row no_values (record { made = s.made; here = threads_of o }) ≡ record { made = s.made; here = threads_of o }
  by None = refl
  by (Some h) = refl

-- the slots of the first process
slots-of_first : (script : Script) (n : ℕ) → 0 < n → slots_of (replicate n no_values) (first_table n (main_of (names_of script.funcs))) ≡ first_slots n (first_thread script)
slots-of_first script n some =
    no_data n (first_table n (main_of (names_of script.funcs)))
    ∙ ap (map slot_view) (first_table-is n (main_of (names_of script.funcs)) some)
    ∙ map-set slot_view (replicate n unused) 0 (first_slot (main_of (names_of script.funcs)) 1 unused)
    ∙ ap (λ (rows : List SeenSlot). slice_set rows 0 (first_on_slot (first_thread script))) (map-replicate slot_view n unused)

-- the data of the first process
pub data-first : (script : Script) (n func : ℕ) (threads : List Slot) (keys : Table) (globals owners counts : List ℕ) (onces : List OnceState) (handlers : List ForkHandlers) (functions : List ℕ) → 0 < n → func ≡ main_of (names_of script.funcs) → threads ≡ first_table n func → keys ≡ new_table n
    → globals ≡ replicate (length script.globals) 0 → owners ≡ replicate (length script.mutexes) 0 → counts ≡ map (λ d. d.count) script.sems → onces ≡ replicate (length script.onces) Fresh → handlers ≡ [] → functions ≡ []
    → record { slots = slots_of keys.rows threads; shared = shared_of globals owners counts onces keys.places handlers functions None false } ≡ first_data n script
data-first script n func threads keys globals owners counts onces handlers functions some main made none zeros free counted uncalled unhandled unregistered =
    let table : threads ≡ first_table n (main_of (names_of script.funcs)) = made ∙ ap (first_table n) main in
    ap (λ (k : Table). record { slots = slots_of k.rows threads; shared = shared_of globals owners counts onces k.places handlers functions None false }) none
    ∙ ap (λ (ts : List Slot). record { slots = slots_of (replicate n no_values) ts; shared = shared_of globals owners counts onces no_keys handlers functions None false }) table
    ∙ ap (λ (rows : List SeenSlot). record { slots = rows; shared = shared_of globals owners counts onces no_keys handlers functions None false }) (slots-of_first script n some ∙ sym (one_thread_on_first n (first_thread script) some (zero-mod n) refl))
    ∙ (λ i. record { slots = (first_data n script).slots; shared = shared_of (zeros i) (free i) (counted i) (uncalled i) no_keys (unhandled i) (unregistered i) None false })

-- each slot has a row
pub rows-first : (n func : ℕ) (threads : List Slot) (keys : Table) → threads ≡ first_table n func → keys ≡ new_table n → length keys.rows ≡ length threads
rows-first n func threads keys made none =
    ap (λ (table : Table). length table.rows) none
    ∙ length-replicate n no_values
    ∙ sym (length-replicate n unused)
    ∙ sym (length-on_slot 0 (created (next_id_at (replicate n unused) 0) func 0 false) (replicate n unused))
    ∙ sym (length-on_slot 0 (with_change (with_call_alone func 0 Main)) (with_created 0 func 0 false (replicate n unused)))
    ∙ sym (ap length made)

changed_alone : (func : ℕ) (here : Option Held) → StandsAs here (option_map (with_call_alone func 0 Main) here)
changed_alone func here = changed_stands (with_call_alone func 0 Main) (λ h. refl) (λ h. refl) here

-- how its threads stand: the first has not ended
pub standings-first : (n func : ℕ) (threads : List Slot) → 0 < n → threads ≡ first_table n func → AreStandings (with_standing 0 standing.Other true no_standings) threads
standings-first n func threads some made =
    let empty : List Slot = replicate n unused in
    let long : length empty ≡ n = length-replicate n unused in
    let with_one : List Slot = with_created 0 func 0 false empty in
    let created_stands : AreStandings (with_standing 0 standing.Other true no_standings) with_one =
    standings_put-on_slot no_standings empty (standings_none empty (λ k small. ap (λ (s : Slot). s.here) (free_slot n k))) 0 (omega (arith, some, long)) (created (next_id_at empty 0) func 0 false) (omega arith) standing.Other true refl refl in
    subst (λ (table : List Slot). AreStandings (with_standing 0 standing.Other true no_standings) table) (sym made)
    (standings_kept-on_slot (with_standing 0 standing.Other true no_standings) with_one created_stands 0 (omega (arith, some, long, length-on_slot 0 (created (next_id_at empty 0) func 0 false) empty)) (with_change (with_call_alone func 0 Main)) (changed_alone func (held_at with_one 0)))
