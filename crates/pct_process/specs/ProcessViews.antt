-- What the tables of a process represent: its slots, and the state that its threads share, as the definitions have them.
use Rattle.std.specs.Prelude.{◌≡◌, ℕ, Bool, true, not, List, [], ◌∷◌, map, slice_index_or, Option, Some, None, is_some, option_map}
use Rattle.pct_model.specs.declared.process.ForkHandlers.{ForkHandlers}
use Rattle.pct_model.specs.declared.script.Script.{Script}
use Rattle.pct_model.specs.declared.state.OnceState.{OnceState}
use Rattle.pct_model.specs.Keys.{KeyPlace, KeyValues}
use Rattle.pct_model.specs.World.{Thread, SharedState, new_shared, first_process}
use Rattle.pct_threads.specs.Slots.{Slot}
use Rattle.pct_engine_laws.specs.Seen.{SeenSlot, seen_process, slot_inherited, is_last_in}
use Rattle.pct_process.specs.ThreadViews.{slot_view, with_specific}

-- ---- slots

-- a slot whose thread has the data of a row
abbrev pub with_row : KeyValues → SeenSlot → SeenSlot
with_row row s = record s { here = map (with_specific row) s.here }

-- the slots, each with its row
abbrev pub with_rows : List KeyValues → List SeenSlot → List SeenSlot
with_rows rows [] = []
with_rows [] (s ∷ slots) = s ∷ slots
with_rows (row ∷ rows) (s ∷ slots) = with_row row s ∷ with_rows rows slots

-- the slots of a process with these rows of thread-specific data and this table of threads
abbrev pub slots_of : List KeyValues → List Slot → List SeenSlot
slots_of rows threads = with_rows rows (map slot_view threads)

-- slot k; one without threads where there is none
abbrev pub slot_on : List SeenSlot → ℕ → SeenSlot
slot_on slots k = slice_index_or slots k (record { made = 0; here = [] })

-- the first of some threads
abbrev pub first_of : List Thread → Option Thread
first_of [] = None
first_of (t ∷ rest) = Some t

-- the thread on slot k, if a thread holds it
abbrev pub thread_on_slot : List SeenSlot → ℕ → Option Thread
thread_on_slot slots k = first_of (slot_on slots k).here

-- what a look-up finds is the thread that holds a slot
pub record HoldsThread (found held : Option Thread) : Type 0 where
  pub same : found ≡ held
  pub some : is_some held ≡ true

-- the thread with this id holds slot k, and no other slot
pub record HoldsOneSlot (tid k : ℕ) (slots : List SeenSlot) : Type 0 where
  pub here : option_map (λ t. t.id) (thread_on_slot slots k) ≡ Some tid
  pub alone : (other : ℕ) → option_map (λ t. t.id) (thread_on_slot slots other) ≡ Some tid → other ≡ k

-- ---- the process

-- the data of a process, beside its ids, its parent and its end: its slots, and the state that its threads share
pub record ProcessData : Type 0 where
  pub slots : List SeenSlot
  pub shared : SharedState

-- the state that the threads share
abbrev pub shared_of : List ℕ → List ℕ → List ℕ → List OnceState → List KeyPlace → List ForkHandlers → List ℕ → Option ℕ → Bool → SharedState
shared_of globals owners counts onces keys fork_handlers exit_functions exit_value restricted =
    record { globals = globals; owners = owners; counts = counts; onces = onces; keys = keys; fork_handlers = fork_handlers; exit_functions = exit_functions; exit_value = exit_value; restricted = restricted }

-- the data of the first process before the first step, with this number of slots
abbrev pub first_data : ℕ → Script → ProcessData
first_data slots script = record { slots = (seen_process slots (first_process script)).slots; shared = new_shared script }

-- the data of the child that a fork by the thread with an id makes: it inherits this thread alone, and the shared state; exit has not
-- begun in it, and it is restricted if another thread has not ended (XSH fork)
abbrev pub data_inherited : ℕ → ProcessData → ProcessData
data_inherited tid p = record { slots = map (slot_inherited tid) p.slots; shared = record p.shared { exit_value = None; restricted = not (is_last_in tid p.slots) } }
