-- What a pass knows of the history of its host.
use Rattle.std.specs.Prelude.{◌≡◌, ℕ, suc, false, if◌then◌else◌, List, [], ◌∷◌, ◌++◌, filter, nat_eq, Option, Some}
use Rattle.pct_model.specs.declared.schedule.Entry.{Entry}
use Rattle.pct_engine.specs.EngineStates.{EngineValue}
use Rattle.pct_shared.specs.declared.view.Opening.{Opening}
use Rattle.pct_shared.specs.declared.view.Known.{Known}
use Rattle.pct_shared.specs.declared.view.View.{View}

-- ---- lists

-- a list begins with another
pub record IsPrefix {A : Type 0} (front all : List A) : Type 0 where
  pub rest : List A
  pub all_is : all ≡ front ++ rest

-- the entries of a worker, in order
abbrev pub own : ℕ → List Entry → List Entry
own number entries = filter (λ e. nat_eq e.worker number) entries

-- the places of the entries of a worker, in order, where the first entry has the place `at`
abbrev pub places_from : ℕ → ℕ → List Entry → List ℕ
places_from number at [] = []
places_from number at (e ∷ entries) = if nat_eq e.worker number then at ∷ places_from number (suc at) entries else places_from number (suc at) entries

-- the place of an entry is the number of the entries before it
abbrev pub places : ℕ → List Entry → List ℕ
places number entries = places_from number 0 entries

-- ---- the engine of a host

-- the engine that a host was opened with
abbrev pub opened : Opening → EngineValue
opened o = o.engine.value

-- the same script under the same configuration, after these entries
abbrev pub engine_after : Opening → List Entry → EngineValue
engine_after o entries = record (opened o) { history = entries }

-- ---- views

-- the knowledge of a worker at the opening
abbrev pub known_first : Opening → ℕ → Known
known_first o number = record { number = number; seen = (opened o).history; mine = own number (opened o).history; at = [] }

-- the view of a new pass that may split, where `number` passes were made with it
abbrev pub new_view : Opening → ℕ → View
new_view o number = record {
  opening = o;
  known = known_first o number;
  takes = 0;
  misses = 0;
  found = 0;
  holding = false;
  made = number;
  olds = [];
}

-- that of the first pass
abbrev pub first_view : Opening → View
first_view o = new_view o 1

-- the view of the pass that is split off, and that of the pass from which it is
abbrev pub next_view : View → View
next_view v = new_view v.opening (suc v.made)

abbrev pub without_next : View → View
without_next v = record v { made = 0 }

-- the view of a pass that takes another in
abbrev pub taken_in : Option View → Option View → Option View
taken_in (Some v) (Some w) = Some (record v { olds = w.known ∷ (w.olds ++ v.olds) })
taken_in before other = before
