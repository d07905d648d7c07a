-- The table of the keys of a process, and of the thread-specific data of its threads (XSH pthread_key_create, pthread_key_delete,
-- pthread_getspecific). A call names a thread by its slot, and a key by its place.
use Rattle.std.specs.Prelude.{◌≡◌, ◌≢◌, ℕ, ◌+◌, ◌*◌, ◌<◌, ◌≤◌, true, if◌then◌else◌, List, [], length, map, replicate, Option, Some, None, is_some, slice_get, slice_index_or, slice_set}
use Rattle.pct_model.specs.declared.limits.TheConstants.{MAX_KEYS}
use Rattle.pct_model.specs.Keys.{Key, KeyPlace, no_keys, KeyValues, no_values, key_at, next_key, with_key, without_key, value_at, without_value}

-- the table of a process
pub record Table : Type 0 where
  -- the places for keys
  pub places : List KeyPlace
  -- the data of the thread on each slot
  pub rows : List KeyValues

-- the table of a process with so many slots, and without keys
abbrev pub new_table : ℕ → Table
new_table slots = record { places = no_keys; rows = replicate slots no_values }

-- the data on a slot that a table does not have
abbrev pub no_row : KeyValues
no_row = record { values = []; in_pass = [] }

-- the data of the thread on a slot
abbrev pub row_at : Table → ℕ → KeyValues
row_at table slot = slice_index_or table.rows slot no_row

-- ---- what holds of every table

-- at a place a thread has the value NULL, and the place is not in its pass
abbrev pub IsClear : KeyValues → ℕ → Type 0
IsClear row place = (value_at place row ≡ 0) × (slice_get row.in_pass place ≢ Some true)

-- at no place from one on a thread has a value
abbrev pub IsUnsetFrom : ℕ → KeyValues → Type 0
IsUnsetFrom end row = (place : ℕ) → end ≤ place → value_at place row ≡ 0

pub record IsSound (table : Table) : Type 0 where
  pub places : length table.places ≡ MAX_KEYS
  pub values : (slot : ℕ) → slot < length table.rows → length (row_at table slot).values ≡ MAX_KEYS
  pub in_pass : (slot : ℕ) → slot < length table.rows → length (row_at table slot).in_pass ≡ MAX_KEYS
  -- the key on a place has the number of the last one that was made on it
  pub numbers : (place : ℕ) (p : KeyPlace) (key : Key) → slice_get table.places place ≡ Some p → p.key ≡ Some key → (0 < p.made) × (1 + place + MAX_KEYS * p.made ≡ key.number + MAX_KEYS)
  -- at a place without a key no thread has a value, and the place is in no pass
  pub no_key : (slot place : ℕ) → key_at table.places place ≡ None → IsClear (row_at table slot) place

-- ---- changes

-- the table with a change of the data of the thread on a slot
abbrev pub on_row : ℕ → (KeyValues → KeyValues) → Table → Table
on_row slot change table = record table { rows = slice_set table.rows slot (change (row_at table slot)) }

-- the number of a key that is made on a place, None if a key is on it
abbrev pub made_key : ℕ → Table → Option ℕ
made_key place table = if is_some (key_at table.places place) then None else Some (next_key table.places place)

-- the table after pthread_key_create, which changes nothing if a key is on the place
abbrev pub with_made : ℕ → Option ℕ → Table → Table
with_made place destructor table =
    if is_some (key_at table.places place) then table
    else record table { places = with_key place (next_key table.places place) destructor table.places }

-- the table after pthread_key_delete; no thread keeps its value of the key
abbrev pub with_deleted : ℕ → Table → Table
with_deleted place table = record { places = without_key place table.places; rows = map (without_value place) table.rows }

-- the table of a child process of the thread on a slot: the keys of its parent, and the values of this thread alone (XSH fork)
abbrev pub replica_of : ℕ → Table → Table
replica_of slot table =
    record table { rows = slice_set (replicate (length table.rows) no_values) slot (record (row_at table slot) { in_pass = no_values.in_pass }) }
