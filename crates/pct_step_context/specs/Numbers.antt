-- The numbers of threads and of keys.
use Rattle.std.specs.Prelude.{◌≡◌, ℕ, ◌+◌, ◌*◌, ◌<◌, ◌^◌, List, length, Some}
use Rattle.pct_model.specs.declared.limits.TheConstants.{MAX_KEYS}
use Rattle.pct_model.specs.Keys.{Key, KeyPlace, key_place, key_at, next_key}
use Rattle.pct_threads.specs.Slots.{Slot}
use Rattle.pct_threads.specs.Tables.{next_id_at}
use Rattle.pct_keys.specs.Tables.{Table}
use Rattle.pct_process.specs.ProcessViews.{ProcessData, slot_on}

-- the id of the next thread on each slot fits 32 bits
abbrev pub IdsFit : List Slot → Type 0
IdsFit threads = (slot : ℕ) → slot < length threads → next_id_at threads slot < 2 ^ 32

-- the number of the next key on each place fits 32 bits
abbrev pub NextKeysFit : List KeyPlace → Type 0
NextKeysFit places = (place : ℕ) → place < MAX_KEYS → next_key places place < 2 ^ 32

-- the key on each place has a number of the place
abbrev pub AreOnPlaces : List KeyPlace → Type 0
AreOnPlaces places = (place : ℕ) (key : Key) → place < MAX_KEYS → key_at places place ≡ Some key → key_place key.number ≡ place

-- the numbers that new threads and new keys can get fit 32 bits
pub record NumbersFit (threads : List Slot) (keys : Table) : Type 0 where
  pub ids : IdsFit threads
  pub keys_fit : NextKeysFit keys.places

-- the same, of the data of a process
pub record NewNumbersFit (d : ProcessData) : Type 0 where
  pub ids : (k : ℕ) → k < length d.slots → 1 + k + length d.slots * (slot_on d.slots k).made < 2 ^ 32
  pub keys_fit : NextKeysFit d.shared.keys
