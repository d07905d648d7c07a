-- Keys of thread-specific data, and their values (XSH pthread_key_create, pthread_key_delete, pthread_getspecific). A process has
-- MAX_KEYS places for keys, which are counted from 0. Places, and the order of the numbers on each, are a choice of this host; a
-- key's number is not used again.
use Rattle.std.specs.Prelude.{ℕ, ◌+◌, ◌-◌, ◌*◌, ◌%◌, Bool, false, not, ◌&&◌, if◌then◌else◌, List, map, filter, replicate, Option, Some, None, is_some, is_none, nat_eq, slice_get, slice_index, slice_set, option_and_then}
use Rattle.std.specs.List.{range_with_len}
use Rattle.std.specs.Option.{option_map_or}
use Rattle.pct_model.specs.declared.limits.TheConstants.{MAX_KEYS}

-- a key: its number, and its destructor, if it has one (XSH pthread_key_create)
pub record Key : Type 0 where
  pub number : ℕ
  pub destructor : Option ℕ

-- a place: the number of keys ever made on it, and the key on it, if one was made and not deleted
pub record KeyPlace : Type 0 where
  pub made : ℕ
  pub key : Option Key

-- the places of a process without keys
abbrev pub no_keys : List KeyPlace
no_keys = replicate MAX_KEYS (record { made = 0; key = None })

-- the thread-specific data of a thread, by place: the values of the keys, 0 (NULL) at a place without a key; and the places that
-- had a value when the current pass over the destructors began, and whose key was neither deleted since nor its destructor called
pub record KeyValues : Type 0 where
  pub values : List ℕ
  pub in_pass : List Bool

-- the data of a new thread: NULL for all keys (XSH pthread_key_create)
abbrev pub no_values : KeyValues
no_values = record { values = replicate MAX_KEYS 0; in_pass = replicate MAX_KEYS false }

-- ---- keys

-- the place of a key
abbrev pub key_place : ℕ → ℕ
key_place number = (number - 1) % MAX_KEYS

-- the key on a place, if there is one
abbrev pub key_at : List KeyPlace → ℕ → Option Key
key_at places place = option_and_then (λ p. p.key) (slice_get places place)

-- the number of the next key on a place
abbrev pub next_key : List KeyPlace → ℕ → ℕ
next_key places place = 1 + place + MAX_KEYS * option_map_or (λ p. p.made) (slice_get places place) 0

-- the key, if it has this number
abbrev pub if_number : ℕ → Option Key → Option Key
if_number number None = None
if_number number (Some key) = if nat_eq key.number number then Some key else None

-- the key with a number, if it was made and not deleted
unfoldable pub key_with : ℕ → List KeyPlace → Option Key
key_with number places = if_number number (key_at places (key_place number))

-- the number of the key on a place, 0 if there is none
abbrev pub number_at : List KeyPlace → ℕ → ℕ
number_at places place = option_map_or (λ key. key.number) (key_at places place) 0

-- the places without a key, by rising place
unfoldable pub free_places : List KeyPlace → List ℕ
free_places places = filter (λ place. is_none (key_at places place)) (range_with_len 0 MAX_KEYS)

-- the numbers that a new key can get, one for each place without a key, by rising place
abbrev pub new_keys : List KeyPlace → List ℕ
new_keys places = map (next_key places) (free_places places)

-- the places with a change of one
abbrev pub on_place : ℕ → (KeyPlace → KeyPlace) → List KeyPlace → List KeyPlace
on_place place change places = option_map_or (λ p. slice_set places place (change p)) (slice_get places place) places

-- the places with a new key on one, which has a number and may have a destructor
abbrev pub with_key : ℕ → ℕ → Option ℕ → List KeyPlace → List KeyPlace
with_key place number destructor places = on_place place (λ p. record { made = p.made + 1; key = Some (record { number = number; destructor = destructor }) }) places

-- the places without the key on one; its number is not used again
abbrev pub without_key : ℕ → List KeyPlace → List KeyPlace
without_key place places = on_place place (λ p. record p { key = None }) places

-- ---- values

-- the value of the key on a place
abbrev pub value_at : ℕ → KeyValues → ℕ
value_at place own = slice_index own.values place

-- the data with another value of the key on a place (XSH pthread_getspecific)
abbrev pub with_value : ℕ → ℕ → KeyValues → KeyValues
with_value place value own = record own { values = slice_set own.values place value }

-- the data without a value of the key on a place. The destructor of the key is called (XSH pthread_key_create); or the key was
-- deleted, so that no call reads its value, and the next key on the place has NULL (XSH pthread_key_delete, pthread_key_create)
abbrev pub without_value : ℕ → KeyValues → KeyValues
without_value place own = record { values = slice_set own.values place 0; in_pass = slice_set own.in_pass place false }

-- ---- passes over the destructors (XSH pthread_key_create)

-- the key on a place has a destructor and a value that is not NULL
abbrev pub is_due : List KeyPlace → KeyValues → ℕ → Bool
is_due places own place = option_map_or (λ key. is_some key.destructor) (key_at places place) false && not (nat_eq (value_at place own) 0)

-- the places of such keys, by rising place
unfoldable pub due_places : List KeyPlace → KeyValues → List ℕ
due_places places own = filter (is_due places own) (range_with_len 0 MAX_KEYS)

-- the data as a pass begins. It takes the places that have a value now, and of their keys those with a destructor are due. That a
-- pass takes no key that gets a value later is a choice of this host
abbrev pub with_pass : KeyValues → KeyValues
with_pass own = record own { in_pass = map (λ value. not (nat_eq value 0)) own.values }

-- the data outside passes
abbrev pub without_pass : KeyValues → KeyValues
without_pass own = record own { in_pass = replicate MAX_KEYS false }

-- the key on a place is one of the pass, it is due, and its destructor was not called in the pass
abbrev pub is_left : List KeyPlace → KeyValues → ℕ → Bool
is_left places own place = option_map_or (λ in_pass. in_pass) (slice_get own.in_pass place) false && is_due places own place

-- the places of the keys that are left in the pass, by rising place
unfoldable pub left_places : List KeyPlace → KeyValues → List ℕ
left_places places own = filter (is_left places own) (range_with_len 0 MAX_KEYS)

-- the numbers of these keys
abbrev pub left_keys : List KeyPlace → KeyValues → List ℕ
left_keys places own = map (number_at places) (left_places places own)
