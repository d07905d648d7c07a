-- Ranges of seeds.
use Rattle.std.specs.Prelude.{ℕ, ◌+◌, ◌-◌, ◌<◌, ◌≤◌, ◌^◌, Bool, ◌&&◌, List, nat_le}
use Rattle.std.specs.List.{range_with_len}
use Rattle.pct_tallies.specs.declared.seeds.Seeds.{Seeds}

-- there is a seed in the range, and 0 is not in it
abbrev pub is_range : Seeds → Bool
is_range s = nat_le 1 s.first && nat_le s.first s.last

-- the same, and the last seed has at most 64 bits
pub record IsRange (s : Seeds) : Type 0 where
  pub from_one : 1 ≤ s.first
  pub some : s.first ≤ s.last
  pub fits : s.last < 2 ^ 64

-- how many seeds are in the range
abbrev pub seed_count : Seeds → ℕ
seed_count s = s.last + 1 - s.first

-- the seeds of the range, in order
abbrev pub seeds_in : Seeds → List ℕ
seeds_in s = range_with_len s.first (seed_count s)

-- a number is one of them
abbrev pub is_in : Seeds → ℕ → Bool
is_in s seed = nat_le s.first seed && nat_le seed s.last

-- the seeds 1 to k
abbrev pub first_seeds : ℕ → Seeds
first_seeds k = record { first = 1; last = k }
