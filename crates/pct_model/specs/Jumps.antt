-- Where the blocks of a function's body begin and end. The statement that closes an `if`, `else` or `while` is found by
-- counting; statements are given by their program counters (pc), which are indexes into the body.
use Rattle.std.specs.Prelude.{ℕ, suc, ◌+◌, ◌-◌, Bool, true, false, ◌&&◌, ◌||◌, if◌then◌else◌, List, length, Option, None, find, nat_eq, count_by, slice_get, slice_range}
use Rattle.std.specs.List.{range_with_len}
use Rattle.std.specs.Option.{option_map_or}
use Rattle.pct_model.specs.declared.statement.Stmt.{Stmt}
use Rattle.pct_model.specs.declared.statement.Stmt.TheVariants as statement

-- `if`
abbrev pub is_if : Stmt → Bool
is_if (statement.If v) = true
is_if _ = false

-- `while`
abbrev pub is_while : Stmt → Bool
is_while (statement.While v) = true
is_while _ = false

-- `else`
abbrev pub is_else : Stmt → Bool
is_else statement.Else = true
is_else _ = false

-- `end`
abbrev pub is_end : Stmt → Bool
is_end statement.End = true
is_end _ = false

module _ (body : List Stmt) where
  -- the statement at pc i passes a test
  abbrev pub holds : (Stmt → Bool) → ℕ → Bool
  holds test i = option_map_or test (slice_get body i) false

  -- the number of `if` and `while` from pc i to pc j, both included
  abbrev pub begins : ℕ → ℕ → ℕ
  begins i j = count_by (λ s. is_if s || is_while s) (slice_range body i (suc j))

  -- the number of `end` from pc i to pc j, both included
  abbrev pub ends : ℕ → ℕ → ℕ
  ends i j = count_by is_end (slice_range body i (suc j))

  -- as far as the counts show, pc j closes the `if` or `while` at i: an `end` with as many `end` as `if` and `while`
  -- from i to j or, for an `if`, an `else` with one `end` fewer
  abbrev pub closes : ℕ → ℕ → Bool
  closes i j =
      holds is_end j && nat_eq (ends i j) (begins i j)
      || holds is_if i && holds is_else j && nat_eq (ends i j + 1) (begins i j)

  -- as far as the counts show, pc j closes the `else` at i: from i + 1 to j there is one `end` more than `if` and
  -- `while`
  abbrev pub closes_else : ℕ → ℕ → Bool
  closes_else i j = nat_eq (ends (suc i) j) (begins (suc i) j + 1)

  -- the first pc after i that passes a test
  abbrev pub first_later : (ℕ → Bool) → ℕ → Option ℕ
  first_later test i = find test (range_with_len (suc i) (length body - suc i))

  -- the pc that closes a statement at pc i, if it is an `if`, `while` or `else`
  abbrev pub closing : ℕ → Stmt → Option ℕ
  closing i (statement.If v) = first_later (closes i) i
  closing i (statement.While v) = first_later (closes i) i
  closing i statement.Else = first_later (closes_else i) i
  closing i _ = None

  -- the pc that closes the block opened at pc i, if one is opened there
  unfoldable pub close_of : ℕ → Option ℕ
  close_of i = option_map_or (closing i) (slice_get body i) None

  -- the pc that opens the block closed by the `end` at pc j; the `end` of the function closes none
  unfoldable pub open_of : ℕ → Option ℕ
  open_of j = if holds is_end j then find (λ i. option_map_or (nat_eq j) (close_of i) false) (range_with_len 0 (length body)) else None
