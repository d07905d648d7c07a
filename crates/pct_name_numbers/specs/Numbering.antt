-- Names with the numbers that they have by the order of their first occurrences.
use Rattle.std.specs.Prelude.{◌≡◌, ℕ, if◌then◌else◌, List, [], ◌∷◌, ◌++◌, length, is_some}
use Rattle.std.specs.Ordering.{nat_cmp}
use Rattle.std.specs.Cmp.Lexicographic.{slice_cmp}
use Rattle.std.specs.BTreeMap.{get_by}
use Rattle.pct_model.specs.Names.{index_among}
use Rattle.pct_name_numbers.specs.declared.name_numbers.NameNumbers.{NameNumbers}

-- how many names the table has
abbrev pub count_of : NameNumbers → ℕ
count_of table = table.count

-- the different names, by first occurrence, after one more occurrence of a name
abbrev pub names_with : List ℕ → List (List ℕ) → List (List ℕ)
names_with name names = if is_some (index_among names name) then names else names ++ name ∷ []

-- the table numbers exactly these names, each by its index
pub record IsNumbering (table : NameNumbers) (names : List (List ℕ)) : Type 0 where
  pub numbers : (name : List ℕ) → get_by (λ key. slice_cmp nat_cmp name key.now) table.numbers ≡ index_among names name
  pub count : table.count ≡ length names
