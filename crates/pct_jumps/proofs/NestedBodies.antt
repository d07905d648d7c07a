-- In a body whose blocks nest, each block that a statement opens is closed by an `end`.
use Rattle.pct_names.proofs.Names.{◌+◌, ◌-◌, ◌<◌, [], and_from, ap, are_nested, arith, Block, Bool, cases_lt, Change, change_at, close_of}
use Rattle.pct_names.proofs.Names.{closes, closes_else, closing, cond, drop, drop_more, encode, ends, eq-or-lt_of_le, false, false≢true}
use Rattle.pct_names.proofs.Names.{find, first_later, get_or, get_or_from_slice_get, holds, inl, inr, inside, is_if, is_some, is_while}
use Rattle.pct_names.proofs.Names.{length, length-drop, List, map, nests_or, None, open_after, Option, option_map_or, or_left, outside}
use Rattle.pct_names.proofs.Names.{range_with_len, refl, Role, role_of, slice_get, slice_get_cases, slice_get_within, slice_range, Some}
use Rattle.pct_names.proofs.Names.{Stmt, suc, sum_by-cons, sym, syntax_of, take, true, zero, ◌||◌, ℕ, ◌∙◌, ◌∷◌, ◌≡◌, ◌≤◌, ◌⊎◌}
use Rattle.std.specs.List.{count_by}
use Rattle.std.proofs.lemmas.Bool.{true≢false, eq-eqb}
use Rattle.pct_model.specs.declared.role.Block.TheVariants as block
use Rattle.pct_model.specs.declared.role.Role.TheVariants as role
use Rattle.pct_model.specs.declared.statement.Stmt.TheVariants as statement
use Rattle.pct_model.specs.Jumps.{is_end, begins}
use Rattle.pct_jumps.specs.JumpTable.{opens_block}

-- ---- depth of nesting

-- an `end` closes any block except a push
abbrev pub counts : Block → ℕ
counts block.Push = 0
counts _ = 1

abbrev pub depth : List Block → ℕ
depth [] = 0
depth (b ∷ blocks) = counts b + depth blocks

abbrev pub begun_by : Role → ℕ
begun_by (role.Opens b) = counts b
begun_by _ = 0

abbrev pub ended_by : Role → ℕ
ended_by role.End = 1
ended_by _ = 0

abbrev pub begins_block : Stmt → Bool
begins_block s = is_if s || is_while s

pub begun_is : (s : Stmt) → begun_by (role_of s) ≡ cond (begins_block s) 1 0
unfolding encode syntax_of
begun_is (statement.If v) = refl
begun_is _ = refl

pub ended_is : (s : Stmt) → ended_by (role_of s) ≡ cond (is_end s) 1 0
unfolding encode syntax_of
ended_is statement.End = refl
ended_is _ = refl

abbrev is_nil : List Block → Bool
is_nil [] = true
is_nil (b ∷ blocks) = false

-- the function's block is the outermost, and no other block is a function's
abbrev pub is_based : List Block → Bool
is_based [] = false
is_based (block.Function ∷ blocks) = is_nil blocks
is_based (b ∷ blocks) = is_based blocks

based_deep : (blocks : List Block) → is_based blocks ≡ true → 0 < depth blocks
based_deep [] based = absurd (false≢true based)
based_deep (block.Push ∷ blocks) based = omega (arith, based_deep blocks based)
based_deep (b ∷ blocks) based = omega arith

-- the roles that statements have
abbrev pub is_inner : Role → Bool
is_inner (role.Declares k) = false
is_inner (role.Opens block.Function) = false
is_inner (role.Opens block.Else) = false
is_inner _ = true

pub inner_is : (s : Stmt) → is_inner (role_of s) ≡ true
unfolding encode syntax_of
inner_is (statement.If v) = refl
inner_is _ = refl

-- ---- one statement

record After (b : Block) (blocks : List Block) (r : Role) (roles : List Role) : Type 0 where
  left : List Block
  nested : are_nested left roles ≡ true
  deep : depth left + ended_by r ≡ depth (b ∷ blocks) + begun_by r
  based : (left ≡ []) ⊎ (is_based left ≡ true)

-- no block is around the function's
pub based_outside : (blocks : List Block) → is_based (block.Function ∷ blocks) ≡ true → blocks ≡ []
based_outside [] based = refl
based_outside (b ∷ blocks) based = absurd (false≢true based)

after_opens : (inner b : Block) (blocks : List Block) (roles : List Role) → is_inner (role.Opens inner) ≡ true → is_based (b ∷ blocks) ≡ true → are_nested (inner ∷ b ∷ blocks) roles ≡ true → After b blocks (role.Opens inner) roles
after_opens block.Function b blocks roles within based nests = absurd (false≢true within)
after_opens block.Else b blocks roles within based nests = absurd (false≢true within)
after_opens inner b blocks roles within based nests = record { left = inner ∷ b ∷ blocks; nested = nests; deep = omega arith; based = inr based }

after_role : (b : Block) (blocks : List Block) (r : Role) (roles : List Role) → is_inner r ≡ true → is_based (b ∷ blocks) ≡ true → are_nested (b ∷ blocks) (r ∷ roles) ≡ true → After b blocks r roles
unfolding are_nested change_at inside open_after
after_role b blocks (role.Declares k) roles within based nests = absurd (false≢true nests)
after_role b blocks (role.Opens inner) roles within based nests = after_opens inner b blocks roles within based nests
after_role block.If blocks role.Else roles within based nests = record { left = block.Else ∷ blocks; nested = nests; deep = refl; based = inr based }
after_role b blocks role.Else roles within based nests = absurd (false≢true nests)
after_role block.Push blocks role.End roles within based nests = absurd (false≢true nests)
after_role block.Function blocks role.End roles within based nests = record { left = blocks; nested = nests; deep = omega arith; based = inl (based_outside blocks based) }
after_role b blocks role.End roles within based nests = record { left = blocks; nested = nests; deep = omega arith; based = inr based }
after_role block.Push blocks role.Pop roles within based nests = record { left = blocks; nested = nests; deep = omega arith; based = inr based }
after_role b blocks role.Pop roles within based nests = absurd (false≢true nests)
after_role b blocks r roles within based nests = record { left = b ∷ blocks; nested = nests; deep = refl; based = inr based }

-- a statement that opens a block
record Opened (roles : List Role) : Type 0 where
  left : List Block
  nested : are_nested left roles ≡ true
  deep : 1 < depth left
  based : is_based left ≡ true

opened_by_else : (blocks : List Block) (roles : List Role) → is_based blocks ≡ true → are_nested blocks (role.Else ∷ roles) ≡ true → Opened roles
unfolding are_nested change_at inside outside open_after
opened_by_else (block.If ∷ blocks) roles based nests = record { left = block.Else ∷ blocks; nested = nests; deep = omega (arith, based_deep blocks based); based = based }
opened_by_else _ roles based nests = absurd (false≢true nests)

opened_by : (inner : Block) (blocks : List Block) (roles : List Role) → counts inner ≡ 1 → is_based (inner ∷ blocks) ≡ true → is_based blocks ≡ true → are_nested blocks (role.Opens inner ∷ roles) ≡ true → Opened roles
unfolding are_nested change_at inside outside open_after
opened_by inner [] roles one all based nests = absurd (false≢true nests)
opened_by inner (b ∷ blocks) roles one all based nests = record { left = inner ∷ b ∷ blocks; nested = nests; deep = omega (arith, one, based_deep (b ∷ blocks) based); based = all }

opened : (s : Stmt) (blocks : List Block) (roles : List Role) → opens_block s ≡ true → is_based blocks ≡ true → are_nested blocks (role_of s ∷ roles) ≡ true → Opened roles
unfolding encode syntax_of
opened (statement.If v) blocks roles opens based nests = opened_by block.If blocks roles refl based based nests
opened (statement.While v) blocks roles opens based nests = opened_by block.While blocks roles refl based based nests
opened statement.Else blocks roles opens based nests = opened_by_else blocks roles based nests
opened _ blocks roles opens based nests = absurd (false≢true opens)

-- ---- a run of statements

-- the `end` at which the depth has fallen from n to m; above depth 0 it is not the last statement
record Falls (body : List Stmt) (n m : ℕ) : Type 0 where
  at : ℕ
  within : at < length body
  more : 0 < m → suc at < length body
  is : holds body is_end at ≡ true
  count : count_by is_end (take (suc at) body) + m ≡ count_by begins_block (take (suc at) body) + n

pub count-cons : (p : Stmt → Bool) (s : Stmt) (body : List Stmt) → count_by p (s ∷ body) ≡ cond (p s) 1 0 + count_by p body
count-cons p s body = sum_by-cons (λ x. cond (p x) 1 0) s body

at_least_one : (b : Bool) → 1 ≤ cond b 1 0 → b ≡ true
at_least_one true some = refl
at_least_one false some = absurd (omega (arith, some))

at_most_one : (b : Bool) → cond b 1 0 ≤ 1
at_most_one true = omega arith
at_most_one false = omega arith

falls_later : (s : Stmt) (body : List Stmt) (n m d : ℕ) → d + cond (is_end s) 1 0 ≡ n + cond (begins_block s) 1 0 → Falls body d m → Falls (s ∷ body) n m
falls_later s body n m d step falls = record {
  at = suc falls.at;
  within = omega (arith, falls.within);
  more = λ above. omega (arith, falls.more above);
  is = falls.is;
  count = omega (arith, falls.count, step, count-cons is_end s (take (suc falls.at) body), count-cons begins_block s (take (suc falls.at) body));
}

falls_here : (s : Stmt) (body : List Stmt) (n m d : ℕ) → d + cond (is_end s) 1 0 ≡ n + cond (begins_block s) 1 0 → d ≤ m → m < n → (0 < d → 0 < length body) → Falls (s ∷ body) n m
falls_here s body n m d step low high rest = record {
  at = 0;
  within = omega arith;
  more = λ above. omega (arith, rest (omega (arith, step, low, high, above, at_most_one (is_end s))));
  is = at_least_one (is_end s) (omega (arith, step, low, high));
  count = omega (arith, step, low, high, at_most_one (is_end s), count-cons is_end s [], count-cons begins_block s []);
}

falls_by : (s : Stmt) (body : List Stmt) (n m d : ℕ) → d + cond (is_end s) 1 0 ≡ n + cond (begins_block s) 1 0 → m < n → (m < d → Falls body d m) → (0 < d → 0 < length body) → (m < d) ⊎ (d ≤ m) → Falls (s ∷ body) n m
falls_by s body n m d step high later rest (inl above) = falls_later s body n m d step (later above)
falls_by s body n m d step high later rest (inr low) = falls_here s body n m d step low high rest

-- blocks that are open are closed by later statements
rest_closes : (body : List Stmt) (blocks : List Block) → 0 < depth blocks → are_nested blocks (map role_of body) ≡ true → 0 < length body
unfolding are_nested
rest_closes [] [] deep nests = absurd (omega (arith, deep))
rest_closes [] (b ∷ blocks) deep nests = absurd (false≢true nests)
rest_closes (s ∷ body) blocks deep nests = omega arith

based_if_open : (blocks : List Block) (m : ℕ) → m < depth blocks → (blocks ≡ []) ⊎ (is_based blocks ≡ true) → is_based blocks ≡ true
based_if_open blocks m high (inl none) = let closed : depth blocks ≡ 0 = ap depth none in absurd (omega (arith, high, closed))
based_if_open blocks m high (inr based) = based

falls : (body : List Stmt) (blocks : List Block) (m : ℕ) → m < depth blocks → is_based blocks ≡ true → are_nested blocks (map role_of body) ≡ true → Falls body (depth blocks) m
unfolding are_nested
falls [] [] m high based nests = absurd (omega (arith, high))
falls [] (b ∷ blocks) m high based nests = absurd (false≢true nests)
falls (s ∷ body) [] m high based nests = absurd (omega (arith, high))
falls (s ∷ body) (b ∷ blocks) m high based nests =
    let after = after_role b blocks (role_of s) (map role_of body) (inner_is s) based nests in
    falls_by s body (depth (b ∷ blocks)) m (depth after.left) (omega (arith, after.deep, begun_is s, ended_is s)) high
    (λ above. falls body after.left m above (based_if_open after.left m above after.based) after.nested)
    (λ some. rest_closes body after.left some after.nested)
    (cases_lt m (depth after.left))

-- ---- one statement of a body

-- outside of functions there is no statement
outside_none : (r : Role) (rest : Change → Bool) → is_inner r ≡ true → nests_or (outside r) rest ≡ false
unfolding outside
outside_none (role.Declares k) rest within = absurd (false≢true within)
outside_none (role.Opens inner) rest within = refl
outside_none _ rest within = refl

none_left : (s : Stmt) (body : List Stmt) → are_nested [] (role_of s ∷ map role_of body) ≡ true → true ≡ false
unfolding are_nested change_at
none_left s body nests = sym nests ∙ outside_none (role_of s) (λ change. are_nested (open_after [] change) (map role_of body)) (inner_is s)

-- if statements are left, so are open blocks
pub open_left : (body : List Stmt) (blocks : List Block) → 0 < length body → are_nested blocks (map role_of body) ≡ true → (blocks ≡ []) ⊎ (is_based blocks ≡ true) → is_based blocks ≡ true
open_left [] blocks some nests was = absurd (omega (arith, some))
open_left (s ∷ body) blocks some nests (inr based) = based
open_left (s ∷ body) blocks some nests (inl none) = absurd (true≢false (none_left s body (ap (λ (bs : List Block). are_nested bs (role_of s ∷ map role_of body)) (sym none) ∙ nests)))

-- the blocks that are open before a statement
record OpenAt (body : List Stmt) (i : ℕ) : Type 0 where
  left : List Block
  nested : are_nested left (map role_of (drop i body)) ≡ true
  based : is_based left ≡ true

open_at : (blocks : List Block) (body : List Stmt) (i : ℕ) → is_based blocks ≡ true → are_nested blocks (map role_of body) ≡ true → i < length body → OpenAt body i
unfolding are_nested
open_at blocks [] i based nests within = absurd (omega (arith, within))
open_at blocks (s ∷ body) zero based nests within = record { left = blocks; nested = nests; based = based }
open_at [] (s ∷ body) (suc i) based nests within = absurd (false≢true based)
open_at (b ∷ blocks) (s ∷ body) (suc i) based nests within =
    let after = after_role b blocks (role_of s) (map role_of body) (inner_is s) based nests in
    let rest = open_at after.left body i (open_left body after.left (omega (arith, within)) after.nested after.based) after.nested (omega (arith, within)) in
    record { left = rest.left; nested = rest.nested; based = rest.based }

pub get-drop : {X : Type 0} (xs : List X) (i k : ℕ) → slice_get (drop i xs) k ≡ slice_get xs (i + k)
get-drop xs zero k = let same : k ≡ 0 + k = omega arith in ap (slice_get xs) same
get-drop [] (suc i) k = refl
get-drop (x ∷ xs) (suc i) k = let same : suc (i + k) ≡ suc i + k = omega arith in get-drop xs i k ∙ ap (slice_get (x ∷ xs)) same

-- ---- the first index that passes

-- the first index is found at or before an index that passes
pub record FoundBy (test : ℕ → Bool) (a j : ℕ) (o : Option ℕ) : Type 0 where
  pub found : ℕ
  pub is : o ≡ Some found
  pub low : a ≤ found
  pub high : found ≤ j
  pub passes : test found ≡ true

found_later : (test : ℕ → Bool) (a j : ℕ) (o : Option ℕ) → test a ≡ false → test j ≡ true → (a < j → false ≡ false → FoundBy test (a + 1) j o) → (a ≡ j) ⊎ (a < j) → FoundBy test a j o
found_later test a j o is passes later (inl same) = absurd (true≢false (sym passes ∙ ap test (sym same) ∙ is))
found_later test a j o is passes later (inr above) =
    let rest = later above refl in
    record { found = rest.found; is = rest.is; low = omega (arith, rest.low); high = rest.high; passes = rest.passes }

found_here : (test : ℕ → Bool) (a j : ℕ) (b : Bool) (o : Option ℕ) → test a ≡ b → a ≤ j → test j ≡ true → (a < j → b ≡ false → FoundBy test (a + 1) j o) → FoundBy test a j (cond b (Some a) o)
found_here test a j true o is low passes later = record { found = a; is = refl; low = omega arith; high = low; passes = is }
found_here test a j false o is low passes later = found_later test a j o is passes later (eq-or-lt_of_le low)

pub found_by : (test : ℕ → Bool) (a n j : ℕ) → a ≤ j → j < a + n → test j ≡ true → FoundBy test a j (find test (range_with_len a n))
found_by test a zero j low high passes = absurd (omega (arith, low, high))
found_by test a (suc n) j low high passes =
    found_here test a j (test a) (find test (range_with_len (a + 1) n)) refl low passes (λ above fails. found_by test (a + 1) n j (omega (arith, above)) (omega (arith, high)) passes)

-- after an opening statement there is an `end`, up to which there is one `end` more than blocks that begin
record Ending (body : List Stmt) (i : ℕ) : Type 0 where
  at : ℕ
  within : suc i + at < length body
  more : suc (suc i + at) < length body
  is : holds body is_end (suc i + at) ≡ true
  count : count_by is_end (take (suc at) (drop (suc i) body)) ≡ count_by begins_block (take (suc at) (drop (suc i) body)) + 1

ending_by : (body : List Stmt) (i : ℕ) (left : List Block) (m : ℕ) → depth left ≡ m + 1 → 0 < m → i < length body → Falls (drop (suc i) body) (depth left) m → Ending body i
ending_by body i left m deep above within falls =
    let long = length-drop (suc i) body in
    record {
      at = falls.at;
      within = omega (arith, long, falls.within, within);
      more = omega (arith, long, falls.more above, within);
      is = sym (ap (λ o. option_map_or is_end o false) (get-drop body (suc i) falls.at)) ∙ falls.is;
      count = omega (arith, falls.count, deep);
    }

ending : (body : List Stmt) (i : ℕ) (s : Stmt) → are_nested (block.Function ∷ []) (map role_of body) ≡ true → i < length body → get_or body i s ≡ s → opens_block s ≡ true → Ending body i
ending body i s nests within is opens =
    let prefix = open_at (block.Function ∷ []) body i refl nests within in
    let next : i + 1 ≡ suc i = omega arith in
    let split : drop i body ≡ s ∷ drop (suc i) body = drop_more body i s within ∙ ap (λ x. x ∷ drop (i + 1) body) is ∙ ap (λ k. s ∷ drop k body) next in
    let nested : are_nested prefix.left (role_of s ∷ map role_of (drop (suc i) body)) ≡ true = ap (λ ss. are_nested prefix.left (map role_of ss)) (sym split) ∙ prefix.nested in
    let after = opened s prefix.left (map role_of (drop (suc i) body)) opens prefix.based nested in
    let deep : depth after.left ≡ depth after.left - 1 + 1 = omega (arith, after.deep) in
    ending_by body i after.left (depth after.left - 1) deep (omega (arith, after.deep)) within (falls (drop (suc i) body) after.left (depth after.left - 1) (omega (arith, after.deep)) after.based after.nested)

-- the block of a statement closes after it, and before the last statement
pub record ClosesWithin (body : List Stmt) (i : ℕ) (o : Option ℕ) : Type 0 where
  pub close : ℕ
  pub is : o ≡ Some close
  pub after : i < close
  pub before : suc close < length body

closes_by_test : (body : List Stmt) (i : ℕ) (test : ℕ → Bool) (e : Ending body i) → test (suc i + e.at) ≡ true → ClosesWithin body i (first_later body test i)
closes_by_test body i test e passes =
    let first = found_by test (suc i) (length body - suc i) (suc i + e.at) (omega arith) (omega (arith, e.within)) passes in
    record { close = first.found; is = first.is; after = omega (arith, first.low); before = omega (arith, first.high, e.more) }

-- the test of a statement that opens a block
abbrev pub test_of : List Stmt → ℕ → Stmt → ℕ → Bool
test_of body i (statement.If v) j = closes body i j
test_of body i (statement.While v) j = closes body i j
test_of body i statement.Else j = closes_else body i j
test_of body i _ j = false

-- the statement at i, and the `if`, `while` and `end` after it up to j
pub record From (body : List Stmt) (i j : ℕ) (s : Stmt) : Type 0 where
  pub begun : begins body i j ≡ cond (begins_block s) 1 0 + begins body (suc i) j
  pub ended : ends body i j ≡ cond (is_end s) 1 0 + ends body (suc i) j

-- the counts without the statement at i
pub from : (body : List Stmt) (i j : ℕ) (s : Stmt) → slice_get body i ≡ Some s → i < j → From body i j s
from body i j s is above =
    let within = slice_get_within body i s is in
    let at : get_or body i s ≡ s = get_or_from_slice_get body i s s is in
    let next : i + 1 ≡ suc i = omega arith in
    let split : drop i body ≡ s ∷ drop (suc i) body = drop_more body i s within ∙ ap (λ x. x ∷ drop (i + 1) body) at ∙ ap (λ k. s ∷ drop k body) next in
    let span : suc j - i ≡ suc (suc j - suc i) = omega (arith, above) in
    let prefix : slice_range body i (suc j) ≡ s ∷ slice_range body (suc i) (suc j) = ap (λ n. take n (drop i body)) span ∙ ap (take (suc (suc j - suc i))) split in
    record {
      begun = ap (count_by begins_block) prefix ∙ count-cons begins_block s (slice_range body (suc i) (suc j));
      ended = ap (count_by is_end) prefix ∙ count-cons is_end s (slice_range body (suc i) (suc j));
    }

-- a block is closed at an `end` up to which there is one `end` more than blocks that begin
passes_block : (body : List Stmt) (i j : ℕ) (s : Stmt) → slice_get body i ≡ Some s → i < j → begins_block s ≡ true → is_end s ≡ false → holds body is_end j ≡ true → ends body (suc i) j ≡ suc (begins body (suc i) j) → closes body i j ≡ true
passes_block body i j s is above begun other end count =
    let sums = from body i j s is above in
    let b : begins body i j ≡ suc (begins body (suc i) j) = sums.begun ∙ ap (λ x. cond x 1 0 + begins body (suc i) j) begun ∙ omega arith in
    let e : ends body i j ≡ ends body (suc i) j = sums.ended ∙ ap (λ x. cond x 1 0 + ends body (suc i) j) other ∙ omega arith in
    or_left _ _ (and_from _ _ end (eq-eqb (ends body i j) (begins body i j) (omega (arith, b, e, count))))

-- what a statement opens is closed at such an `end`
pub passes : (body : List Stmt) (i j : ℕ) (s : Stmt) → slice_get body i ≡ Some s → i < j → opens_block s ≡ true → holds body is_end j ≡ true → ends body (suc i) j ≡ suc (begins body (suc i) j) → test_of body i s j ≡ true
passes body i j (statement.If v) is above opens end count = passes_block body i j (statement.If v) is above refl refl end count
passes body i j (statement.While v) is above opens end count = passes_block body i j (statement.While v) is above refl refl end count
passes body i j statement.Else is above opens end count = eq-eqb (ends body (suc i) j) (begins body (suc i) j + 1) (omega (arith, count))
passes body i j _ is above opens end count = absurd (false≢true opens)

-- where the block of a statement closes
pub closing_by : (body : List Stmt) (i : ℕ) (s : Stmt) → opens_block s ≡ true → closing body i s ≡ first_later body (test_of body i s) i
closing_by body i (statement.If v) opens = refl
closing_by body i (statement.While v) opens = refl
closing_by body i statement.Else opens = refl
closing_by body i _ opens = absurd (false≢true opens)

closes_opening : (body : List Stmt) (i : ℕ) (s : Stmt) → are_nested (block.Function ∷ []) (map role_of body) ≡ true → i < length body → slice_get body i ≡ Some s
    → get_or body i s ≡ s → opens_block s ≡ true → ClosesWithin body i (closing body i s)
closes_opening body i s nests within at is opens =
    let e = ending body i s nests within is opens in
    let j = suc i + e.at in
    let span : suc j - suc i ≡ suc e.at = omega arith in
    let ended : ends body (suc i) j ≡ count_by is_end (take (suc e.at) (drop (suc i) body)) = ap (λ n. count_by is_end (take n (drop (suc i) body))) span in
    let begun : begins body (suc i) j ≡ count_by begins_block (take (suc e.at) (drop (suc i) body)) =
    ap (λ n. count_by begins_block (take n (drop (suc i) body))) span in
    let found = closes_by_test body i (test_of body i s) e (passes body i j s at (omega arith) opens e.is (omega (arith, ended, begun, e.count))) in
    record { close = found.close; is = closing_by body i s opens ∙ found.is; after = found.after; before = found.before }

closes_by : (body : List Stmt) (i : ℕ) → are_nested (block.Function ∷ []) (map role_of body) ≡ true → holds body opens_block i ≡ true → (((s : Stmt) × (i < length body) × (slice_get body i ≡ Some s) × (get_or body i s ≡ s)) ⊎ ((length body ≤ i) × (slice_get body i ≡ None))) → ClosesWithin body i (close_of body i)
unfolding close_of
closes_by body i nests opens (inl here) =
    let opens_here = sym (ap (λ o. option_map_or opens_block o false) here.2) ∙ opens in
    let found = closes_opening body i here.0 nests here.1 here.2 here.3 opens_here in
    record { close = found.close; is = ap (λ o. option_map_or (closing body i) o None) here.2 ∙ found.is; after = found.after; before = found.before }
closes_by body i nests opens (inr past) = absurd (false≢true (sym (ap (λ o. option_map_or opens_block o false) past.1) ∙ opens))

-- the block of an `if`, an `else` or a `while` closes before the last statement
pub closes_within : (body : List Stmt) (i : ℕ) → are_nested (block.Function ∷ []) (map role_of body) ≡ true → holds body opens_block i ≡ true → ClosesWithin body i (close_of body i)
closes_within body i nests opens = closes_by body i nests opens (slice_get_cases body i).1

-- an `if`, an `else` or a `while` is closed
pub is_closed : (body : List Stmt) (i : ℕ) → are_nested (block.Function ∷ []) (map role_of body) ≡ true → holds body opens_block i ≡ true → is_some (close_of body i) ≡ true
is_closed body i nests opens = ap is_some (closes_within body i nests opens).is
