-- In a body whose blocks nest, each `end` before the last closes the block of an `if`, an `else` or a `while`.
use Rattle.pct_names.proofs.Names.{◌&&◌, ◌+◌, ◌-◌, ◌<◌, [], and_parts, and_right, ap, are_nested, arith, Block, Bool, change_at, close_of}
use Rattle.pct_names.proofs.Names.{closes, closes_else, closing, cond, drop, drop_more, encode, ends, eq-or-lt_of_le, false, false≢true}
use Rattle.pct_names.proofs.Names.{find, first_later, get_or, get_or_from_slice_get, holds, inl, inr, inside, is_else, is_if, is_some}
use Rattle.pct_names.proofs.Names.{length, length-drop, List, map, nat_eq, None, open_after, open_of, Option, option_map_or, or_from}
use Rattle.pct_names.proofs.Names.{range_with_len, refl, Role, role_of, same_Some, slice_get, slice_get_cases, slice_get_within}
use Rattle.pct_names.proofs.Names.{slice_range, Some, Stmt, suc, sym, syntax_of, take, true, zero, ℕ, ◌∙◌, ◌∷◌, ◌≡◌, ◌≢◌, ◌≤◌, ◌⊎◌}
use Rattle.std.proofs.Common.{eqb-true}
use Rattle.std.specs.List.{count_by}
use Rattle.std.proofs.lemmas.Bool.{true≢false, eq-eqb, ne_eqb}
use Rattle.pct_model.specs.declared.role.Block.TheVariants as block
use Rattle.pct_model.specs.declared.role.Role.TheVariants as role
use Rattle.pct_model.specs.declared.statement.Stmt.TheVariants as statement
use Rattle.pct_model.specs.Jumps.{is_end, begins}
use Rattle.pct_jumps.specs.JumpTable.{opens_block}
use Rattle.pct_jumps.proofs.Closing.{tally}
use Rattle.pct_jumps.proofs.NestedBodies.{begins_block, begun_by, ended_by, begun_is, ended_is, is_based, based_outside, is_inner, inner_is, open_left, FoundBy, found_by, closes_within, test_of, from, passes, closing_by}

-- ---- the test that finds where a block closes

and_if : (a b : Bool) → (a ≡ true → b ≡ false) → (a && b) ≡ false
and_if true b fails_it = fails_it refl
and_if false b fails_it = refl

-- a block of depth d, its own included, is not closed at a statement
fails_block : (body : List Stmt) (i j d : ℕ) (s : Stmt) → slice_get body i ≡ Some s → i < j → begins_block s ≡ true → is_end s ≡ false
    → suc (begins body (suc i) j) ≡ ends body (suc i) j + d → 1 ≤ d → (holds body is_else j ≡ true → 2 ≤ d) → closes body i j ≡ false
fails_block body i j d s is above begun other count deep deeper =
    let sums = from body i j s is above in
    let b : begins body i j ≡ suc (begins body (suc i) j) = sums.begun ∙ ap (λ x. cond x 1 0 + begins body (suc i) j) begun ∙ omega arith in
    let e : ends body i j ≡ ends body (suc i) j = sums.ended ∙ ap (λ x. cond x 1 0 + ends body (suc i) j) other ∙ omega arith in
    or_from (holds body is_end j && nat_eq (ends body i j) (begins body i j)) (holds body is_if i && holds body is_else j && nat_eq (ends body i j + 1) (begins body i j))
    (and_right (holds body is_end j) (nat_eq (ends body i j) (begins body i j)) (ne_eqb (ends body i j) (begins body i j) (λ same. absurd (omega (arith, b, e, count, deep, same)))))
    (and_if (holds body is_if i && holds body is_else j) (nat_eq (ends body i j + 1) (begins body i j)) (λ both. ne_eqb (ends body i j + 1) (begins body i j) (λ same. absurd (omega (arith, b, e, count, same, deeper (and_parts (holds body is_if i) (holds body is_else j) both).1)))))

fails_else : (body : List Stmt) (i j d : ℕ) → suc (begins body (suc i) j) ≡ ends body (suc i) j + d → 1 ≤ d → closes_else body i j ≡ false
fails_else body i j d count deep = ne_eqb (ends body (suc i) j) (begins body (suc i) j + 1) (λ same. absurd (omega (arith, count, deep, same)))

fails : (body : List Stmt) (i j d : ℕ) (s : Stmt) → slice_get body i ≡ Some s → i < j → suc (begins body (suc i) j) ≡ ends body (suc i) j + d → 1 ≤ d → (holds body is_else j ≡ true → 2 ≤ d) → test_of body i s j ≡ false
fails body i j d (statement.If v) is above count deep deeper = fails_block body i j d (statement.If v) is above refl refl count deep deeper
fails body i j d (statement.While v) is above count deep deeper = fails_block body i j d (statement.While v) is above refl refl count deep deeper
fails body i j d statement.Else is above count deep deeper = fails_else body i j d count deep
fails body i j d _ is above count deep deeper = refl

-- ---- the statements that opened the open blocks

-- the statement that opened an open block; d is the block's depth before statement i, its own included
record Opener (body : List Stmt) (i d : ℕ) : Type 0 where
  at : ℕ
  s : Stmt
  is : slice_get body at ≡ Some s
  opens : opens_block s ≡ true
  before : at < i
  count : suc (count_by begins_block (slice_range body (suc at) i)) ≡ count_by is_end (slice_range body (suc at) i) + d
  never_closed : (j : ℕ) → at < j → j < i → test_of body at s j ≡ false

-- each open block has its opener; d is the depth of the blocks around which they are
abbrev Openers : List Stmt → ℕ → ℕ → List Block → Type 0
Openers body i d [] = Unit {0}
Openers body i d (block.Function ∷ blocks) = Unit {0}
Openers body i d (block.Push ∷ blocks) = Openers body i d blocks
Openers body i d (b ∷ blocks) = Opener body i (suc d) × Openers body i (suc d) blocks

-- the counts with one more statement
counted : (p : Stmt → Bool) (body : List Stmt) (at i : ℕ) (s : Stmt) → slice_get body i ≡ Some s → at < i → count_by p (slice_range body (suc at) (suc i)) ≡ count_by p (slice_range body (suc at) i) + cond (p s) 1 0
counted p body at i s is before =
    let next : suc i ≡ i + 1 = omega arith in
    ap (λ k. count_by p (slice_range body (suc at) k)) next
    ∙ tally p body (suc at) i s (omega (arith, before)) (slice_get_within body i s is)
    ∙ ap (λ x. count_by p (slice_range body (suc at) i) + cond (p x) 1 0) (get_or_from_slice_get body i s s is)

-- what a statement does to the depth, and to a block that stays open
record Moves (s : Stmt) (d e : ℕ) : Type 0 where
  depth : e + cond (is_end s) 1 0 ≡ d + cond (begins_block s) 1 0
  else : is_else s ≡ true → 1 ≤ e

moves_in : (s : Stmt) (d e : ℕ) → Moves s d e → Moves s (suc d) (suc e)
moves_in s d e m = record { depth = omega (arith, m.depth); else = λ is. omega arith }

still_open : (body : List Stmt) (at : ℕ) (s : Stmt) (i j : ℕ) → (j < i → test_of body at s j ≡ false) → test_of body at s i ≡ false → (j ≡ i) ⊎ (j < i) → test_of body at s j ≡ false
still_open body at s i j earlier here (inl same) = ap (test_of body at s) same ∙ here
still_open body at s i j earlier here (inr below) = earlier below

opener_after : (body : List Stmt) (i : ℕ) (s : Stmt) (d e : ℕ) → slice_get body i ≡ Some s → Moves s d e → Opener body i (suc d) → Opener body (suc i) (suc e)
opener_after body i s d e is m o =
    let count : suc (count_by begins_block (slice_range body (suc o.at) (suc i))) ≡ count_by is_end (slice_range body (suc o.at) (suc i)) + suc e = omega (arith, o.count, m.depth, counted begins_block body o.at i s is o.before, counted is_end body o.at i s is o.before) in
    let here : holds body is_else i ≡ is_else s = ap (λ x. option_map_or is_else x false) is in
    record {
      at = o.at;
      s = o.s;
      is = o.is;
      opens = o.opens;
      before = omega (arith, o.before);
      count = count;
      never_closed = λ j after within.
          let low : j ≤ i = omega (arith, within) in
          still_open body o.at o.s i j (o.never_closed j after) (fails body o.at i (suc e) o.s o.is o.before count (omega arith) (λ else. let deep = m.else (sym here ∙ else) in omega (arith, deep))) (eq-or-lt_of_le low);
    }

openers_after : (body : List Stmt) (i : ℕ) (s : Stmt) (d e : ℕ) (blocks : List Block) → slice_get body i ≡ Some s → Moves s d e → Openers body i d blocks → Openers body (suc i) e blocks
openers_after body i s d e [] is m o = tt
openers_after body i s d e (block.Function ∷ blocks) is m o = tt
openers_after body i s d e (block.Push ∷ blocks) is m o = openers_after body i s d e blocks is m o
openers_after body i s d e (b ∷ blocks) is m o = (opener_after body i s d e is m o.0, openers_after body i s (suc d) (suc e) blocks is (moves_in s d e m) o.1)

-- a statement that opens a block is its opener
opener_here : (body : List Stmt) (i : ℕ) (s : Stmt) → slice_get body i ≡ Some s → opens_block s ≡ true → Opener body (suc i) 1
opener_here body i s is opens =
    let none : suc i - suc i ≡ 0 = omega arith in
    let begun : count_by begins_block (slice_range body (suc i) (suc i)) ≡ 0 = ap (λ n. count_by begins_block (take n (drop (suc i) body))) none in
    let ended : count_by is_end (slice_range body (suc i) (suc i)) ≡ 0 = ap (λ n. count_by is_end (take n (drop (suc i) body))) none in
    record {
      at = i;
      s = s;
      is = is;
      opens = opens;
      before = omega arith;
      count = omega (arith, begun, ended);
      never_closed = λ j after within. absurd (omega (arith, after, within));
    }

-- ---- one statement

abbrev else_by : Role → Bool
else_by role.Else = true
else_by _ = false

else_is : (s : Stmt) → else_by (role_of s) ≡ is_else s
unfolding encode syntax_of
else_is statement.Else = refl
else_is _ = refl

end_role : (s : Stmt) → is_end s ≡ true → role_of s ≡ role.End
unfolding encode syntax_of
end_role statement.End is = refl
end_role _ is = absurd (false≢true is)

-- the role of a statement, by its tests
record HasRole (s : Stmt) (r : Role) : Type 0 where
  begun : begun_by r ≡ cond (begins_block s) 1 0
  ended : ended_by r ≡ cond (is_end s) 1 0
  else : else_by r ≡ is_else s
  inner : is_inner r ≡ true

has_role : (s : Stmt) → HasRole s (role_of s)
has_role s = record { begun = begun_is s; ended = ended_is s; else = else_is s; inner = inner_is s }

begins_opens : (s : Stmt) (n : ℕ) → 0 < n → n ≡ cond (begins_block s) 1 0 → opens_block s ≡ true
begins_opens (statement.If v) n some is = refl
begins_opens (statement.While v) n some is = refl
begins_opens _ n some is = absurd (omega (arith, some, is))

else_opens : (s : Stmt) → true ≡ is_else s → opens_block s ≡ true
else_opens statement.Else is = refl
else_opens _ is = absurd (true≢false is)

moves : (s : Stmt) (r : Role) (d e : ℕ) → HasRole s r → e + ended_by r ≡ d + begun_by r → (else_by r ≡ true → 1 ≤ e) → Moves s d e
moves s r d e is deep else = record { depth = omega (arith, deep, is.begun, is.ended); else = λ yes. else (is.else ∙ yes) }

never : {X : Type 0} → false ≡ true → X
never is = absurd (false≢true is)

-- the open blocks after a statement, with their openers
record Next (body : List Stmt) (i : ℕ) (roles : List Role) : Type 0 where
  left : List Block
  nested : are_nested left roles ≡ true
  based : (left ≡ []) ⊎ (is_based left ≡ true)
  openers : Openers body i 0 left

next_opens : (body : List Stmt) (i : ℕ) (s : Stmt) (inner b : Block) (blocks : List Block) (roles : List Role) → slice_get body i ≡ Some s → HasRole s (role.Opens inner) → is_based (b ∷ blocks) ≡ true → are_nested (inner ∷ b ∷ blocks) roles ≡ true → Openers body i 0 (b ∷ blocks) → Next body (suc i) roles
next_opens body i s block.Function b blocks roles at is based nests o = absurd (false≢true is.inner)
next_opens body i s block.Else b blocks roles at is based nests o = absurd (false≢true is.inner)
next_opens body i s block.Push b blocks roles at is based nests o = record {
  left = block.Push ∷ b ∷ blocks;
  nested = nests;
  based = inr based;
  openers = openers_after body i s 0 0 (b ∷ blocks) at (moves s (role.Opens block.Push) 0 0 is (omega arith) never) o;
}
next_opens body i s inner b blocks roles at is based nests o = record {
  left = inner ∷ b ∷ blocks;
  nested = nests;
  based = inr based;
  openers = (
    opener_here body i s at (begins_opens s (begun_by (role.Opens inner)) (omega arith) is.begun),
    openers_after body i s 0 1 (b ∷ blocks) at (moves s (role.Opens inner) 0 1 is (omega arith) never) o,
  );
}

next_stays : (body : List Stmt) (i : ℕ) (s : Stmt) (b : Block) (blocks : List Block) (r : Role) (roles : List Role) → slice_get body i ≡ Some s → Moves s 0 0 → is_based (b ∷ blocks) ≡ true → are_nested (b ∷ blocks) roles ≡ true → Openers body i 0 (b ∷ blocks) → Next body (suc i) roles
next_stays body i s b blocks r roles at m based nests o = record { left = b ∷ blocks; nested = nests; based = inr based; openers = openers_after body i s 0 0 (b ∷ blocks) at m o }

next_closes : (body : List Stmt) (i : ℕ) (s : Stmt) (blocks : List Block) (roles : List Role) → slice_get body i ≡ Some s → HasRole s role.End → is_based blocks ≡ true → are_nested blocks roles ≡ true → Openers body i 1 blocks → Next body (suc i) roles
next_closes body i s blocks roles at is based nests o = record { left = blocks; nested = nests; based = inr based; openers = openers_after body i s 1 0 blocks at (moves s role.End 1 0 is refl never) o }

next : (body : List Stmt) (i : ℕ) (s : Stmt) (b : Block) (blocks : List Block) (r : Role) (roles : List Role) → slice_get body i ≡ Some s → HasRole s r → is_based (b ∷ blocks) ≡ true → are_nested (b ∷ blocks) (r ∷ roles) ≡ true → Openers body i 0 (b ∷ blocks) → Next body (suc i) roles
unfolding are_nested change_at inside open_after
next body i s b blocks (role.Declares k) roles at is based nests o = absurd (false≢true nests)
next body i s b blocks (role.Opens inner) roles at is based nests o = next_opens body i s inner b blocks roles at is based nests o
next body i s block.If blocks role.Else roles at is based nests o = record {
  left = block.Else ∷ blocks;
  nested = nests;
  based = inr based;
  openers = (opener_here body i s at (else_opens s is.else), openers_after body i s 1 1 blocks at (moves s role.Else 1 1 is refl (λ yes. omega arith)) o.1);
}
next body i s b blocks role.Else roles at is based nests o = absurd (false≢true nests)
next body i s block.Push blocks role.End roles at is based nests o = absurd (false≢true nests)
next body i s block.Function blocks role.End roles at is based nests o =
    let none = based_outside blocks based in
    record { left = []; nested = ap (λ (bs : List Block). are_nested bs roles) (sym none) ∙ nests; based = inl refl; openers = tt }
next body i s b blocks role.End roles at is based nests o = next_closes body i s blocks roles at is based nests o.1
next body i s block.Push blocks role.Pop roles at is based nests o = record { left = blocks; nested = nests; based = inr based; openers = openers_after body i s 0 0 blocks at (moves s role.Pop 0 0 is refl never) o }
next body i s b blocks role.Pop roles at is based nests o = absurd (false≢true nests)
next body i s b blocks r roles at is based nests o = next_stays body i s b blocks r roles at (moves s r 0 0 is refl never) based nests o

-- ---- the open blocks before a statement

record Before (body : List Stmt) (i : ℕ) : Type 0 where
  s : Stmt
  is : slice_get body i ≡ Some s
  left : List Block
  nested : are_nested left (role_of s ∷ map role_of (drop (suc i) body)) ≡ true
  based : is_based left ≡ true
  openers : Openers body i 0 left

before_by : (body : List Stmt) (i : ℕ) (left : List Block) → i < length body → are_nested left (map role_of (drop i body)) ≡ true → is_based left ≡ true → Openers body i 0 left → (((s : Stmt) × (i < length body) × (slice_get body i ≡ Some s) × (get_or body i s ≡ s)) ⊎ ((length body ≤ i) × (slice_get body i ≡ None))) → Before body i
before_by body i left within nests based o (inr past) = let low = past.0 in absurd (omega (arith, low, within))
before_by body i left within nests based o (inl here) =
    let next_at : i + 1 ≡ suc i = omega arith in
    let split : drop i body ≡ here.0 ∷ drop (suc i) body = drop_more body i here.0 within ∙ ap (λ x. x ∷ drop (i + 1) body) here.3 ∙ ap (λ k. here.0 ∷ drop k body) next_at in
    record { s = here.0; is = here.2; left = left; nested = ap (λ ss. are_nested left (map role_of ss)) (sym split) ∙ nests; based = based; openers = o }

before_at : (body : List Stmt) (i : ℕ) (left : List Block) → i < length body → are_nested left (map role_of (drop i body)) ≡ true → is_based left ≡ true → Openers body i 0 left → Before body i
before_at body i left within nests based o = before_by body i left within nests based o (slice_get_cases body i).1

next_from : (body : List Stmt) (i : ℕ) (s : Stmt) (left : List Block) (roles : List Role) → slice_get body i ≡ Some s → is_based left ≡ true → are_nested left (role_of s ∷ roles) ≡ true → Openers body i 0 left → Next body (suc i) roles
next_from body i s [] roles at based nests o = absurd (false≢true based)
next_from body i s (b ∷ blocks) roles at based nests o = next body i s b blocks (role_of s) roles at (has_role s) based nests o

before : (body : List Stmt) (i : ℕ) → are_nested (block.Function ∷ []) (map role_of body) ≡ true → i < length body → Before body i
before body zero nests within = before_at body zero (block.Function ∷ []) within nests refl tt
before body (suc i) nests within =
    let b = before body i nests (omega (arith, within)) in
    let n = next_from body i b.s b.left (map role_of (drop (suc i) body)) b.is b.based b.nested b.openers in
    let long = length-drop (suc i) body in
    before_at body (suc i) n.left within n.nested (open_left (drop (suc i) body) n.left (omega (arith, long, within)) n.nested n.based) n.openers

-- ---- what an `end` closes

top_opener : (body : List Stmt) (i : ℕ) (left : List Block) (rest : List Stmt) → 0 < length rest → is_based left ≡ true → are_nested left (role.End ∷ map role_of rest) ≡ true → Openers body i 0 left → Opener body i 1
unfolding are_nested change_at inside open_after
top_opener body i [] rest more based nests o = absurd (false≢true based)
top_opener body i (block.Function ∷ blocks) rest more based nests o =
    let none = based_outside blocks based in
    absurd (false≢true (sym (ap is_based none) ∙ open_left rest blocks more nests (inl none)))
top_opener body i (block.Push ∷ blocks) rest more based nests o = absurd (false≢true nests)
top_opener body i (b ∷ blocks) rest more based nests o = o.0

first_is : (test : ℕ → Bool) (a j : ℕ) (o : Option ℕ) (f : FoundBy test a j o) → ((k : ℕ) → a ≤ k → k < j → test k ≡ false) → (f.found ≡ j) ⊎ (f.found < j) → o ≡ Some j
first_is test a j o f none (inl same) = f.is ∙ ap Some same
first_is test a j o f none (inr below) = absurd (true≢false (sym f.passes ∙ none f.found f.low below))

closed_by : (body : List Stmt) (pc : ℕ) (o : Opener body pc 1) → pc < length body → holds body is_end pc ≡ true → ends body (suc o.at) pc ≡ suc (begins body (suc o.at) pc) → close_of body o.at ≡ Some pc
unfolding close_of
closed_by body pc o within end count =
    let test = test_of body o.at o.s in
    let first = found_by test (suc o.at) (length body - suc o.at) pc (omega (arith, o.before)) (omega (arith, within, o.before)) (passes body o.at pc o.s o.is o.before o.opens end count) in
    ap (λ x. option_map_or (closing body o.at) x None) o.is
    ∙ closing_by body o.at o.s o.opens
    ∙ first_is test (suc o.at) pc (first_later body test o.at) first (λ k low high. o.never_closed k (omega (arith, low)) high) (eq-or-lt_of_le first.high)

-- an `end` before the last statement closes a block that a statement opened
record Closed (body : List Stmt) (pc : ℕ) : Type 0 where
  at : ℕ
  before : at < pc
  is : close_of body at ≡ Some pc

closed_from : (body : List Stmt) (pc : ℕ) (s : Stmt) (o : Opener body pc 1) → slice_get body pc ≡ Some s → is_end s ≡ true → Closed body pc
closed_from body pc s o is end =
    let has = has_role s in
    let is_role = end_role s end in
    let within = slice_get_within body pc s is in
    let one : ended_by role.End ≡ cond (is_end s) 1 0 = ap ended_by (sym is_role) ∙ has.ended in
    let none : begun_by role.End ≡ cond (begins_block s) 1 0 = ap begun_by (sym is_role) ∙ has.begun in
    let count : ends body (suc o.at) pc ≡ suc (begins body (suc o.at) pc) = omega (arith, o.count, one, none, counted begins_block body o.at pc s is o.before, counted is_end body o.at pc s is o.before) in
    record { at = o.at; before = o.before; is = closed_by body pc o within (ap (λ x. option_map_or is_end x false) is ∙ end) count }

closed : (body : List Stmt) (pc : ℕ) → are_nested (block.Function ∷ []) (map role_of body) ≡ true → holds body is_end pc ≡ true → suc pc < length body → Closed body pc
closed body pc nests end more =
    let b = before body pc nests (omega (arith, more)) in
    let is : is_end b.s ≡ true = sym (ap (λ x. option_map_or is_end x false) b.is) ∙ end in
    let long = length-drop (suc pc) body in
    let nested : are_nested b.left (role.End ∷ map role_of (drop (suc pc) body)) ≡ true = ap (λ r. are_nested b.left (r ∷ map role_of (drop (suc pc) body))) (sym (end_role b.s is)) ∙ b.nested in
    closed_from body pc b.s (top_opener body pc b.left (drop (suc pc) body) (omega (arith, long, more)) b.based nested b.openers) b.is is

-- ---- the statement whose block an `end` closes

abbrev closes_at : List Stmt → ℕ → ℕ → Bool
closes_at body pc i = option_map_or (nat_eq pc) (close_of body i) false

-- an `end` before the last statement closes a block
pub is_opened : (body : List Stmt) (pc : ℕ) → are_nested (block.Function ∷ []) (map role_of body) ≡ true → holds body is_end pc ≡ true → suc pc < length body → is_some (open_of body pc) ≡ true
unfolding open_of
is_opened body pc nests end more =
    let c = closed body pc nests end more in
    let first = found_by (closes_at body pc) 0 (length body) c.at (omega arith) (omega (arith, c.before, more)) (ap (λ o. option_map_or (nat_eq pc) o false) c.is ∙ eq-eqb pc pc refl) in
    ap (λ b. is_some (cond b (find (closes_at body pc) (range_with_len 0 (length body))) None)) end ∙ ap is_some first.is

none_found : (test : ℕ → Bool) (a n : ℕ) → ((i : ℕ) → a ≤ i → i < a + n → test i ≡ false) → find test (range_with_len a n) ≡ None
none_found test a zero none = refl
none_found test a (suc n) none =
    ap (λ b. cond b (Some a) (find test (range_with_len (a + 1) n))) (none a (omega arith) (omega arith))
    ∙ none_found test (a + 1) n (λ i low high. none i (omega (arith, low)) (omega (arith, high)))

-- an index that a found index closes at
not_at : (pc : ℕ) (o : Option ℕ) → ((close : ℕ) → o ≡ Some close → close ≢ pc) → option_map_or (nat_eq pc) o false ≡ false
not_at pc None other = refl
not_at pc (Some close) other = ne_eqb pc close (λ same. other close refl (sym same))

opens_if_closed_by : (body : List Stmt) (i close : ℕ) (s : Stmt) → closing body i s ≡ Some close → opens_block s ≡ true
opens_if_closed_by body i close (statement.If v) is = refl
opens_if_closed_by body i close (statement.While v) is = refl
opens_if_closed_by body i close statement.Else is = refl
opens_if_closed_by body i close _ is = absurd cc

opens_if_at : (body : List Stmt) (i close : ℕ) (o : Option Stmt) → option_map_or (closing body i) o None ≡ Some close → option_map_or opens_block o false ≡ true
opens_if_at body i close None is = absurd cc
opens_if_at body i close (Some s) is = opens_if_closed_by body i close s is

-- what closes is a block that a statement opens
pub opens_if_closed : (body : List Stmt) (i close : ℕ) → close_of body i ≡ Some close → holds body opens_block i ≡ true
unfolding close_of
opens_if_closed body i close is = opens_if_at body i close (slice_get body i) is

if_none : (b : Bool) (o : Option ℕ) → o ≡ None → cond b o None ≡ None
if_none true o none = none
if_none false o none = refl

pub close_within : (body : List Stmt) (i close : ℕ) → are_nested (block.Function ∷ []) (map role_of body) ≡ true → close_of body i ≡ Some close → (i < close) × (suc close < length body)
close_within body i close nests is =
    let w = closes_within body i nests (opens_if_closed body i close is) in
    let same : w.close ≡ close = same_Some w.close close (sym w.is ∙ is) in
    (omega (arith, w.after, same), omega (arith, w.before, same))

-- the last statement closes no block but the function
pub is_not_opened : (body : List Stmt) (pc : ℕ) → are_nested (block.Function ∷ []) (map role_of body) ≡ true → suc pc ≡ length body → open_of body pc ≡ None
unfolding open_of
is_not_opened body pc nests last =
    if_none (holds body is_end pc) (find (closes_at body pc) (range_with_len 0 (length body)))
    (none_found (closes_at body pc) 0 (length body) (λ i low high. not_at pc (close_of body i) (λ close is same. let w = close_within body i close nests is in let before = w.1 in absurd (omega (arith, before, same, last)))))

pub close_at : (pc : ℕ) (o : Option ℕ) → option_map_or (nat_eq pc) o false ≡ true → o ≡ Some pc
close_at pc None is = absurd (false≢true is)
close_at pc (Some close) is = ap Some (sym (eqb-true pc close is))

some_passes_by : (test : ℕ → Bool) (a found : ℕ) (b : Bool) (o : Option ℕ) → test a ≡ b → (o ≡ Some found → test found ≡ true) → cond b (Some a) o ≡ Some found → test found ≡ true
some_passes_by test a found true o here later is = sym (ap test (same_Some a found is)) ∙ here
some_passes_by test a found false o here later is = later is

some_passes : (test : ℕ → Bool) (a n found : ℕ) → find test (range_with_len a n) ≡ Some found → test found ≡ true
some_passes test a zero found is = absurd cc
some_passes test a (suc n) found is = some_passes_by test a found (test a) (find test (range_with_len (a + 1) n)) refl (some_passes test (a + 1) n found) is

if_some : (b : Bool) (o : Option ℕ) (found : ℕ) → cond b o None ≡ Some found → o ≡ Some found
if_some true o found is = is
if_some false o found is = absurd cc

-- the `end` at pc closes the block that it closes by the table of openings
pub close_of-open_of : (body : List Stmt) (pc opening : ℕ) → open_of body pc ≡ Some opening → close_of body opening ≡ Some pc
unfolding open_of
close_of-open_of body pc opening is =
    close_at pc (close_of body opening) (some_passes (closes_at body pc) 0 (length body) opening (if_some (holds body is_end pc) (find (closes_at body pc) (range_with_len 0 (length body))) opening is))

-- an `end` closes the block of an earlier statement
pub opened_before : (body : List Stmt) (pc opening : ℕ) → are_nested (block.Function ∷ []) (map role_of body) ≡ true → open_of body pc ≡ Some opening → (opening < pc) × (holds body opens_block opening ≡ true)
opened_before body pc opening nests is =
    let close = close_of-open_of body pc opening is in
    ((close_within body opening pc nests close).0, opens_if_closed body opening pc close)

holds_if : (b : Bool) (o : Option ℕ) (found : ℕ) → cond b o None ≡ Some found → b ≡ true
holds_if true o found is = refl
holds_if false o found is = absurd cc

-- where a block is closed, there is an `end`
pub ends_if_opened : (body : List Stmt) (pc opening : ℕ) → open_of body pc ≡ Some opening → holds body is_end pc ≡ true
unfolding open_of
ends_if_opened body pc opening is = holds_if (holds body is_end pc) (find (closes_at body pc) (range_with_len 0 (length body))) opening is

-- a statement that passes a test is in the body
pub held_within : (body : List Stmt) (test : Stmt → Bool) (pc : ℕ) → holds body test pc ≡ true → pc < length body
held_within [] test pc is = absurd (false≢true is)
held_within (s ∷ body) test zero is = omega arith
held_within (s ∷ body) test (suc pc) is = let rest = held_within body test pc is in omega (arith, rest)
