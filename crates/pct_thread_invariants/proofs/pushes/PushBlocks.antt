-- In a body whose blocks nest, the pushes that are open at a statement are as many as the open push blocks.
use Rattle.pct_names.proofs.Names.{◌&&◌, ◌+◌, [], and_parts, ap, are_nested, arith, Block, Bool, change_at, cond, count_by, drop, encode}
use Rattle.pct_names.proofs.Names.{false, false≢true, inside, is_in_push, is_pop, is_push, length, List, map, nat_lt, nil_from_length}
use Rattle.pct_names.proofs.Names.{none_wrong, not, not-true, open_after as blocks_after, Operand, outside, refl, Role, role_of, slice_get}
use Rattle.pct_names.proofs.Names.{Some, Stmt, subst, suc, sum_by-cons, sym, syntax_of, take, true, without_first, zero, ◌||◌, ℕ, ◌∙◌, ◌∷◌}
use Rattle.pct_names.proofs.Names.{◌≡◌}
use Rattle.std.proofs.lemmas.Bool.{true≢false, ltb-false}
use Rattle.pct_model.specs.declared.role.Block.TheVariants as block
use Rattle.pct_model.specs.declared.statement.Stmt.TheVariants as statement
use Rattle.pct_model.specs.Jumps.{is_end}
use Rattle.pct_laws.specs.OpenPushes.{pushes_after, open_pushes}
use Rattle.pct_jumps.specs.JumpTable.{opens_block}
use Rattle.pct_jumps.proofs.NestedBodies.{begins_block}
use Rattle.pct_thread_invariants.proofs.pushes.AfterStatements.{pushes_after-cons, drop-at}

-- ---- open blocks, the innermost first

abbrev is_push_block : Block → Bool
is_push_block block.Push = true
is_push_block _ = false

abbrev has_blocks : List Block → Bool
has_blocks [] = false
has_blocks (b ∷ blocks) = true

-- the outermost block is no push
abbrev is_grounded : List Block → Bool
is_grounded [] = true
is_grounded (b ∷ blocks) = (not (is_push_block b) || has_blocks blocks) && is_grounded blocks

-- the number of push blocks
abbrev pushes_in : List Block → ℕ
pushes_in [] = 0
pushes_in (block.Push ∷ blocks) = suc (pushes_in blocks)
pushes_in (_ ∷ blocks) = pushes_in blocks

-- the pushes around block m; blocks are numbered from the innermost, 0, and push blocks have no number
abbrev pub around : List Block → ℕ → List ℕ → List ℕ
around [] m pushes = pushes
around (block.Push ∷ blocks) m pushes = around blocks m (without_first pushes)
around (_ ∷ blocks) zero pushes = pushes
around (_ ∷ blocks) (suc m) pushes = around blocks m pushes

around-same : (blocks : List Block) (pushes : List ℕ) (m n : ℕ) → n + 0 ≡ m + 0 → around blocks n pushes ≡ around blocks m pushes
around-same blocks pushes m n e = let same : n ≡ m = omega (arith, e) in ap (λ k. around blocks k pushes) same

around-suc : (b : Block) (blocks : List Block) (pushes : List ℕ) (m : ℕ) → is_push_block b ≡ false → around (b ∷ blocks) (suc m) pushes ≡ around blocks m pushes
around-suc block.Push blocks pushes m other = absurd (true≢false other)
around-suc _ blocks pushes m other = refl

-- inside one block more
around-inner : (b : Block) (blocks : List Block) (pushes : List ℕ) (m n : ℕ) → is_push_block b ≡ false → n + 0 ≡ m + 1 → around (b ∷ blocks) n pushes ≡ around blocks m pushes
around-inner b blocks pushes m n other e = let more : n ≡ suc m = omega (arith, e) in ap (λ k. around (b ∷ blocks) k pushes) more ∙ around-suc b blocks pushes m other

around-else : (blocks : List Block) (pushes : List ℕ) (m : ℕ) → around (block.Else ∷ blocks) m pushes ≡ around (block.If ∷ blocks) m pushes
around-else blocks pushes zero = refl
around-else blocks pushes (suc m) = refl

-- ---- one statement

-- the statements nest where these blocks and these pushes are open
pub record Fits (blocks : List Block) (pushes : List ℕ) (stmts : List Stmt) : Type 0 where
  pub nested : are_nested blocks (map role_of stmts) ≡ true
  grounded : is_grounded blocks ≡ true
  many : length pushes ≡ pushes_in blocks

-- the open blocks after a statement
pub record After (blocks : List Block) (pushes : List ℕ) (s : Stmt) (stmts : List Stmt) : Type 0 where
  pub left : List Block
  pub fits : Fits left (pushes_after (s ∷ []) pushes) stmts
  counted : length (pushes_after (s ∷ []) pushes) + cond (is_pop (role_of s)) 1 0 ≡ length pushes + cond (is_push (role_of s)) 1 0
  -- the pushes around a block that stays open are the same
  pub outer : (m n : ℕ) → n + cond (is_end s) 1 0 ≡ m + cond (begins_block s) 1 0 → around left n (pushes_after (s ∷ []) pushes) ≡ around blocks m pushes
  -- the pushes around a block that the statement opens
  pub opened : opens_block s ≡ true → around left 0 (pushes_after (s ∷ []) pushes) ≡ pushes

none_outside : (s : Stmt) (roles : List Role) → are_nested [] (role_of s ∷ roles) ≡ false
unfolding are_nested change_at outside encode syntax_of
none_outside (statement.If v) roles = refl
none_outside _ roles = refl

popped : (pushes : List ℕ) (n : ℕ) → length pushes ≡ suc n → length (without_first pushes) ≡ n
popped [] n many = absurd (omega (arith, many))
popped (f ∷ pushes) n many = omega (arith, many)

pub after : (s : Stmt) (blocks : List Block) (pushes : List ℕ) (stmts : List Stmt) → Fits blocks pushes (s ∷ stmts) → After blocks pushes s stmts
unfolding are_nested change_at inside blocks_after encode syntax_of
after s [] pushes stmts f = absurd (true≢false (sym f.nested ∙ none_outside s (map role_of stmts)))
after (statement.If v) (b ∷ blocks) pushes stmts f =
    record { left = block.If ∷ b ∷ blocks; fits = record { nested = f.nested; grounded = f.grounded; many = f.many }; counted = refl; outer = λ m n e. around-inner block.If (b ∷ blocks) pushes m n refl e; opened = λ is. refl }
after (statement.While v) (b ∷ blocks) pushes stmts f =
    record { left = block.While ∷ b ∷ blocks; fits = record { nested = f.nested; grounded = f.grounded; many = f.many }; counted = refl; outer = λ m n e. around-inner block.While (b ∷ blocks) pushes m n refl e; opened = λ is. refl }
after (statement.Push g v) (b ∷ blocks) pushes stmts f =
    record { left = block.Push ∷ b ∷ blocks; fits = record { nested = f.nested; grounded = f.grounded; many = ap suc f.many }; counted = omega arith; outer = λ m n e. around-same (b ∷ blocks) pushes m n e; opened = λ is. absurd (false≢true is) }
after statement.Else (block.If ∷ blocks) pushes stmts f =
    record { left = block.Else ∷ blocks; fits = record { nested = f.nested; grounded = f.grounded; many = f.many }; counted = refl; outer = λ m n e. around-else blocks pushes n ∙ around-same (block.If ∷ blocks) pushes m n e; opened = λ is. refl }
after statement.Else (_ ∷ blocks) pushes stmts f = absurd (false≢true f.nested)
after statement.End (block.Push ∷ blocks) pushes stmts f = absurd (false≢true f.nested)
after statement.End (b ∷ blocks) pushes stmts f =
    record { left = blocks; fits = record { nested = f.nested; grounded = f.grounded; many = f.many }; counted = refl; outer = λ m n e. sym (around-inner b blocks pushes n m refl (sym e)); opened = λ is. absurd (false≢true is) }
after (statement.Pop v) (block.Push ∷ blocks) pushes stmts f =
    let fewer = popped pushes (pushes_in blocks) f.many in
    let grounded = (and_parts (has_blocks blocks) (is_grounded blocks) f.grounded).1 in
    record { left = blocks; fits = record { nested = f.nested; grounded = grounded; many = fewer }; counted = omega (arith, fewer, f.many); outer = λ m n e. around-same blocks (without_first pushes) m n e; opened = λ is. absurd (false≢true is) }
after (statement.Pop v) (_ ∷ blocks) pushes stmts f = absurd (false≢true f.nested)
after s (b ∷ blocks) pushes stmts f =
    record { left = b ∷ blocks; fits = record { nested = f.nested; grounded = f.grounded; many = f.many }; counted = refl; outer = λ m n e. around-same (b ∷ blocks) pushes m n e; opened = λ is. absurd (false≢true is) }

-- ---- the statements from a pc on

-- the statements nest, and no `return` among them is between a push and its pop, where these pushes are open
pub record At (pushes : List ℕ) (stmts : List Stmt) : Type 0 where
  pub blocks : List Block
  pub fits : Fits blocks pushes stmts
  before : List Role
  returns : none_wrong is_in_push before (map role_of stmts) ≡ true
  counted : length pushes + count_by is_pop before ≡ count_by is_push before

at-next : (pushes : List ℕ) (s : Stmt) (stmts : List Stmt) → At pushes (s ∷ stmts) → At (pushes_after (s ∷ []) pushes) stmts
unfolding none_wrong
at-next pushes s stmts a =
    let t = after s a.blocks pushes stmts a.fits in
    record {
      blocks = t.left;
      fits = t.fits;
      before = role_of s ∷ a.before;
      returns = (and_parts (not (is_in_push a.before (role_of s))) (none_wrong is_in_push (role_of s ∷ a.before) (map role_of stmts)) a.returns).1;
      counted = omega (arith, t.counted, a.counted, sum_by-cons (λ r. cond (is_pop r) 1 0) (role_of s) a.before, sum_by-cons (λ r. cond (is_push r) 1 0) (role_of s) a.before);
    }

at-drop : (body : List Stmt) (pc : ℕ) (pushes : List ℕ) → At pushes body → At (pushes_after (take pc body) pushes) (drop pc body)
at-drop body zero pushes a = a
at-drop [] (suc pc) pushes a = a
at-drop (s ∷ body) (suc pc) pushes a = subst (λ open_there. At open_there (drop pc body)) (sym (pushes_after-cons s (take pc body) pushes)) (at-drop body pc (pushes_after (s ∷ []) pushes) (at-next pushes s body a))

-- a body that passes the checks of nesting and of returns
pub record Passes (body : List Stmt) : Type 0 where
  pub nested : are_nested (block.Function ∷ []) (map role_of body) ≡ true
  pub returns : none_wrong is_in_push [] (map role_of body) ≡ true

pub at-pc : (body : List Stmt) (pc : ℕ) (s : Stmt) → Passes body → slice_get body pc ≡ Some s → At (open_pushes body pc) (s ∷ drop (suc pc) body)
at-pc body pc s passes is =
    subst (At (open_pushes body pc)) (drop-at body pc s is)
    (at-drop body pc [] (record { blocks = block.Function ∷ []; fits = record { nested = passes.nested; grounded = refl; many = refl }; before = []; returns = passes.returns; counted = refl }))

-- ---- pops and returns

first : (pushes : List ℕ) (n : ℕ) → length pushes ≡ suc n → (f : ℕ) × (pushes ≡ f ∷ without_first pushes)
first [] n many = absurd (omega (arith, many))
first (f ∷ pushes) n many = (f, refl)

pop_in : (v : Operand) (blocks : List Block) (pushes : List ℕ) (stmts : List Stmt) → Fits blocks pushes (statement.Pop v ∷ stmts) → (f : ℕ) × (pushes ≡ f ∷ without_first pushes)
unfolding are_nested change_at inside outside encode syntax_of
pop_in v [] pushes stmts f = absurd (false≢true f.nested)
pop_in v (block.Push ∷ blocks) pushes stmts f = first pushes (pushes_in blocks) f.many
pop_in v (_ ∷ blocks) pushes stmts f = absurd (false≢true f.nested)

-- at a pop a push is open
pub at-pop : (v : Operand) (pushes : List ℕ) (stmts : List Stmt) → At pushes (statement.Pop v ∷ stmts) → (f : ℕ) × (pushes ≡ f ∷ without_first pushes)
at-pop v pushes stmts a = pop_in v a.blocks pushes stmts a.fits

-- at a `return` no push is open
pub at-return : (v : Operand) (pushes : List ℕ) (stmts : List Stmt) → At pushes (statement.Return v ∷ stmts) → pushes ≡ []
unfolding none_wrong encode syntax_of
at-return v pushes stmts a =
    let pops = count_by is_pop a.before in
    let all_pushes = count_by is_push a.before in
    let parts = and_parts (not (nat_lt pops all_pushes)) (none_wrong is_in_push (role_of (statement.Return v) ∷ a.before) (map role_of stmts)) a.returns in
    nil_from_length pushes (omega (arith, a.counted, ltb-false pops all_pushes (not-true (nat_lt pops all_pushes) parts.0)))

-- ---- the last statement

last_in : (blocks : List Block) (pushes : List ℕ) → Fits blocks pushes (statement.End ∷ []) → length pushes ≡ 0
unfolding are_nested change_at inside outside blocks_after encode syntax_of
last_in [] pushes f = absurd (false≢true f.nested)
last_in (block.Push ∷ blocks) pushes f = absurd (false≢true f.nested)
last_in (_ ∷ []) pushes f = f.many
last_in (_ ∷ _ ∷ blocks) pushes f = absurd (false≢true f.nested)

-- at the last `end` no push is open
pub at-last : (pushes : List ℕ) → At pushes (statement.End ∷ []) → pushes ≡ []
at-last pushes a = nil_from_length pushes (last_in a.blocks pushes a.fits)

ends_in : (s : Stmt) (blocks : List Block) (pushes : List ℕ) → Fits blocks pushes (s ∷ []) → is_end s ≡ true
unfolding are_nested change_at inside outside blocks_after encode syntax_of
ends_in s [] pushes f = absurd (true≢false (sym f.nested ∙ none_outside s []))
ends_in statement.End (b ∷ blocks) pushes f = refl
ends_in statement.Else (block.If ∷ blocks) pushes f = absurd (false≢true f.nested)
ends_in statement.Else (_ ∷ blocks) pushes f = absurd (false≢true f.nested)
ends_in (statement.Pop v) (block.Push ∷ []) pushes f = absurd (false≢true f.grounded)
ends_in (statement.Pop v) (block.Push ∷ _ ∷ blocks) pushes f = absurd (false≢true f.nested)
ends_in (statement.Pop v) (_ ∷ blocks) pushes f = absurd (false≢true f.nested)
ends_in s (b ∷ blocks) pushes f = absurd (false≢true f.nested)

-- the last statement is an `end`
pub at-ends : (s : Stmt) (pushes : List ℕ) → At pushes (s ∷ []) → is_end s ≡ true
at-ends s pushes a = ends_in s a.blocks pushes a.fits
