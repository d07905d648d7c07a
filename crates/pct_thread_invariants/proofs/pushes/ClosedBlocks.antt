-- Where a block closes, the pushes that are open are those that were open where it opened. The statement that closes a block is found by
-- counting, in the statements after the one that opens it.
use Rattle.pct_names.proofs.Names.{◌&&◌, ◌+◌, ◌-◌, ◌<◌, [], and_from, and_parts, ap, are_nested, arith, Block, Bool, change_at, close_of}
use Rattle.pct_names.proofs.Names.{closes, closes_else, closing, cond, count_by, drop, encode, ends, fails_before_first, false, false≢true}
use Rattle.pct_names.proofs.Names.{find, first_later, get_or-range_with_len, get_or_from_slice_get, holds, inl, inr, inside, is_else, is_if}
use Rattle.pct_names.proofs.Names.{length, length-drop, length-range_with_len, List, map, nat_eq, None, Option, option_map_or, or_cases}
use Rattle.pct_names.proofs.Names.{or_left, or_right, position_or_len, range_with_len, refl, role_of, slice_get, slice_get_within}
use Rattle.pct_names.proofs.Names.{slice_range, Some, Stmt, subst, suc, sym, syntax_of, take, true, zero, ◌||◌, ℕ, ◌∙◌, ◌∷◌, ◌≡◌, ◌≢◌, ◌≤◌}
use Rattle.pct_names.proofs.Names.{◌⊎◌}
use Rattle.std.proofs.lemmas.Bool.{true≢false, eqb-true, eq-eqb}
use Rattle.pct_model.specs.declared.role.Block.TheVariants as block
use Rattle.pct_model.specs.declared.statement.Stmt.TheVariants as statement
use Rattle.pct_model.specs.Jumps.{is_end, begins}
use Rattle.pct_laws.specs.OpenPushes.{pushes_after, open_pushes}
use Rattle.pct_jumps.proofs.NestedBodies.{begins_block, count-cons, get-drop}
use Rattle.pct_jumps.specs.JumpTable.{opens_block}
use Rattle.pct_thread_invariants.proofs.pushes.AfterStatements.{pushes_after-cons, open_pushes-add, open_pushes-next, drop-at}
use Rattle.pct_thread_invariants.proofs.pushes.PushBlocks.{around, Fits, after, Passes, at-pc}
use Rattle.pct_thread_invariants.proofs.lift.KeyedLists.{found_at, found_passes}

-- ---- where a block closes

-- the number of `if` and `while`, and of `end`, among the first k statements
abbrev begun : ℕ → List Stmt → ℕ
begun k stmts = count_by begins_block (take k stmts)

abbrev ended : ℕ → List Stmt → ℕ
ended k stmts = count_by is_end (take k stmts)

-- statement k closes block m, counted from the innermost, 0
abbrev Here : ℕ → ℕ → List Stmt → Type 0
Here m k stmts = (ended (suc k) stmts ≡ suc (m + begun (suc k) stmts)) ⊎ ((holds stmts is_else k ≡ true) × (ended (suc k) stmts ≡ m + begun (suc k) stmts))

-- statement k is the first that closes block m
pub record Closes (m k : ℕ) (stmts : List Stmt) : Type 0 where
  pub within : k < length stmts
  earlier : (j : ℕ) → j < k → holds stmts is_end j ≡ true → ended (suc j) stmts ≢ suc (m + begun (suc j) stmts)
  here : Here m k stmts

-- a test is counted
counted-by : (b is : Bool) → b ≡ is → ◌≡◌ {A = ℕ} (cond b 1 0) (cond is 1 0)
counted-by b is e = ap (λ (x : Bool). cond x 1 0) e

one_more : (b : Bool) (n : ℕ) → cond b 1 0 ≡ suc n → (b ≡ true) × (n ≡ 0)
one_more true n e = (refl, omega (arith, e))
one_more false n e = absurd (omega (arith, e))

no_end : (s : Stmt) → is_else s ≡ true → is_end s ≡ false
no_end statement.End is = absurd (false≢true is)
no_end _ is = refl

here_first : (s : Stmt) (m : ℕ) (stmts : List Stmt) → Here m 0 (s ∷ stmts) → (m ≡ 0) × ((is_end s || is_else s) ≡ true)
here_first s m stmts (inl e) =
    let more = one_more (is_end s) (m + cond (begins_block s) 1 0) (omega (arith, e, count-cons is_end s [], count-cons begins_block s [])) in
    let none = more.1 in
    (omega (arith, none), or_left (is_end s) (is_else s) more.0)
here_first s m stmts (inr is) =
    let none = counted-by (is_end s) false (no_end s is.0) in
    let e = is.1 in
    (omega (arith, e, none, count-cons is_end s [], count-cons begins_block s []), or_right (is_end s) (is_else s) is.0)

-- the first statement closes the innermost block
pub closes_first : (s : Stmt) (m : ℕ) (stmts : List Stmt) → Closes m 0 (s ∷ stmts) → (m ≡ 0) × ((is_end s || is_else s) ≡ true)
closes_first s m stmts c = here_first s m stmts c.here

here_later : (s : Stmt) (m n k : ℕ) (stmts : List Stmt) → n + cond (is_end s) 1 0 ≡ m + cond (begins_block s) 1 0 → Here m (suc k) (s ∷ stmts) → Here n k stmts
here_later s m n k stmts e (inl is) = inl (omega (arith, is, e, count-cons is_end s (take (suc k) stmts), count-cons begins_block s (take (suc k) stmts)))
here_later s m n k stmts e (inr is) = let count = is.1 in inr (is.0, omega (arith, count, e, count-cons is_end s (take (suc k) stmts), count-cons begins_block s (take (suc k) stmts)))

-- block m is block n after the first statement
pub closes_later : (s : Stmt) (m n k : ℕ) (stmts : List Stmt) → n + cond (is_end s) 1 0 ≡ m + cond (begins_block s) 1 0 → Closes m (suc k) (s ∷ stmts) → Closes n k stmts
closes_later s m n k stmts e c = record {
  within = omega (arith, c.within);
  earlier = λ j below is same. c.earlier (suc j) (omega (arith, below)) is (omega (arith, same, e, count-cons is_end s (take (suc j) stmts), count-cons begins_block s (take (suc j) stmts)));
  here = here_later s m n k stmts e c.here;
}

stays_by : (b : Bool) (n : ℕ) → (b ≡ true → n ≢ 0) → cond b 1 0 ≤ n
stays_by true zero other = absurd (other refl refl)
stays_by true (suc n) other = omega arith
stays_by false n other = omega arith

-- the first statement doesn't close a block that a later one closes
pub stays : (s : Stmt) (m k : ℕ) (stmts : List Stmt) → Closes m (suc k) (s ∷ stmts) → cond (is_end s) 1 0 ≤ m + cond (begins_block s) 1 0
stays s m k stmts c = stays_by (is_end s) (m + cond (begins_block s) 1 0) (λ is none. c.earlier 0 (omega arith) is (omega (arith, none, counted-by (is_end s) true is, count-cons is_end s [], count-cons begins_block s [])))

-- ---- the first number that passes a test

-- c is the first of the n numbers from a on that passes
record FirstThat (test : ℕ → Bool) (a n c : ℕ) : Type 0 where
  low : a ≤ c
  high : c < a + n
  passes : test c ≡ true
  fails : (j : ℕ) → a ≤ j → j < c → test j ≡ false

first_that : (test : ℕ → Bool) (a n c : ℕ) → find test (range_with_len a n) ≡ Some c → FirstThat test a n c
first_that test a n c is =
    let xs : List ℕ = range_with_len a n in
    let k : ℕ = position_or_len test xs in
    let at : slice_get xs k ≡ Some c = found_at test xs c is in
    let within : k < length xs = slice_get_within xs k c at in
    let below : k < n = omega (arith, within, length-range_with_len a n) in
    let item : c ≡ a + k = sym (get_or_from_slice_get xs k c 0 at) ∙ get_or-range_with_len a n k 0 below in
    record {
      low = omega (arith, item);
      high = omega (arith, item, below);
      passes = found_passes test xs c is;
      fails = λ j low before.
          let number : a + (j - a) ≡ j = omega (arith, low) in
          sym (ap test (get_or-range_with_len a n (j - a) 0 (omega (arith, low, before, item, below)) ∙ number)) ∙ fails_before_first test xs (j - a) 0 (omega (arith, low, before, item));
    }

-- ---- the statement that closes what statement pc opens

module _ (body : List Stmt) (pc : ℕ) where
  -- a test passes first at statement pc + 1 + k
  abbrev FirstAt : (ℕ → Bool) → ℕ → Type 0
  FirstAt test k = FirstThat test (suc pc) (length body - suc pc) (suc pc + k)

  within_rest : (test : ℕ → Bool) (k : ℕ) → FirstAt test k → k < length (drop (suc pc) body)
  within_rest test k found = omega (arith, found.high, length-drop (suc pc) body)

  count-after : (p : Stmt → Bool) (k : ℕ) → count_by p (slice_range body (suc pc) (suc (suc pc + k))) ≡ count_by p (take (suc k) (drop (suc pc) body))
  count-after p k = let long : suc (suc pc + k) - suc pc ≡ suc k = omega arith in ap (λ n. count_by p (take n (drop (suc pc) body))) long

  else_closes : (k : ℕ) → FirstAt (closes_else body pc) k → Closes 0 k (drop (suc pc) body)
  else_closes k found = record {
    within = within_rest (closes_else body pc) k found;
    earlier = λ j below end same. true≢false
        (sym (eq-eqb (ends body (suc pc) (suc pc + j)) (begins body (suc pc) (suc pc + j) + 1) (omega (arith, same, count-after begins_block j, count-after is_end j)))
        ∙ found.fails (suc pc + j) (omega arith) (omega (arith, below)));
    here = let same = eqb-true (ends body (suc pc) (suc pc + k)) (begins body (suc pc) (suc pc + k) + 1) found.passes in inl (omega (arith, same, count-after begins_block k, count-after is_end k));
  }

  -- the two ways in which a statement closes an `if` or a `while`
  abbrev ends_at : ℕ → Bool
  ends_at j = holds body is_end j && nat_eq (ends body pc j) (begins body pc j)

  abbrev turns_at : ℕ → Bool
  turns_at j = holds body is_if pc && holds body is_else j && nat_eq (ends body pc j + 1) (begins body pc j)

  holds-after : (test : Stmt → Bool) (k : ℕ) → holds (drop (suc pc) body) test k ≡ holds body test (suc pc + k)
  holds-after test k = ap (λ o. option_map_or test o false) (get-drop body (suc pc) k)

  module _ (s : Stmt) (is : slice_get body pc ≡ Some s) where
    count-from : (p : Stmt → Bool) (k : ℕ) → count_by p (slice_range body pc (suc (suc pc + k))) ≡ cond (p s) 1 0 + count_by p (take (suc k) (drop (suc pc) body))
    count-from p k =
        let long : suc (suc pc + k) - pc ≡ suc (suc k) = omega arith in
        ap (λ n. count_by p (take n (drop pc body))) long
        ∙ ap (λ stmts. count_by p (take (suc (suc k)) stmts)) (drop-at body pc s is)
        ∙ count-cons p s (take (suc k) (drop (suc pc) body))

    module _ (one : begins_block s ≡ true) (none : is_end s ≡ false) where
      begins-are : (k : ℕ) → begins body pc (suc pc + k) ≡ suc (begun (suc k) (drop (suc pc) body))
      begins-are k = omega (arith, counted-by (begins_block s) true one, count-from begins_block k)

      ends-are : (k : ℕ) → ends body pc (suc pc + k) ≡ ended (suc k) (drop (suc pc) body)
      ends-are k = omega (arith, counted-by (is_end s) false none, count-from is_end k)

      block_here : (k : ℕ) → (ends_at (suc pc + k) ≡ true) ⊎ (turns_at (suc pc + k) ≡ true) → Here 0 k (drop (suc pc) body)
      block_here k (inl ends_it) =
          let same = eqb-true (ends body pc (suc pc + k)) (begins body pc (suc pc + k)) (and_parts (holds body is_end (suc pc + k)) (nat_eq (ends body pc (suc pc + k)) (begins body pc (suc pc + k))) ends_it).1 in
          inl (omega (arith, same, begins-are k, ends-are k))
      block_here k (inr turns_it) =
          let parts = and_parts (holds body is_if pc && holds body is_else (suc pc + k)) (nat_eq (ends body pc (suc pc + k) + 1) (begins body pc (suc pc + k))) turns_it in
          let same = eqb-true (ends body pc (suc pc + k) + 1) (begins body pc (suc pc + k)) parts.1 in
          inr (holds-after is_else k ∙ (and_parts (holds body is_if pc) (holds body is_else (suc pc + k)) parts.0).1, omega (arith, same, begins-are k, ends-are k))

      block_closes : (k : ℕ) → FirstAt (closes body pc) k → Closes 0 k (drop (suc pc) body)
      block_closes k found = record {
        within = within_rest (closes body pc) k found;
        earlier = λ j below end same.
            let count = eq-eqb (ends body pc (suc pc + j)) (begins body pc (suc pc + j)) (omega (arith, same, begins-are j, ends-are j)) in
            let ends_it = and_from (holds body is_end (suc pc + j)) (nat_eq (ends body pc (suc pc + j)) (begins body pc (suc pc + j))) (sym (holds-after is_end j) ∙ end) count in
            true≢false (sym (or_left (ends_at (suc pc + j)) (turns_at (suc pc + j)) ends_it) ∙ found.fails (suc pc + j) (omega arith) (omega (arith, below)));
        here = block_here k (or_cases (ends_at (suc pc + k)) (turns_at (suc pc + k)) found.passes);
      }

-- statement c, which is statement k after statement pc, closes what statement pc opens
pub record ClosedBy (body : List Stmt) (pc c : ℕ) : Type 0 where
  pub s : Stmt
  pub is : slice_get body pc ≡ Some s
  pub opens : opens_block s ≡ true
  pub k : ℕ
  pub at : c ≡ suc pc + k
  pub closes : Closes 0 k (drop (suc pc) body)

closed_by : (body : List Stmt) (pc c : ℕ) (s : Stmt) (test : ℕ → Bool) → slice_get body pc ≡ Some s → opens_block s ≡ true → ((k : ℕ) → FirstAt body pc test k → Closes 0 k (drop (suc pc) body)) → first_later body test pc ≡ Some c → ClosedBy body pc c
closed_by body pc c s test is opens closes close =
    let found = first_that test (suc pc) (length body - suc pc) c close in
    let k = c - suc pc in
    let at : c ≡ suc pc + k = omega (arith, found.low) in
    record { s = s; is = is; opens = opens; k = k; at = at; closes = closes k (subst (FirstThat test (suc pc) (length body - suc pc)) at found) }

closed_at : (body : List Stmt) (pc c : ℕ) (s : Stmt) → slice_get body pc ≡ Some s → closing body pc s ≡ Some c → ClosedBy body pc c
closed_at body pc c (statement.If v) is close = closed_by body pc c (statement.If v) (closes body pc) is refl (block_closes body pc (statement.If v) is refl refl) close
closed_at body pc c (statement.While v) is close = closed_by body pc c (statement.While v) (closes body pc) is refl (block_closes body pc (statement.While v) is refl refl) close
closed_at body pc c statement.Else is close = closed_by body pc c statement.Else (closes_else body pc) is refl (else_closes body pc) close
closed_at body pc c _ is close = absurd cc

closed_if : (body : List Stmt) (pc c : ℕ) (o : Option Stmt) → slice_get body pc ≡ o → option_map_or (closing body pc) o None ≡ Some c → ClosedBy body pc c
closed_if body pc c None is close = absurd cc
closed_if body pc c (Some s) is close = closed_at body pc c s is close

pub closed : (body : List Stmt) (pc c : ℕ) → close_of body pc ≡ Some c → ClosedBy body pc c
unfolding close_of
closed body pc c close = closed_if body pc c (slice_get body pc) refl close

-- ---- the pushes where a block closes

-- before and after statement k, the pushes are those around block m
abbrev Same : List Block → List ℕ → ℕ → ℕ → List Stmt → Type 0
Same blocks pushes m k stmts = (pushes_after (take k stmts) pushes ≡ around blocks m pushes) × (pushes_after (take (suc k) stmts) pushes ≡ around blocks m pushes)

unchanged : (s : Stmt) (pushes : List ℕ) → (is_end s || is_else s) ≡ true → pushes_after (s ∷ []) pushes ≡ pushes
unchanged statement.End pushes is = refl
unchanged statement.Else pushes is = refl
unchanged _ pushes is = absurd (false≢true is)

-- no push is open inside the block that an `end` or an `else` closes
innermost : (s : Stmt) (blocks : List Block) (pushes : List ℕ) (stmts : List Stmt) → are_nested blocks (map role_of (s ∷ stmts)) ≡ true → (is_end s || is_else s) ≡ true → pushes ≡ around blocks 0 pushes
unfolding are_nested change_at inside encode syntax_of
innermost s [] pushes stmts nested is = refl
innermost statement.End (block.Push ∷ blocks) pushes stmts nested is = absurd (false≢true nested)
innermost statement.End (_ ∷ blocks) pushes stmts nested is = refl
innermost statement.Else (block.Push ∷ blocks) pushes stmts nested is = absurd (false≢true nested)
innermost statement.Else (_ ∷ blocks) pushes stmts nested is = refl
innermost _ (b ∷ blocks) pushes stmts nested is = absurd (false≢true is)

same_at_close : (stmts : List Stmt) (blocks : List Block) (pushes : List ℕ) (m k : ℕ) → Fits blocks pushes stmts → Closes m k stmts → Same blocks pushes m k stmts
same_at_close [] blocks pushes m k f c = absurd (omega (arith, c.within))
same_at_close (s ∷ stmts) blocks pushes m zero f c =
    let first = closes_first s m stmts c in
    let same = innermost s blocks pushes stmts f.nested first.1 ∙ ap (λ n. around blocks n pushes) (sym first.0) in
    (same, unchanged s pushes first.1 ∙ same)
same_at_close (s ∷ stmts) blocks pushes m (suc k) f c =
    let t = after s blocks pushes stmts f in
    let n = m + cond (begins_block s) 1 0 - cond (is_end s) 1 0 in
    let e : n + cond (is_end s) 1 0 ≡ m + cond (begins_block s) 1 0 = omega (arith, stays s m k stmts c) in
    let rest = same_at_close stmts t.left (pushes_after (s ∷ []) pushes) n k t.fits (closes_later s m n k stmts e c) in
    (pushes_after-cons s (take k stmts) pushes ∙ rest.0 ∙ t.outer m n e, pushes_after-cons s (take (suc k) stmts) pushes ∙ rest.1 ∙ t.outer m n e)

same_by : (body : List Stmt) (pc c : ℕ) → Passes body → ClosedBy body pc c → (open_pushes body c ≡ open_pushes body pc) × (open_pushes body (suc c) ≡ open_pushes body pc)
same_by body pc c passes b =
    let rest = drop (suc pc) body in
    let pushes = open_pushes body pc in
    let t = let a = at-pc body pc b.s passes b.is in after b.s a.blocks pushes rest a.fits in
    let same = same_at_close rest t.left (pushes_after (b.s ∷ []) pushes) 0 b.k t.fits b.closes in
    let later : suc c ≡ suc pc + suc b.k = omega (arith, b.at) in
    let start = open_pushes-next body pc b.s b.is in (
      ap (open_pushes body) b.at ∙ open_pushes-add body (suc pc) b.k ∙ ap (pushes_after (take b.k rest)) start ∙ same.0 ∙ t.opened b.opens,
      ap (open_pushes body) later ∙ open_pushes-add body (suc pc) (suc b.k) ∙ ap (pushes_after (take (suc b.k) rest)) start ∙ same.1 ∙ t.opened b.opens,
    )

-- before and after the statement that closes a block, the pushes are those before the statement that opens it
pub same_around : (body : List Stmt) (pc c : ℕ) → Passes body → close_of body pc ≡ Some c → (open_pushes body c ≡ open_pushes body pc) × (open_pushes body (suc c) ≡ open_pushes body pc)
same_around body pc c passes close = same_by body pc c passes (closed body pc c close)
