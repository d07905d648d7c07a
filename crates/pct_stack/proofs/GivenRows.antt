-- Rows whose slots are given from the last one down, but one to keep.
use Rattle.std.proofs.Common.{◌≡◌, ℕ, ◌+◌, ◌<◌, false, true, length, refl, sym, ap, ◌∙◌, subst, arith, Option}
use Rattle.std.specs.Prelude.{is_some, IfSome}
use Rattle.pct_stack.specs.declared.stack_block.TheConstants.{NO_SLOT}
use Rattle.pct_stack.specs.Rows.{Rows}
use Rattle.pct_stack.specs.Stacks.{Stacks, is_taken, with_kept_alone}
use Rattle.pct_stack.specs.Links.{free_of, stacks_of, IsBlock, with_front}
use Rattle.pct_stack.proofs.BlockLemmas.{length-slots_of, none_in, full_taken, given-block, given-length, given-stacks}
use Rattle.pct_stack.proofs.GiveLemmas.{AreGiven, is_kept, given-none, given-next, given-kept, given-all}

-- the slots from `i` on are given
pub record RowsGiven (keep : Option ℕ) (i : ℕ) (old grid : Rows) (head : ℕ) : Type 0 where
  pub block : IsBlock grid head
  pub rows : length grid.rows ≡ length old.rows
  pub room : grid.room ≡ old.room
  pub width : grid.width ≡ old.width
  pub given : AreGiven keep i (stacks_of old NO_SLOT) (stacks_of grid head)

module _ (keep : Option ℕ) (old : Rows) (block : IsBlock old NO_SLOT) (within : IfSome keep (λ slot. slot < length old.rows)) where
  abbrev full : Stacks
  full = stacks_of old NO_SLOT

  past : length old.rows < NO_SLOT
  past = omega (arith, block.count)

  kept_within : IfSome keep (λ slot. slot < length full.slots)
  kept_within = subst (λ (n : ℕ). IfSome keep (λ slot. slot < n)) (sym (length-slots_of old (free_of old NO_SLOT))) within

  all_taken : (slot : ℕ) → slot < length full.slots → is_taken full slot ≡ true
  all_taken = full_taken old NO_SLOT (omega (arith, past))

  pub given-first : (i : ℕ) → i ≡ length old.rows → RowsGiven keep i old old NO_SLOT
  given-first i all = record {
    block = block;
    rows = refl;
    room = refl;
    width = refl;
    given = given-none keep full kept_within i (omega (arith, all, length-slots_of old (free_of old NO_SLOT))) (none_in old NO_SLOT (omega (arith, past)));
  }

  module _ (i slot : ℕ) (grid : Rows) (head : ℕ) (so_far : RowsGiven keep i old grid head) (next : i ≡ slot + 1) (inside : slot < length old.rows) where
    inside_full : slot < length full.slots
    inside_full = omega (arith, inside, length-slots_of old (free_of old NO_SLOT))

    taken : is_taken (stacks_of grid head) slot ≡ true
    taken = ap is_some (so_far.given.below slot (omega (arith, next))) ∙ all_taken slot inside_full

    -- one more slot is given
    pub given-linked : is_kept keep slot ≡ false → RowsGiven keep slot old (with_front head slot grid) slot
    given-linked other = record {
      block = given-block grid head so_far.block slot taken;
      rows = given-length grid head so_far.block slot taken ∙ so_far.rows;
      room = so_far.room;
      width = so_far.width;
      given =
          subst (AreGiven keep slot full) (sym (given-stacks grid head so_far.block slot taken))
          (given-next keep full kept_within i slot (stacks_of grid head) so_far.given next inside_full other);
    }

    -- the slot is kept
    pub given-skipped : is_kept keep slot ≡ true → RowsGiven keep slot old grid head
    given-skipped same = record {
      block = so_far.block;
      rows = so_far.rows;
      room = so_far.room;
      width = so_far.width;
      given = given-kept keep full kept_within i slot (stacks_of grid head) so_far.given next inside_full same;
    }

  -- all slots are given
  pub given-done : (grid : Rows) (head : ℕ) → RowsGiven keep 0 old grid head → stacks_of grid head ≡ with_kept_alone keep full
  given-done grid head all = given-all keep full kept_within (stacks_of grid head) all.given all_taken
