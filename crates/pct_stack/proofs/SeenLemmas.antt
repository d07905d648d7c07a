-- What is seen of a block before and after its rows are made.
use Rattle.std.proofs.Common.{◌≡◌, ℕ, zero, suc, ◌<◌, ◌≤◌, true, false, nat_eq, nat_lt, List, ◌∷◌, Option, Some, None, [], length, replicate, refl, sym, ap, subst, ◌∙◌, inl, inr, arith}
use Rattle.std.specs.Prelude.{is_some, IfSome, slice_get}
use Rattle.pct_stack.specs.declared.stack_block.TheConstants.{NO_SLOT}
use Rattle.std.proofs.lemmas.Bool.{cases_eq, cases_lt, both_ways, lt-ltb, eq-eqb, ne_eqb, cond-true, cond-false}
use Rattle.std.proofs.lemmas.List.{get_or-replicate, get_or_past, length-replicate}
use Rattle.pct_stack.specs.Rows.{Rows, word_at, with_row}
use Rattle.pct_stack.specs.Stacks.{Stacks, is_taken, is_free, all_free, with_words, with_given, with_taken, with_kept_alone}
use Rattle.pct_stack.specs.Links.{follow, stacks_of, stacks_seen, IsChain, AreEven, IsBlock, with_front, with_bypass, head_without}
use Rattle.pct_stack.proofs.WriteLemmas.{length-with_row}
use Rattle.pct_stack.proofs.ChainLemmas.{follow-none}
use Rattle.pct_stack.proofs.BlockLemmas.{kept_alone-full, taken_within, free_within, rewritten-stacks, given-length, given-stacks, length-past, taken-stacks}

-- no slot of a block that is free is taken
pub none_taken : (count width slot : ℕ) → is_taken (all_free count width) slot ≡ false
none_taken count width slot = elim (cases_lt slot count) [
  | inl inside ↦ ap is_some (get_or-replicate {A = Option (List ℕ)} count slot None None inside)
  | inr past ↦ ap is_some (get_or_past (replicate {A = Option (List ℕ)} count None) slot None (omega (arith, past, length-replicate {A = Option (List ℕ)} count None)))
]

module _ (grid : Rows) (head : ℕ) where
  -- there are rows
  pub seen_rows : 1 ≤ length grid.rows → stacks_seen grid head ≡ stacks_of grid head
  seen_rows some = cond-false (nat_eq (length grid.rows) 0) (all_free grid.room grid.width) (stacks_of grid head) (ne_eqb (length grid.rows) 0 (λ none. absurd (omega (arith, some, none))))

  -- there are none
  pub seen_blank : length grid.rows ≡ 0 → stacks_seen grid head ≡ all_free grid.room grid.width
  seen_blank none = cond-true (nat_eq (length grid.rows) 0) (all_free grid.room grid.width) (stacks_of grid head) (eq-eqb (length grid.rows) 0 none)

  pub seen_width : (stacks_seen grid head).width ≡ grid.width
  seen_width = elim (cases_eq (length grid.rows) 0) [
    | inl none ↦ ap (λ (t : Stacks). t.width) (seen_blank none)
    | inr some ↦ ap (λ (t : Stacks). t.width) (seen_rows (omega (arith, some)))
  ]

  pub some_taken : (slot : ℕ) → is_taken (stacks_seen grid head) slot ≡ true → 1 ≤ length grid.rows
  some_taken slot taken = elim (cases_eq (length grid.rows) 0) [
    | inl none ↦ absurd (both_ways (is_taken (all_free grid.room grid.width) slot) (none_taken grid.room grid.width slot) (ap (λ (t : Stacks). is_taken t slot) (sym (seen_blank none)) ∙ taken))
    | inr some ↦ omega (arith, some)
  ]

  -- where a slot is taken, there are rows
  pub written : (slot : ℕ) (seen : Stacks) → stacks_seen grid head ≡ seen → is_taken seen slot ≡ true → stacks_of grid head ≡ seen
  written slot seen is taken = sym (seen_rows (some_taken slot (ap (λ (t : Stacks). is_taken t slot) is ∙ taken))) ∙ is

module _ (grid : Rows) (head : ℕ) (block : IsBlock grid head) where
  -- after a change of a slot
  pub rewritten-seen : (slot : ℕ) (words : List ℕ) → is_taken (stacks_of grid head) slot ≡ true → length words ≡ grid.width
      → stacks_seen (with_row slot words grid) head ≡ with_words slot words (stacks_of grid head)
  rewritten-seen slot words taken long =
      seen_rows (with_row slot words grid) head (omega (arith, taken_within grid head block slot taken, length-with_row grid slot words))
      ∙ rewritten-stacks grid head block slot words taken long

  -- after a slot is given
  pub given-seen : (slot : ℕ) → is_taken (stacks_of grid head) slot ≡ true → stacks_seen (with_front head slot grid) slot ≡ with_given slot (stacks_of grid head)
  given-seen slot taken =
      seen_rows (with_front head slot grid) slot (omega (arith, taken_within grid head block slot taken, given-length grid head block slot taken))
      ∙ given-stacks grid head block slot taken

  -- after a slot is taken
  pub taken-seen : (slot : ℕ) (words : List ℕ) → is_free (stacks_of grid head) slot ≡ true → length words ≡ grid.width
      → stacks_seen (with_row slot words (with_bypass slot grid)) (head_without slot grid head) ≡ with_taken slot words (stacks_of grid head)
  taken-seen slot words is long =
      seen_rows (with_row slot words (with_bypass slot grid)) (head_without slot grid head)
      (omega (arith, free_within grid head block slot is, length-with_row (with_bypass slot grid) slot words, length-past grid head block slot is words long))
      ∙ taken-stacks grid head block slot is words long

-- a block without free slots
pub unlinked-block : (grid : Rows) → 1 ≤ grid.room → grid.room ≤ 64 → length grid.rows ≤ 64 → 2 ≤ grid.width → AreEven grid → IsBlock grid NO_SLOT
unlinked-block grid some few count width even =
    let past : length grid.rows ≤ NO_SLOT = omega (arith, count) in
    record {
      some = some;
      few = few;
      count = count;
      width = width;
      even = even;
      chain = subst (IsChain grid NO_SLOT) (sym (follow-none (length grid.rows) (λ s. word_at grid s 0) (λ s. word_at grid s 1) (length grid.rows) NO_SLOT past)) past;
    }

-- its rows are not made yet
pub blank-block : (grid : Rows) → length grid.rows ≡ 0 → 1 ≤ grid.room → grid.room ≤ 64 → 2 ≤ grid.width → IsBlock grid NO_SLOT
blank-block grid none some few width = unlinked-block grid some few (omega (arith, none)) width (λ row inside. absurd (omega (arith, inside, none)))

-- its rows are made
pub filled-block : (room width : ℕ) → 1 ≤ room → room ≤ 64 → 2 ≤ width → IsBlock (record { room = room; width = width; rows = replicate room (replicate width 0) }) NO_SLOT
filled-block room width some few wide =
    let count : length (replicate {A = List ℕ} room (replicate width 0)) ≡ room = length-replicate {A = List ℕ} room (replicate width 0) in
    unlinked-block (record { room = room; width = width; rows = replicate room (replicate width 0) }) some few (omega (arith, count, few)) wide
    (λ row inside. ap length (get_or-replicate room row (replicate width 0) [] (omega (arith, inside, count))) ∙ length-replicate {A = ℕ} width 0)

-- a block whose slots are all free, but one to keep
pub reset-seen : (old grid : Rows) (head head' : ℕ) → IsBlock old head → (keep : Option ℕ) → IfSome keep (λ slot. is_taken (stacks_seen old head) slot ≡ true)
    → length grid.rows ≡ length old.rows → grid.room ≡ old.room → grid.width ≡ old.width
    → stacks_of grid head' ≡ with_kept_alone keep (stacks_of old NO_SLOT) → stacks_seen grid head' ≡ with_kept_alone keep (stacks_seen old head)
reset-seen old grid head head' block keep kept rows room width given = elim (cases_eq (length old.rows) 0) [
  | inr some ↦
      let is : stacks_seen old head ≡ stacks_of old head = seen_rows old head (omega (arith, some)) in
      seen_rows grid head' (omega (arith, rows, some)) ∙ given
      ∙ kept_alone-full old head block keep NO_SLOT (omega (arith, block.count)) (subst (λ (t : Stacks). IfSome keep (λ slot. is_taken t slot ≡ true)) is kept)
      ∙ ap (with_kept_alone keep) (sym is)
  | inl none ↦
      seen_blank grid head' (omega (arith, rows, none)) ∙ (λ j. all_free (room j) (width j))
      ∙ blank keep (subst (λ (t : Stacks). IfSome keep (λ slot. is_taken t slot ≡ true)) (seen_blank old head none) kept)
      ∙ ap (with_kept_alone keep) (sym (seen_blank old head none))
]
  where
    blank : (k : Option ℕ) → IfSome k (λ slot. is_taken (all_free old.room old.width) slot ≡ true) → all_free old.room old.width ≡ with_kept_alone k (all_free old.room old.width)
    blank None _ = ap (λ n. all_free n old.width) (sym (length-replicate {A = Option (List ℕ)} old.room None))
    blank (Some slot) taken = absurd (both_ways (is_taken (all_free old.room old.width) slot) (none_taken old.room old.width slot) taken)

-- a slot to keep that is taken is one of the rows
pub kept_within : (grid : Rows) (head : ℕ) → IsBlock grid head → (keep : Option ℕ) → IfSome keep (λ slot. is_taken (stacks_seen grid head) slot ≡ true) → IfSome keep (λ slot. slot < length grid.rows)
kept_within grid head block None _ = tt
kept_within grid head block (Some slot) taken = taken_within grid head block slot (ap (λ (t : Stacks). is_taken t slot) (written grid head slot (stacks_seen grid head) refl taken) ∙ taken)

-- the first slot that the links lead to
pub follow-first : (count : ℕ) (next before : ℕ → ℕ) (fuel slot : ℕ) → slot < count → 1 ≤ fuel → slice_get (follow count next before fuel slot) 0 ≡ Some slot
follow-first count next before zero slot inside some = absurd (omega arith)
follow-first count next before (suc fuel) slot inside some =
    ap (λ (l : List ℕ). slice_get l 0) (cond-true (nat_lt slot count) (slot ∷ follow count next before fuel (next slot)) [] (lt-ltb slot count inside))
