-- What a block is seen as, before and after a change of its rows.
use Rattle.std.proofs.Common.{◌≡◌, ℕ, ◌<◌, ◌≤◌, ◌≢◌, true, false, cond, not, nat_eq, nat_lt, List, [], ◌∷◌, length, get_or, set, refl, sym, ap, ◌∙◌, subst, inl, inr, arith, Option, Some, None}
use Rattle.std.specs.Prelude.{is_some, IfSome}
use Rattle.std.specs.Option.{unwrap_or}
use Rattle.std.proofs.lemmas.Bool.{cases_eq, cases_lt, cases_Bool, both_ways, ltb-true, lt-ltb, and_parts, and_from, not-true, not_from_false, cond-true, cond-false}
use Rattle.std.proofs.lemmas.List.{length-set, get_or-set_same, get_or-set_other, get_or_past, same_lists}
use Rattle.std.proofs.lemmas.List.FromFn.{length-map-range_with_len, get_or-map-range_with_len}
use Rattle.pct_stack.specs.declared.stack_block.TheConstants.{NO_SLOT}
use Rattle.pct_stack.specs.Rows.{Rows, row_at, word_at, with_row, with_word}
use Rattle.pct_stack.specs.Stacks.{Stacks, slot_at, is_taken, is_free, words_at, without, all_free, with_taken, with_given, with_words, with_kept_alone}
use Rattle.pct_stack.specs.Links.{is_in, AreLinked, free_of, slots_of, stacks_of, IsChain, AreEven, IsBlock, with_front, with_bypass, head_without}
use Rattle.pct_stack.proofs.WriteLemmas.{row_at-with_same, row_at-with_other, length-with_row, even-with_row, even-with_word, word_at-same, word_at-other_row, word_at-other}
use Rattle.pct_stack.proofs.ChainLemmas.{apart, is_in-head, is_in-rest, is_in-without, is_in-without_it, linked-below, follow-linked, follow-none, after, ahead, linked-frame, linked-front, linked-past, head-past}

-- ---- what a block is seen as

-- what a slot is seen as
abbrev pub seen_at : Rows → List ℕ → ℕ → Option (List ℕ)
seen_at grid free s = cond (is_in free s) None (Some (row_at grid s))

pub slots_of-at : (grid : Rows) (free : List ℕ) (s : ℕ) (d : Option (List ℕ)) → s < length grid.rows → get_or (slots_of grid free) s d ≡ seen_at grid free s
slots_of-at grid free s d inside = get_or-map-range_with_len (seen_at grid free) 0 (length grid.rows) s s d inside (omega arith)

pub length-slots_of : (grid : Rows) (free : List ℕ) → length (slots_of grid free) ≡ length grid.rows
length-slots_of grid free = length-map-range_with_len (seen_at grid free) 0 (length grid.rows)

-- one slot changes
pub slots_of-change : (grid grid' : Rows) (free free' : List ℕ) (slot : ℕ) (here : Option (List ℕ)) → length grid'.rows ≡ length grid.rows
    → seen_at grid' free' slot ≡ here
    → ((s : ℕ) → s < length grid.rows → s ≢ slot → seen_at grid' free' s ≡ seen_at grid free s)
    → slots_of grid' free' ≡ set (slots_of grid free) slot here
slots_of-change grid grid' free free' slot here same is others =
    let new : length (slots_of grid' free') ≡ length grid'.rows = length-slots_of grid' free' in
    let old : length (slots_of grid free) ≡ length grid.rows = length-slots_of grid free in
    same_lists (slots_of grid' free') (set (slots_of grid free) slot here) (new ∙ same ∙ sym old ∙ sym (length-set (slots_of grid free) slot here)) (λ s d within.
    let inside : s < length grid.rows = omega (arith, within, new, same) in
    slots_of-at grid' free' s d (omega (arith, inside, same)) ∙ elim (cases_eq s slot) [
      | inl at ↦ ap (seen_at grid' free') at ∙ is ∙ sym (ap (λ k. get_or (set (slots_of grid free) slot here) k d) at ∙ get_or-set_same (slots_of grid free) slot here d (omega (arith, inside, at, old)))
      | inr other ↦ others s inside other ∙ sym (get_or-set_other (slots_of grid free) slot s here d other ∙ slots_of-at grid free s d inside)
    ])

-- ---- a block with no free slot

module _ (grid : Rows) (head : ℕ) (past : length grid.rows ≤ head) where
  pub none_in : free_of grid head ≡ []
  none_in = follow-none (length grid.rows) (λ s. word_at grid s 0) (λ s. word_at grid s 1) (length grid.rows) head past

  pub full_at : (slot : ℕ) → slot < length grid.rows → slot_at (stacks_of grid head) slot ≡ Some (row_at grid slot)
  full_at slot inside = slots_of-at grid (free_of grid head) slot None inside ∙ ap (λ xs. seen_at grid xs slot) none_in

  pub full_taken : (slot : ℕ) → slot < length (slots_of grid (free_of grid head)) → is_taken (stacks_of grid head) slot ≡ true
  full_taken slot within = ap is_some (full_at slot (omega (arith, within, length-slots_of grid (free_of grid head))))

-- ---- a block

module _ (grid : Rows) (head : ℕ) (block : IsBlock grid head) where
  abbrev free : List ℕ
  free = free_of grid head

  abbrev seen : Stacks
  seen = stacks_of grid head

  abbrev n : ℕ
  n = length grid.rows

  abbrev next : ℕ → ℕ
  next s = word_at grid s 0

  abbrev before : ℕ → ℕ
  before s = word_at grid s 1

  pub taken_within : (slot : ℕ) → is_taken seen slot ≡ true → slot < n
  taken_within slot taken = elim (cases_lt slot n) [
    | inl inside ↦ inside
    | inr past ↦ absurd (both_ways (is_taken seen slot) (ap is_some (get_or_past seen.slots slot None (omega (arith, past, length-slots_of grid free)))) taken)
  ]

  pub taken_lacks : (slot : ℕ) → is_taken seen slot ≡ true → is_in free slot ≡ false
  taken_lacks slot taken = elim (cases_Bool (is_in free slot)) [
    | inl has ↦ absurd (both_ways (is_taken seen slot) (ap is_some (slots_of-at grid free slot None (taken_within slot taken) ∙ cond-true (is_in free slot) None (Some (row_at grid slot)) has)) taken)
    | inr lacks ↦ lacks
  ]

  -- a slot that is not free is seen as its words
  pub slot_lacking : (slot : ℕ) → slot < n → is_in free slot ≡ false → slot_at seen slot ≡ Some (row_at grid slot)
  slot_lacking slot inside lacks = slots_of-at grid free slot None inside ∙ cond-false (is_in free slot) None (Some (row_at grid slot)) lacks

  pub words_taken : (slot : ℕ) → is_taken seen slot ≡ true → words_at seen slot ≡ row_at grid slot
  words_taken slot taken = ap (λ (o : Option (List ℕ)). unwrap_or o []) (slot_lacking slot (taken_within slot taken) (taken_lacks slot taken))

  pub free_within : (slot : ℕ) → is_free seen slot ≡ true → slot < n
  free_within slot is = omega (arith, ltb-true slot (length seen.slots) (and_parts (nat_lt slot (length seen.slots)) (not (is_taken seen slot)) is).0, length-slots_of grid free)

  pub free_has : (slot : ℕ) → is_free seen slot ≡ true → is_in free slot ≡ true
  free_has slot is = elim (cases_Bool (is_in free slot)) [
    | inl has ↦ has
    | inr lacks ↦ absurd (both_ways (is_taken seen slot) (not-true (is_taken seen slot) (and_parts (nat_lt slot (length seen.slots)) (not (is_taken seen slot)) is).1) (ap is_some (slot_lacking slot (free_within slot is) lacks)))
  ]

  -- what is kept is the same where no slot is free
  pub kept_alone-full : (keep : Option ℕ) (none : ℕ) → n ≤ none → IfSome keep (λ slot. is_taken seen slot ≡ true) → with_kept_alone keep (stacks_of grid none) ≡ with_kept_alone keep seen
  kept_alone-full keep none past kept = test keep kept
    where
      count : length (slots_of grid (free_of grid none)) ≡ length seen.slots
      count = length-slots_of grid (free_of grid none) ∙ sym (length-slots_of grid free)

      test : (k : Option ℕ) → IfSome k (λ slot. is_taken seen slot ≡ true) → with_kept_alone k (stacks_of grid none) ≡ with_kept_alone k seen
      test None _ = ap (λ m. all_free m grid.width) count
      test (Some slot) taken =
          let words : words_at (stacks_of grid none) slot ≡ words_at seen slot =
          ap (λ (o : Option (List ℕ)). unwrap_or o []) (full_at grid none past slot (taken_within slot taken)) ∙ sym (words_taken slot taken) in
          (λ j. with_taken slot (words j) (all_free (count j) grid.width))

  -- the first free slot is one
  pub head_free : head < n → is_free seen head ≡ true
  head_free within =
      let long : head < length seen.slots = omega (arith, within, length-slots_of grid free) in
      and_from (nat_lt head (length seen.slots)) (not (is_taken seen head)) (lt-ltb head (length seen.slots) long)
      (not_from_false (is_taken seen head) (ap is_some (slots_of-at grid free head None within ∙ cond-true (is_in free head) None (Some (row_at grid head)) (first free block.chain))))
    where
      first : (xs : List ℕ) → IsChain grid head xs → is_in xs head ≡ true
      first [] end = absurd (omega (arith, end, within))
      first (x ∷ xs) linked = is_in-head x xs head linked.0

  -- where there is none, no slot is free
  pub none_free : n ≤ head → (slot : ℕ) → is_free seen slot ≡ false
  none_free past slot = elim (cases_Bool (is_free seen slot)) [
    | inl is ↦ absurd (both_ways (is_in free slot) (lacks free block.chain) (free_has slot is))
    | inr not_one ↦ not_one
  ]
    where
      lacks : (xs : List ℕ) → IsChain grid head xs → is_in xs slot ≡ false
      lacks [] end = refl
      lacks (x ∷ xs) linked = absurd (omega (arith, past, linked.0, linked.1))

  -- the links of a slot that is free lead to no slot that is taken
  next_apart : (slot s : ℕ) → is_in free slot ≡ true → s < n → is_in free s ≡ false → s ≢ next slot
  next_apart slot s has inside lacks same = elim (after n next before NO_SLOT head free slot block.chain has) [
    | inl past ↦ absurd (omega (arith, past, same, inside))
    | inr on ↦ apart free (next slot) s on lacks (sym same)
  ]

  before_apart : (slot s : ℕ) → is_in free slot ≡ true → s < n → is_in free s ≡ false → s ≢ before slot
  before_apart slot s has inside lacks same =
      let leads = ahead n next before NO_SLOT head free slot block.chain has in
      elim (cases_eq head slot) [
        | inl first ↦ absurd (omega (arith, leads.0 first, same, inside, block.count))
        | inr later ↦ apart free (before slot) s (leads.1 later) lacks (sym same)
      ]

  head_apart : (s : ℕ) → s < n → is_in free s ≡ false → s ≢ head
  head_apart s inside lacks same = first free block.chain lacks
    where
      first : (xs : List ℕ) → IsChain grid head xs → is_in xs s ≡ false → ⊥
      first [] end none = absurd (omega (arith, end, same, inside))
      first (x ∷ xs) linked none = both_ways (is_in (x ∷ xs) s) none (is_in-head x xs s (same ∙ linked.0))

  lacks_none : is_in free NO_SLOT ≡ false
  lacks_none = elim (cases_Bool (is_in free NO_SLOT)) [
    | inl has ↦ absurd (omega (arith, linked-below n next before NO_SLOT head free block.chain NO_SLOT has, block.count))
    | inr lacks ↦ lacks
  ]

  -- ---- a change

  module _ (grid' : Rows) (head' : ℕ) (free' : List ℕ) (same : length grid'.rows ≡ n) (room : grid'.room ≡ grid.room) (width : grid'.width ≡ grid.width) (even : AreEven grid') (chain : IsChain grid' head' free') where
    free_after : free_of grid' head' ≡ free'
    free_after = follow-linked (length grid'.rows) (λ s. word_at grid' s 0) (λ s. word_at grid' s 1) NO_SLOT head' free' chain

    block_after : IsBlock grid' head'
    block_after = record {
      some = omega (arith, room, block.some);
      few = omega (arith, room, block.few);
      count = omega (arith, same, block.count);
      width = omega (arith, width, block.width);
      even = even;
      chain = subst (IsChain grid' head') (sym free_after) chain;
    }

    module _ (slot : ℕ) (here : Option (List ℕ)) (is : seen_at grid' free' slot ≡ here) (others : (s : ℕ) → s < n → s ≢ slot → seen_at grid' free' s ≡ seen_at grid free s) where
      stacks_after : stacks_of grid' head' ≡ record { width = grid.width; free = free'; slots = set seen.slots slot here }
      stacks_after =
          ap (λ (xs : List ℕ). record { width = grid'.width; free = xs; slots = slots_of grid' xs }) free_after
          ∙ (λ j. record { width = width j; free = free'; slots = slots_of-change grid grid' free free' slot here same is others j })

  -- ---- the words of a slot that is taken are written

  module _ (slot : ℕ) (words : List ℕ) (taken : is_taken seen slot ≡ true) (long : length words ≡ grid.width) where
    abbrev rewritten : Rows
    rewritten = with_row slot words grid

    rewritten-chain : IsChain rewritten head free
    rewritten-chain =
        subst (λ (k : ℕ). AreLinked k (λ s. word_at rewritten s 0) (λ s. word_at rewritten s 1) NO_SLOT head free) (sym (length-with_row grid slot words))
        (linked-frame n next before (λ s. word_at rewritten s 0) (λ s. word_at rewritten s 1) NO_SLOT head free block.chain (λ s has.
        let row : row_at rewritten s ≡ row_at grid s = row_at-with_other grid slot words s (apart free s slot has (taken_lacks slot taken)) in
        (ap (λ (r : List ℕ). get_or r 0 0) row, ap (λ (r : List ℕ). get_or r 1 0) row)))

    pub rewritten-block : IsBlock rewritten head
    rewritten-block = block_after rewritten head free (length-with_row grid slot words) refl refl (even-with_row grid slot words block.even long) rewritten-chain

    pub rewritten-stacks : stacks_of rewritten head ≡ with_words slot words seen
    rewritten-stacks =
        stacks_after rewritten head free (length-with_row grid slot words) refl refl (even-with_row grid slot words block.even long) rewritten-chain slot (Some words)
        (cond-false (is_in free slot) None (Some (row_at rewritten slot)) (taken_lacks slot taken) ∙ ap Some (row_at-with_same grid slot words (taken_within slot taken)))
        (λ s inside other. ap (λ (r : List ℕ). cond (is_in free s) None (Some r)) (row_at-with_other grid slot words s other))

  -- ---- a slot that is taken is given

  module _ (slot : ℕ) (taken : is_taken seen slot ≡ true) where
    abbrev g1 : Rows
    g1 = with_word slot 0 head grid

    abbrev g2 : Rows
    g2 = with_word slot 1 NO_SLOT g1

    abbrev given : Rows
    given = with_front head slot grid

    pub given-length : length given.rows ≡ n
    given-length = length-with_row g2 head (set (row_at g2 head) 1 slot) ∙ length-with_row g1 slot (set (row_at g1 slot) 1 NO_SLOT) ∙ length-with_row grid slot (set (row_at grid slot) 0 head)

    even1 : AreEven g1
    even1 = even-with_word grid slot 0 head block.even

    even2 : AreEven g2
    even2 = even-with_word g1 slot 1 NO_SLOT even1

    length1 : length g1.rows ≡ n
    length1 = length-with_row grid slot (set (row_at grid slot) 0 head)

    length2 : length g2.rows ≡ n
    length2 = length-with_row g1 slot (set (row_at g1 slot) 1 NO_SLOT) ∙ length1

    inside : slot < n
    inside = taken_within slot taken

    lacks : is_in free slot ≡ false
    lacks = taken_lacks slot taken

    not_head : slot ≢ head
    not_head = head_apart slot inside lacks

    given-next : word_at given slot 0 ≡ head
    given-next =
        word_at-other g2 head 1 slot slot 0 (λ e. absurd (omega (arith, e)))
        ∙ word_at-other g1 slot 1 NO_SLOT slot 0 (λ e. absurd (omega (arith, e)))
        ∙ word_at-same grid slot 0 head inside (omega (arith, block.even slot inside, block.width))

    given-before : word_at given slot 1 ≡ NO_SLOT
    given-before = word_at-other_row g2 head 1 slot slot 1 not_head ∙ word_at-same g1 slot 1 NO_SLOT (omega (arith, inside, length1)) (omega (arith, even1 slot (omega (arith, inside, length1)), block.width))

    given-first : head < n → word_at given head 1 ≡ slot
    given-first within = word_at-same g2 head 1 slot (omega (arith, within, length2)) (omega (arith, even2 head (omega (arith, within, length2)), block.width))

    given-nexts : (s : ℕ) → s ≢ slot → word_at given s 0 ≡ next s
    given-nexts s other = word_at-other g2 head 1 slot s 0 (λ e. absurd (omega (arith, e))) ∙ word_at-other_row g1 slot 1 NO_SLOT s 0 other ∙ word_at-other_row grid slot 0 head s 0 other

    given-befores : (s : ℕ) → s ≢ slot → s ≢ head → word_at given s 1 ≡ before s
    given-befores s other differs = word_at-other_row g2 head 1 slot s 1 differs ∙ word_at-other_row g1 slot 1 NO_SLOT s 1 other ∙ word_at-other_row grid slot 0 head s 1 other

    given-row : (s : ℕ) → s ≢ slot → s ≢ head → row_at given s ≡ row_at grid s
    given-row s other differs =
        row_at-with_other g2 head (set (row_at g2 head) 1 slot) s differs ∙ row_at-with_other g1 slot (set (row_at g1 slot) 1 NO_SLOT) s other ∙ row_at-with_other grid slot (set (row_at grid slot) 0 head) s other

    given-even : AreEven given
    given-even = even-with_word g2 head 1 slot even2

    given-chain : IsChain given slot (slot ∷ free)
    given-chain =
        subst (λ (k : ℕ). AreLinked k (λ s. word_at given s 0) (λ s. word_at given s 1) NO_SLOT slot (slot ∷ free)) (sym given-length)
        (linked-front n next before (λ s. word_at given s 0) (λ s. word_at given s 1) NO_SLOT head slot free block.chain inside lacks given-next given-before given-first
        (λ s has. given-nexts s (apart free s slot has lacks)) (λ s has. given-befores s (apart free s slot has lacks)))

    pub given-block : IsBlock given slot
    given-block = block_after given slot (slot ∷ free) given-length refl refl given-even given-chain

    pub given-stacks : stacks_of given slot ≡ with_given slot seen
    given-stacks =
        stacks_after given slot (slot ∷ free) given-length refl refl given-even given-chain slot None
        (cond-true (is_in (slot ∷ free) slot) None (Some (row_at given slot)) (is_in-head slot free slot refl))
        (λ s within other. ap (λ b. cond b None (Some (row_at given s))) (is_in-rest slot free s other) ∙ elim (cases_Bool (is_in free s)) [
          | inl has ↦ cond-true (is_in free s) None (Some (row_at given s)) has ∙ sym (cond-true (is_in free s) None (Some (row_at grid s)) has)
          | inr none ↦ ap (λ (r : List ℕ). cond (is_in free s) None (Some r)) (given-row s other (head_apart s within none))
        ])

  -- ---- a slot that is free is taken

  module _ (slot : ℕ) (is_one : is_free seen slot ≡ true) (words : List ℕ) (long : length words ≡ grid.width) where
    abbrev nx : ℕ
    nx = next slot

    abbrev pv : ℕ
    pv = before slot

    abbrev h1 : Rows
    h1 = with_word pv 0 nx grid

    abbrev past : Rows
    past = with_bypass slot grid

    abbrev taken : Rows
    taken = with_row slot words past

    abbrev first : ℕ
    first = head_without slot grid head

    there : slot < n
    there = free_within slot is_one

    has : is_in free slot ≡ true
    has = free_has slot is_one

    length-h1 : length h1.rows ≡ n
    length-h1 = length-with_row grid pv (set (row_at grid pv) 0 nx)

    pub length-past : length past.rows ≡ n
    length-past = length-with_row h1 nx (set (row_at h1 nx) 1 pv) ∙ length-h1

    length-taken : length taken.rows ≡ n
    length-taken = length-with_row past slot words ∙ length-past

    even-h1 : AreEven h1
    even-h1 = even-with_word grid pv 0 nx block.even

    even-past : AreEven past
    even-past = even-with_word h1 nx 1 pv even-h1

    even-taken : AreEven taken
    even-taken = even-with_row past slot words even-past long

    word_taken : (s i : ℕ) → s ≢ slot → word_at taken s i ≡ word_at past s i
    word_taken s i other = ap (λ (r : List ℕ). get_or r i 0) (row_at-with_other past slot words s other)

    next_other : (s : ℕ) → s ≢ slot → s ≢ pv → word_at taken s 0 ≡ next s
    next_other s other differs = word_taken s 0 other ∙ word_at-other h1 nx 1 pv s 0 (λ e. absurd (omega (arith, e))) ∙ word_at-other_row grid pv 0 nx s 0 differs

    next_here : pv < n → pv ≢ slot → word_at taken pv 0 ≡ nx
    next_here within other =
        word_taken pv 0 other ∙ word_at-other h1 nx 1 pv pv 0 (λ e. absurd (omega (arith, e))) ∙ word_at-same grid pv 0 nx within (omega (arith, block.even pv within, block.width))

    before_other : (s : ℕ) → s ≢ slot → s ≢ nx → word_at taken s 1 ≡ before s
    before_other s other differs = word_taken s 1 other ∙ word_at-other_row h1 nx 1 pv s 1 differs ∙ word_at-other grid pv 0 nx s 1 (λ e. absurd (omega (arith, e)))

    before_here : nx < n → nx ≢ slot → word_at taken nx 1 ≡ pv
    before_here within other =
        word_taken nx 1 other ∙ word_at-same h1 nx 1 pv (omega (arith, within, length-h1)) (omega (arith, even-h1 nx (omega (arith, within, length-h1)), block.width))

    taken-chain : IsChain taken first (without slot free)
    taken-chain =
        let on : AreLinked n (λ s. word_at taken s 0) (λ s. word_at taken s 1) NO_SLOT (cond (nat_eq head slot) nx head) (without slot free) =
        linked-past n next before (λ s. word_at taken s 0) (λ s. word_at taken s 1) slot next_other next_here before_other before_here NO_SLOT head free block.chain has lacks_none in
        subst (λ (k : ℕ). AreLinked k (λ s. word_at taken s 0) (λ s. word_at taken s 1) NO_SLOT first (without slot free)) (sym length-taken)
        (subst (λ (k : ℕ). AreLinked n (λ s. word_at taken s 0) (λ s. word_at taken s 1) NO_SLOT k (without slot free)) (sym (head-past n next before NO_SLOT head slot free block.chain has (omega (arith, block.count)))) on)

    pub taken-block : IsBlock taken first
    taken-block = block_after taken first (without slot free) length-taken refl refl even-taken taken-chain

    pub taken-stacks : stacks_of taken first ≡ with_taken slot words seen
    taken-stacks =
        stacks_after taken first (without slot free) length-taken refl refl even-taken taken-chain slot (Some words)
        (cond-false (is_in (without slot free) slot) None (Some (row_at taken slot)) (is_in-without_it slot free) ∙ ap Some (row_at-with_same past slot words (omega (arith, there, length-past))))
        (λ s within other. ap (λ b. cond b None (Some (row_at taken s))) (is_in-without slot free s other) ∙ elim (cases_Bool (is_in free s)) [
          | inl one ↦ cond-true (is_in free s) None (Some (row_at taken s)) one ∙ sym (cond-true (is_in free s) None (Some (row_at grid s)) one)
          | inr none ↦ ap (λ (r : List ℕ). cond (is_in free s) None (Some r))
              (row_at-with_other past slot words s other
              ∙ row_at-with_other h1 nx (set (row_at h1 nx) 1 pv) s (next_apart slot s has within none)
              ∙ row_at-with_other grid pv (set (row_at grid pv) 0 nx) s (before_apart slot s has within none))
        ])
