-- Which texts a pattern matches, one by one.
use Rattle.std.proofs.lemmas.List.{at_drop_all, at_drop_more}
use Rattle.std.proofs.lemmas.Option.{none-some}
use Rattle.pct_names.proofs.Names.{◌&&◌, ◌+◌, ◌<◌, ◌≢◌, [], ap, arith, Bool, drop, false, get_or, length, List, map, refl, suc, sym, true, ℕ, ◌∙◌, ◌∷◌, ◌≡◌, ◌≤◌, same_Some, slice_get, Some}
use Rattle.pct_expect.specs.Events.{matches, word_matches}

and_none : (b : Bool) → false ≡ (b && false)
and_none true = refl
and_none false = refl

module _ {X : Type 0} (text : X → List ℕ) where
  -- not as many words
  pub differ : (pattern : List (List ℕ)) (xs : List X) → length pattern ≢ length xs → false ≡ matches pattern (map text xs)
  unfolding matches
  differ [] [] apart = absurd (apart refl)
  differ [] (x ∷ xs) apart = refl
  differ (asked ∷ pattern) [] apart = refl
  differ (asked ∷ pattern) (x ∷ xs) apart =
      and_none (word_matches asked (text x)) ∙ ap (λ (t : Bool). word_matches asked (text x) && t) (differ pattern xs (λ same. apart (ap suc same)))

  first_word : (asked : List ℕ) (pattern : List (List ℕ)) (x : X) (xs : List X) → matches (asked ∷ pattern) (map text (x ∷ xs)) ≡ (word_matches asked (text x) && matches pattern (map text xs))
  unfolding matches
  first_word asked pattern x xs = refl

  -- from an index on
  next_word : (pattern : List (List ℕ)) (xs : List X) (i : ℕ) (d : List ℕ) (e : X) → i < length pattern → i < length xs
      → matches (drop i pattern) (map text (drop i xs)) ≡ (word_matches (get_or pattern i d) (text (get_or xs i e)) && matches (drop (i + 1) pattern) (map text (drop (i + 1) xs)))
  next_word pattern xs i d e within also =
      at_drop_more (λ (left : List (List ℕ)). matches left (map text (drop i xs))) pattern i d within
      ∙ at_drop_more (λ (left : List X). matches (get_or pattern i d ∷ drop (i + 1) pattern) (map text left)) xs i e also
      ∙ first_word (get_or pattern i d) (drop (i + 1) pattern) (get_or xs i e) (drop (i + 1) xs)

  tested : (pattern : List (List ℕ)) (xs : List X) (i : ℕ) (d : List ℕ) (e : X) (asked : List ℕ) (result : Bool) → asked ≡ get_or pattern i d → result ≡ word_matches asked (text (get_or xs i e))
      → word_matches (get_or pattern i d) (text (get_or xs i e)) ≡ result
  tested pattern xs i d e asked result same test = ap (λ (a : List ℕ). word_matches a (text (get_or xs i e))) (sym same) ∙ sym test

  pub word_fails : (pattern : List (List ℕ)) (xs : List X) (i : ℕ) (d : List ℕ) (e : X) → i < length pattern → i < length xs → matches pattern (map text xs) ≡ matches (drop i pattern) (map text (drop i xs))
      → (asked : List ℕ) → asked ≡ get_or pattern i d → false ≡ word_matches asked (text (get_or xs i e)) → false ≡ matches pattern (map text xs)
  word_fails pattern xs i d e within also so_far asked same lacks =
      sym (so_far ∙ next_word pattern xs i d e within also ∙ ap (λ (t : Bool). t && matches (drop (i + 1) pattern) (map text (drop (i + 1) xs))) (tested pattern xs i d e asked false same lacks))

  pub word_passes : (pattern : List (List ℕ)) (xs : List X) (i : ℕ) (d : List ℕ) (e : X) → i < length pattern → i < length xs → matches pattern (map text xs) ≡ matches (drop i pattern) (map text (drop i xs))
      → (asked : List ℕ) → asked ≡ get_or pattern i d → true ≡ word_matches asked (text (get_or xs i e)) → matches pattern (map text xs) ≡ matches (drop (i + 1) pattern) (map text (drop (i + 1) xs))
  word_passes pattern xs i d e within also so_far asked same passes =
      so_far ∙ next_word pattern xs i d e within also ∙ ap (λ (t : Bool). t && matches (drop (i + 1) pattern) (map text (drop (i + 1) xs))) (tested pattern xs i d e asked true same passes)

  none_left : matches [] (map text []) ≡ true
  unfolding matches
  none_left = refl

  pub all_pass : (pattern : List (List ℕ)) (xs : List X) (i : ℕ) → length pattern ≤ i → length xs ≤ i → matches pattern (map text xs) ≡ matches (drop i pattern) (map text (drop i xs)) → true ≡ matches pattern (map text xs)
  all_pass pattern xs i past also so_far =
      sym (so_far
      ∙ at_drop_all (λ (left : List (List ℕ)). matches left (map text (drop i xs))) pattern i past
      ∙ at_drop_all (λ (left : List X). matches [] (map text left)) xs i also
      ∙ none_left)

-- ---- the second word

module _ (thread word : List ℕ) where
  -- a pattern has fewer than two words
  pub too_short : (pattern words : List (List ℕ)) → slice_get words 0 ≡ Some word → length pattern < 2 → false ≡ matches pattern (thread ∷ words)
  unfolding matches
  too_short [] words is short = refl
  too_short (a ∷ []) [] is short = absurd (none-some word is)
  too_short (a ∷ []) (w ∷ words) is short = and_none (word_matches a thread)
  too_short (a ∷ b ∷ pattern) words is short = absurd (omega (arith, short))

  -- its second word does not match
  pub other_word : (pattern words : List (List ℕ)) (d : List ℕ) → slice_get words 0 ≡ Some word → 2 ≤ length pattern → false ≡ word_matches (get_or pattern 1 d) word → false ≡ matches pattern (thread ∷ words)
  unfolding matches
  other_word [] words d is long lacks = absurd (omega (arith, long))
  other_word (a ∷ []) words d is long lacks = absurd (omega (arith, long))
  other_word (a ∷ b ∷ pattern) [] d is long lacks = absurd (none-some word is)
  other_word (a ∷ b ∷ pattern) (w ∷ words) d is long lacks =
      and_none (word_matches a thread)
      ∙ ap (λ (t : Bool). word_matches a thread && t) (ap (λ (t : Bool). t && matches pattern words) (lacks ∙ ap (word_matches b) (sym (same_Some w word is))))
