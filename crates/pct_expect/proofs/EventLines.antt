-- The events of lines, one by one.
use Rattle.pct_names.proofs.Names.{◌+◌, ◌<◌, [], ap, cases_lt, count_by, count_by_more_no, count_by_more_yes, false, false_from_ne_true, false≢true, get_or, inl, inr, length, length-map, List, map, map-map, option_map, option_map_or, refl, slice_get, slice_get-get_or}
use Rattle.pct_names.proofs.Names.{slice_get-map, slice_get_past, Some, subst, suc, sym, take, true, words_in, zero, ℕ, ◌∙◌, ◌∷◌, ◌≡◌, ◌≤◌}
use Rattle.pct_expect.specs.declared.span.Span.{Span}
use Rattle.pct_expect.specs.Events.{MatchesAt, events_in, matches, part_at, thread_at, thread_of}
use Rattle.pct_expect.specs.Keys.{asked_key, event_key, keys_in}
use Rattle.pct_expect.proofs.WordKeys.{refused}

module _ (text : List ℕ) (lines : List Span) (events : List (List (List ℕ))) (seen : events_in text lines ≡ events) where
  inside_lines : (i : ℕ) → i < length events → i < length lines
  inside_lines i inside = subst (λ (n : ℕ). i < n) (ap length (sym seen) ∙ length-map lines (λ span. words_in (part_at text span))) inside

  event_at : (i : ℕ) (d : Span) → i < length events → slice_get events i ≡ Some (words_in (part_at text (get_or lines i d)))
  event_at i d inside =
      ap (λ (es : List (List (List ℕ))). slice_get es i) (sym seen)
      ∙ slice_get-map (λ span. words_in (part_at text span)) lines i
      ∙ ap (option_map (λ span. words_in (part_at text span))) (slice_get-get_or lines i d (inside_lines i inside))

  -- the pattern is compared with the words of the event's line
  pub compared : (pattern : List (List ℕ)) (line : List ℕ) (i : ℕ) (d : Span) → i < length events → line ≡ part_at text (get_or lines i d)
      → matches pattern (words_in line) ≡ option_map_or (matches pattern) (slice_get events i) false
  compared pattern line i d inside is =
      ap (λ (bytes : List ℕ). matches pattern (words_in bytes)) is ∙ sym (ap (λ o. option_map_or (matches pattern) o false) (event_at i d inside))

  -- the event's thread is read in its line
  pub thread_read : (line word : List ℕ) (words : List (List ℕ)) (i : ℕ) (d : Span) → i < length events → line ≡ part_at text (get_or lines i d) → words_in line ≡ words → word ≡ thread_of words → word ≡ thread_at events i
  thread_read line word words i d inside is spelled named =
      named ∙ ap thread_of (sym spelled ∙ ap words_in is) ∙ sym (ap (λ o. option_map_or thread_of o []) (event_at i d inside))

  pub keys_of : (keys : List ℕ) → keys ≡ keys_in text lines → keys ≡ map event_key events
  keys_of keys e = e ∙ sym (map-map event_key (λ span. words_in (part_at text span)) lines) ∙ ap (map event_key) seen

-- the event has another key than the pattern asks for
pub refused_at : (pattern : List (List ℕ)) (events : List (List (List ℕ))) (i k d : ℕ) → asked_key pattern ≡ Some k → (k ≡ get_or (map event_key events) i d → ⊥)
    → option_map_or (matches pattern) (slice_get events i) false ≡ false
refused_at pattern [] zero k d asks other = refl
refused_at pattern [] (suc i) k d asks other = refl
refused_at pattern (event ∷ events) zero k d asks other = refused pattern event k asks (λ same. other (sym same))
refused_at pattern (event ∷ events) (suc i) k d asks other = refused_at pattern events i k d asks other

-- ---- as the code tests them

pub matched_by : (pattern asked : List (List ℕ)) (events : List (List (List ℕ))) (i : ℕ) → asked ≡ pattern → true ≡ option_map_or (matches asked) (slice_get events i) false → MatchesAt pattern events i
matched_by pattern asked events i same is = sym (is ∙ ap (λ (p : List (List ℕ)). option_map_or (matches p) (slice_get events i) false) same)

pub unmatched_by : (pattern asked : List (List ℕ)) (events : List (List (List ℕ))) (i : ℕ) → asked ≡ pattern → false ≡ option_map_or (matches asked) (slice_get events i) false → MatchesAt pattern events i → ⊥
unmatched_by pattern asked events i same is m = false≢true (is ∙ ap (λ (p : List (List ℕ)). option_map_or (matches p) (slice_get events i) false) same ∙ m)

-- no event is past the last one
pub none_past : (pattern : List (List ℕ)) (events : List (List (List ℕ))) (i : ℕ) → length events ≤ i → MatchesAt pattern events i → ⊥
none_past pattern events i past m = false≢true (sym (ap (λ o. option_map_or (matches pattern) o false) (slice_get_past events i past)) ∙ m)

pub inside_events : (pattern : List (List ℕ)) (events : List (List (List ℕ))) (i : ℕ) → MatchesAt pattern events i → i < length events
inside_events pattern events i m =
    elim (cases_lt i (length events)) [
      | inl inside ↦ inside
      | inr past ↦ absurd (none_past pattern events i past m)
    ]

-- one more event is counted
pub one_more : (pattern asked : List (List ℕ)) (events : List (List (List ℕ))) (i count more : ℕ) → i < length events → asked ≡ pattern → count ≡ count_by (matches pattern) (take i events)
    → true ≡ option_map_or (matches asked) (slice_get events i) false → more ≡ count + 1 → more ≡ count_by (matches pattern) (take (i + 1) events)
one_more pattern asked events i count more inside same so_far is added =
    let here = ap (λ o. option_map_or (matches pattern) o false) (sym (slice_get-get_or events i [] inside)) ∙ matched_by pattern asked events i same is in
    added ∙ ap (λ (n : ℕ). n + 1) so_far ∙ sym (count_by_more_yes (matches pattern) events i [] inside here)

pub none_more : (pattern asked : List (List ℕ)) (events : List (List (List ℕ))) (i count more : ℕ) → i < length events → asked ≡ pattern → count ≡ count_by (matches pattern) (take i events)
    → false ≡ option_map_or (matches asked) (slice_get events i) false → more ≡ count → more ≡ count_by (matches pattern) (take (i + 1) events)
none_more pattern asked events i count more inside same so_far is kept =
    let here : matches pattern (get_or events i []) ≡ false =
    false_from_ne_true (matches pattern (get_or events i [])) (λ m. unmatched_by pattern asked events i same is (ap (λ o. option_map_or (matches pattern) o false) (slice_get-get_or events i [] inside) ∙ m)) in
    kept ∙ so_far ∙ sym (count_by_more_no (matches pattern) events i [] inside here)
