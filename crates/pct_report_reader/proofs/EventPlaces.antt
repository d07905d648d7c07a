-- Where the event lines of a report are in its text.
use Rattle.pct_names.proofs.Names.{◌+◌, ◌++◌, ◌-◌, [], All, All-cons, All-head, All-map, All-nil, All-tail, All-weaker, ap, arith, Bool}
use Rattle.pct_names.proofs.Names.{cond, drop, drop-append_seam, false, inl, inr, le_refl, length, length-map, lines_of, List, map, nat_eq}
use Rattle.pct_names.proofs.Names.{refl, strip_cr, subst, suc, sym, take, take-append_seam, true, words_in, zero, ℕ, ◌∙◌, ◌∷◌, ◌≡◌, ◌≤◌, ◌⊎◌}
use Rattle.std.proofs.Common.{append_assoc, length-append}
use Rattle.pct_expect.specs.Events.{IsWithin, events_in, part_at}
use Rattle.pct_text.specs.FirstLine.{IsFirstLine}
use Rattle.pct_text.proofs.FirstLines.{has_a_line}
use Rattle.pct_text.proofs.Lines.{lines_of-nil}
use Rattle.pct_report_reader.specs.Reading.{begins_verdict, event_lines, event_lines_after_title, event_lines_from, span_of}
use Rattle.pct_report_reader.proofs.LineCount.{few_lines}

-- ---- the offsets that the code computes

-- the lines after the first
length_split : (text line rest : List ℕ) → text ≡ line ++ 10 ∷ rest → length text ≡ length line + 1 + length rest
length_split text line rest e = ap length e ∙ length-append line (10 ∷ rest) ∙ omega arith

module _ (size : ℕ) (text line rest : List ℕ) (first : IsFirstLine text line rest) (fits : length text ≤ size) where
  at_offset : (text ≡ line ++ 10 ∷ rest) ⊎ ((text ≡ line) × (rest ≡ []))
      → event_lines_from (size - length text + length line + 1) (lines_of rest) ≡ event_lines_from (size - length rest) (lines_of rest)
  unfolding event_lines_from
  at_offset (inl e) =
      let same : size - length text + length line + 1 ≡ size - length rest = omega (arith, length_split text line rest e, fits) in
      ap (λ (n : ℕ). event_lines_from n (lines_of rest)) same
  at_offset (inr e) =
      let none : lines_of rest ≡ [] = ap lines_of e.1 ∙ lines_of-nil in
      ap (event_lines_from (size - length text + length line + 1)) none ∙ sym (ap (event_lines_from (size - length rest)) none)

  -- the places from this line on, by whether it is the verdict
  pub place_first : (ends : Bool) → begins_verdict (strip_cr line) ≡ ends
      → event_lines_from (size - length text) (lines_of text) ≡ cond ends [] ((size - length text, strip_cr line) ∷ event_lines_from (size - length rest) (lines_of rest))
  unfolding event_lines_from
  place_first ends is =
      ap (event_lines_from (size - length text)) first.lines
      ∙ ap (λ (t : Bool). cond t [] ((size - length text, strip_cr line) ∷ event_lines_from (size - length text + length line + 1) (lines_of rest))) is
      ∙ ap (λ (more : List (ℕ × List ℕ)). cond ends [] ((size - length text, strip_cr line) ∷ more)) (at_offset first.split)

-- no line
pub place_none : (offset : ℕ) (text : List ℕ) → text ≡ [] → event_lines_from offset (lines_of text) ≡ []
unfolding event_lines_from
place_none offset text e = ap (λ (t : List ℕ). event_lines_from offset (lines_of t)) e ∙ ap (event_lines_from offset) lines_of-nil

-- a text without a line, and one with a title
pub no_title : (text : List ℕ) → text ≡ [] → event_lines text ≡ []
unfolding event_lines
no_title text e = ap event_lines e ∙ ap (λ (lines : List (List ℕ)). event_lines_after_title lines) lines_of-nil

pub after_title : (text title rest : List ℕ) → IsFirstLine text title rest → event_lines text ≡ event_lines_from (length text - length rest) (lines_of rest)
unfolding event_lines event_lines_from
after_title text title rest first = ap event_lines_after_title first.lines ∙ by_split first.split
  where
    by_split : (text ≡ title ++ 10 ∷ rest) ⊎ ((text ≡ title) × (rest ≡ [])) → event_lines_from (length title + 1) (lines_of rest) ≡ event_lines_from (length text - length rest) (lines_of rest)
    by_split (inl e) =
        let same : length title + 1 ≡ length text - length rest = omega (arith, length_split text title rest e) in
        ap (λ (n : ℕ). event_lines_from n (lines_of rest)) same
    by_split (inr e) =
        let none : lines_of rest ≡ [] = ap lines_of e.1 ∙ lines_of-nil in
        ap (event_lines_from (length title + 1)) none ∙ sym (ap (event_lines_from (length text - length rest)) none)

-- ---- the lines at their places

-- a line is at its place in a text
record IsPlaced (text : List ℕ) (line : ℕ × List ℕ) : Type 0 where
  within : IsWithin text (span_of line)
  is : part_at text (span_of line) ≡ line.1

-- a line begins with what remains of it without a CR
without_cr : (line : List ℕ) → (end : List ℕ) × (line ≡ strip_cr line ++ end)
unfolding strip_cr
without_cr [] = ([], refl)
without_cr (b ∷ []) = one (nat_eq b 13)
  where
    one : (t : Bool) → (end : List ℕ) × ((b ∷ []) ≡ cond t [] (b ∷ []) ++ end)
    one true = (b ∷ [], refl)
    one false = ([], refl)
without_cr (b ∷ next ∷ bytes) = let more = without_cr (next ∷ bytes) in (more.0, ap (λ (xs : List ℕ). b ∷ xs) more.1)

-- a line is not longer than its text
pub line_fits : (text line rest : List ℕ) → IsFirstLine text line rest → length (strip_cr line) ≤ length text
line_fits text line rest first =
    let cut = without_cr line in
    let parts = ap length cut.1 ∙ length-append (strip_cr line) cut.0 in
    elim first.split [
      | inl e ↦ omega (arith, parts, length_split text line rest e)
      | inr e ↦ omega (arith, parts, ap length e.0)
    ]

placed_at : (front line end : List ℕ) → IsPlaced (front ++ (line ++ end)) (length front, line)
placed_at front line end =
    let size : length front + length line - length front ≡ length line = omega arith in
    record {
      within = (omega arith, omega (arith, length-append front (line ++ end), length-append line end));
      is =
          ap (λ (n : ℕ). take n (drop (length front) (front ++ (line ++ end)))) size
          ∙ ap (take (length line)) (drop-append_seam front (line ++ end)) ∙ take-append_seam line end;
    }

first_placed : (text front rest line after : List ℕ) → text ≡ front ++ rest → IsFirstLine rest line after → IsPlaced text (length front, strip_cr line)
first_placed text front rest line after whole first =
    let cut = without_cr line in
    elim first.split [
      | inl e ↦ found (cut.0 ++ 10 ∷ after) (e ∙ ap (λ (l : List ℕ). l ++ 10 ∷ after) cut.1 ∙ append_assoc (strip_cr line) cut.0 (10 ∷ after))
      | inr e ↦ found cut.0 (e.0 ∙ cut.1)
    ]
  where
    found : (end : List ℕ) → rest ≡ strip_cr line ++ end → IsPlaced text (length front, strip_cr line)
    found end e = subst (λ (t : List ℕ). IsPlaced t (length front, strip_cr line)) (sym (whole ∙ ap (λ (r : List ℕ). front ++ r) e)) (placed_at front (strip_cr line) end)

-- the lines after the first, by whether it is the verdict
either_placed : (text : List ℕ) (ends : Bool) (line : ℕ × List ℕ) (lines : List (ℕ × List ℕ)) → IsPlaced text line → All (IsPlaced text) lines → All (IsPlaced text) (cond ends [] (line ∷ lines))
either_placed text true line lines first others = All-nil (IsPlaced text)
either_placed text false line lines first others = All-cons (IsPlaced text) line lines first others

none_placed : (text : List ℕ) (n : ℕ) (rest : List ℕ) → rest ≡ [] → All (IsPlaced text) (event_lines_from n (lines_of rest))
none_placed text n rest none = subst (All (IsPlaced text)) (sym (place_none n rest none)) (All-nil (IsPlaced text))

-- the lines after a line are placed, if they are at the offset after it
after_placed : (text front rest line after : List ℕ) → text ≡ front ++ rest → IsFirstLine rest line after
    → ((longer : List ℕ) → text ≡ longer ++ after → All (IsPlaced text) (event_lines_from (length longer) (lines_of after)))
    → All (IsPlaced text) (event_lines_from (length front + length line + 1) (lines_of after))
after_placed text front rest line after whole first placed = elim first.split [
  | inl e ↦
      let longer : List ℕ = front ++ (line ++ 10 ∷ []) in
      let split : text ≡ longer ++ after =
      whole ∙ ap (λ (r : List ℕ). front ++ r) (e ∙ sym (append_assoc line (10 ∷ []) after)) ∙ sym (append_assoc front (line ++ 10 ∷ []) after) in
      let size : length longer ≡ length front + length line + 1 = omega (arith, length-append front (line ++ 10 ∷ []), length-append line (10 ∷ [])) in
      subst (λ (n : ℕ). All (IsPlaced text) (event_lines_from n (lines_of after))) size (placed longer split)
  | inr e ↦ none_placed text (length front + length line + 1) after e.1
]

lines_placed : (most : ℕ) (text front rest : List ℕ) → length rest ≤ most → text ≡ front ++ rest → All (IsPlaced text) (event_lines_from (length front) (lines_of rest))
unfolding event_lines_from
lines_placed most text front [] few whole = none_placed text (length front) [] refl
lines_placed zero text front (b ∷ bytes) few whole = absurd (omega (arith, few))
lines_placed (suc most) text front (b ∷ bytes) few whole =
    let found = has_a_line b bytes in
    let line = found.0 in
    let after = found.1 in
    let first = found.2 in
    let others = after_placed text front (b ∷ bytes) line after whole first (λ longer split. lines_placed most text longer after (omega (arith, few, first.shorter)) split) in
    subst (All (IsPlaced text)) (sym (ap (event_lines_from (length front)) first.lines))
    (either_placed text (begins_verdict (strip_cr line)) (length front, strip_cr line) (event_lines_from (length front + length line + 1) (lines_of after)) (first_placed text front (b ∷ bytes) line after whole first) others)

text_placed : (text : List ℕ) → All (IsPlaced text) (event_lines text)
unfolding event_lines
text_placed [] = subst (All (IsPlaced [])) (sym (no_title [] refl)) (All-nil (IsPlaced []))
text_placed (b ∷ bytes) =
    let text : List ℕ = b ∷ bytes in
    let found = has_a_line b bytes in
    let size : length {A = ℕ} [] + length found.0 + 1 ≡ length found.0 + 1 = omega arith in
    let others = after_placed text [] text found.0 found.1 refl found.2 (λ longer split. lines_placed (length found.1) text longer found.1 (le_refl _) split) in
    subst (All (IsPlaced text)) (sym (ap event_lines_after_title found.2.lines)) (subst (λ (n : ℕ). All (IsPlaced text) (event_lines_from n (lines_of found.1))) size others)

-- ---- what a reader of the places has

pub places_within : (text : List ℕ) → All (IsWithin text) (map span_of (event_lines text))
places_within text = All-map (IsWithin text) span_of (event_lines text) (All-weaker (IsPlaced text) (λ line. IsWithin text (span_of line)) (λ line placed. placed.within) (event_lines text) (text_placed text))

words_of_places : (text : List ℕ) (lines : List (ℕ × List ℕ)) → All (IsPlaced text) lines → events_in text (map span_of lines) ≡ map (λ line. words_in line.1) lines
words_of_places text [] placed = refl
words_of_places text (line ∷ lines) placed =
    ap (λ (bytes : List ℕ). words_in bytes ∷ events_in text (map span_of lines)) (All-head (IsPlaced text) line lines placed).is
    ∙ ap (λ (others : List (List (List ℕ))). words_in line.1 ∷ others) (words_of_places text lines (All-tail (IsPlaced text) line lines placed))

pub places_spell : (text : List ℕ) → events_in text (map span_of (event_lines text)) ≡ map (λ line. words_in line.1) (event_lines text)
places_spell text = words_of_places text (event_lines text) (text_placed text)

parts_of_lines : (text : List ℕ) (lines : List (ℕ × List ℕ)) → All (IsPlaced text) lines → map (part_at text) (map span_of lines) ≡ map (λ line. line.1) lines
parts_of_lines text [] placed = refl
parts_of_lines text (line ∷ lines) placed =
    ap (λ (bytes : List ℕ). bytes ∷ map (part_at text) (map span_of lines)) (All-head (IsPlaced text) line lines placed).is
    ∙ ap (λ (others : List (List ℕ)). line.1 ∷ others) (parts_of_lines text lines (All-tail (IsPlaced text) line lines placed))

pub parts_of_places : (text : List ℕ) → map (part_at text) (map span_of (event_lines text)) ≡ map (λ line. line.1) (event_lines text)
parts_of_places text = parts_of_lines text (event_lines text) (text_placed text)

few_after_first : (ends : Bool) (line : ℕ × List ℕ) (lines : List (ℕ × List ℕ)) (n : ℕ) → length lines ≤ n → length (cond ends [] (line ∷ lines)) ≤ suc n
few_after_first true line lines n few = omega arith
few_after_first false line lines n few = omega (arith, few)

few_from : (offset : ℕ) (lines : List (List ℕ)) → length (event_lines_from offset lines) ≤ length lines
unfolding event_lines_from
few_from offset [] = omega arith
few_from offset (line ∷ lines) =
    few_after_first (begins_verdict (strip_cr line)) (offset, strip_cr line) (event_lines_from (offset + length line + 1) lines) (length lines) (few_from (offset + length line + 1) lines)

few_events : (lines : List (List ℕ)) → length (event_lines_after_title lines) ≤ length lines
few_events [] = omega arith
few_events (title ∷ lines) = omega (arith, few_from (length title + 1) lines)

pub few_places : (text : List ℕ) → length (map span_of (event_lines text)) ≤ length text
unfolding event_lines
few_places text = omega (arith, length-map (event_lines text) span_of, few_events (lines_of text), few_lines text)
