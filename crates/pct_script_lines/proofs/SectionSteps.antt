-- The first section of lines, and the lines after it.
use Rattle.pct_names.proofs.Names.{◌+◌, ◌++◌, [], ap, arith, Bool, cond, drop, false, is_statement, length, Line, List, nat_lt, None, not}
use Rattle.pct_names.proofs.Names.{position, position_or_len, prefix_len-le-length, refl, Section, Sections, sections_of, Some}
use Rattle.pct_names.proofs.Names.{split_sections, subst, suc, sym, take, take-append-drop, true, unwrap_or, ℕ, ◌∙◌, ◌∷◌, ◌≡◌, ◌≤◌}
use Rattle.std.proofs.lemmas.Bool.{ltb-false}
use Rattle.pct_script_lines.specs.SectionSteps.{BeginsWithSection}

-- the index of the first declaration, or the number of lines
abbrev pub header_index : List Line → ℕ
header_index lines = position_or_len (λ l. not (is_statement l.1)) lines

-- the first n lines are the statements before the first section, and the sections are those of the other lines
record HasPrefix (n : ℕ) (lines : List Line) (p : Sections) : Type 0 where
  same : p ≡ record { preamble = take n lines; sections = sections_of (drop n lines) }
  after : (split_sections (drop n lines)).preamble ≡ []

abbrev prepend_entry : Line → Sections → Bool → Sections
prepend_entry l p t = cond t (record { preamble = l ∷ p.preamble; sections = p.sections }) (record { preamble = []; sections = record { header = l; body = p.preamble } ∷ p.sections })

prefix_step : (t : Bool) (l : Line) (lines : List Line) → is_statement l.1 ≡ t → HasPrefix (header_index lines) lines (split_sections lines)
    → HasPrefix (cond (not (not t)) (1 + header_index lines) 0) (l ∷ lines) (prepend_entry l (split_sections lines) t)
unfolding split_sections
prefix_step true l lines e more =
    let next : suc (header_index lines) ≡ 1 + header_index lines = omega arith in
    let step : HasPrefix (suc (header_index lines)) (l ∷ lines) (prepend_entry l (split_sections lines) true) =
    record { same = ap (λ (p : Sections). prepend_entry l p true) more.same; after = more.after } in
    subst (λ n. HasPrefix n (l ∷ lines) (prepend_entry l (split_sections lines) true)) next step
prefix_step false l lines e more =
    let first : split_sections (l ∷ lines) ≡ prepend_entry l (split_sections lines) false = ap (prepend_entry l (split_sections lines)) e in
    record {
      same = ap (λ (sections : List Section). record { preamble = []; sections = sections }) (sym (ap (λ (p : Sections). p.sections) first));
      after = ap (λ (p : Sections). p.preamble) first;
    }

prefix_of : (lines : List Line) → HasPrefix (header_index lines) lines (split_sections lines)
unfolding split_sections
prefix_of [] = record { same = refl; after = refl }
prefix_of (l ∷ lines) = prefix_step (is_statement l.1) l lines refl (prefix_of lines)

no_prefix : (t : Bool) (l : Line) (p : Sections) → (prepend_entry l p t).preamble ≡ [] → t ≡ false
no_prefix true l p e = absurd cc
no_prefix false l p e = refl

index_or : (n len : ℕ) (t : Bool) → nat_lt n len ≡ t → n ≤ len → unwrap_or (cond t (Some n) None) len ≡ n
index_or n len true e le = refl
index_or n len false e le =
    let ge : len ≤ n = ltb-false n len e in
    omega arith

index_is : (lines : List Line) → unwrap_or (position (λ l. not (is_statement l.1)) lines) (length lines) ≡ header_index lines
index_is lines = index_or (header_index lines) (length lines) (nat_lt (header_index lines) (length lines)) refl (prefix_len-le-length _ lines)

-- the statements come first, and the rest begins with the next declaration
split_after : (after body rest : List Line) (n : ℕ) → n ≡ header_index after → body ≡ take n after → rest ≡ drop n after
    → (split_sections after ≡ record { preamble = body; sections = sections_of rest }) × ((split_sections rest).preamble ≡ [])
split_after after body rest n at prefix back =
    let body_is : body ≡ take (header_index after) after = prefix ∙ ap (λ k. take k after) at in
    let rest_is : rest ≡ drop (header_index after) after = back ∙ ap (λ k. drop k after) at in
    let first = prefix_of after in (
      first.same
          ∙ ap (λ (b : List Line). record { preamble = b; sections = sections_of (drop (header_index after) after) }) (sym body_is)
          ∙ ap (λ (r : List Line). record { preamble = body; sections = sections_of r }) (sym rest_is),
      ap (λ (r : List Line). (split_sections r).preamble) rest_is ∙ first.after,
    )

-- lines that begin with a section begin with this one
pub first_section : (lines : List Line) (header : Line) (after : List Line) (n : ℕ) (body rest : List Line) → (split_sections lines).preamble ≡ [] → lines ≡ header ∷ after
    → n ≡ unwrap_or (position (λ l. not (is_statement l.1)) after) (length after) → body ≡ take n after → rest ≡ drop n after → BeginsWithSection lines header body rest
unfolding split_sections
first_section lines header after n body rest none whole index prefix back =
    let is : is_statement header.1 ≡ false =
    no_prefix (is_statement header.1) header (split_sections after) (sym (ap (λ (ls : List Line). (split_sections ls).preamble) whole) ∙ none) in
    let more = split_after after body rest n (index ∙ index_is after) prefix back in
    record {
      whole = whole ∙ ap (λ (ls : List Line). header ∷ ls)
          (sym (take-append-drop n after) ∙ ap (λ (b : List Line). b ++ drop n after) (sym prefix) ∙ ap (λ (r : List Line). body ++ r) (sym back));
      headers = is;
      sections = ap split_sections whole ∙ ap (prepend_entry header (split_sections after)) is ∙ ap (λ (p : Sections). prepend_entry header p false) more.0;
      after = more.1;
    }
