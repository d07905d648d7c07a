-- The lines of a report down to its verdict, one after the other.
use Rattle.pct_names.proofs.Names.{◌+◌, [], ap, Bool, cond, Err, false, Format, List, map, Ok, Option, strip_cr, true, ℕ, ◌∙◌, ◌∷◌, ◌≡◌}
use Rattle.pct_report_reader.specs.declared.fault.ReportWhy.TheVariants as why
use Rattle.pct_report_reader.specs.Reading.{Read, ReadBody, begins_verdict, body_from, body_in, body_of, format_of_title, is_event, is_verdict}

-- what line n gives, by what it is, before these lines
abbrev at_line : Format → ℕ → List (List ℕ) → (ends verdict event : Bool) → Read ReadBody
at_line format n lines ends verdict event =
    cond ends (cond verdict (Ok (record { format = format; number = n; after = lines })) (Err (n, why.BadVerdict))) (cond event (body_from format (n + 1) lines) (Err (n, why.BadEvent)))

module _ (format : Format) (n : ℕ) (lines : List (List ℕ)) (raw : List ℕ) (after : List (List ℕ)) (first : lines ≡ raw ∷ after) where
  one_line : body_from format n (map strip_cr lines) ≡ at_line format n (map strip_cr after) (begins_verdict (strip_cr raw)) (is_verdict (strip_cr raw)) (is_event (strip_cr raw))
  unfolding body_from
  one_line = ap (λ (ls : List (List ℕ)). body_from format n (map strip_cr ls)) first

  pub ends_at : (verdict : Bool) → begins_verdict (strip_cr raw) ≡ true → is_verdict (strip_cr raw) ≡ verdict
      → body_from format n (map strip_cr lines) ≡ at_line format n (map strip_cr after) true verdict false
  ends_at verdict ends is =
      one_line ∙ ap (λ (t : Bool). at_line format n (map strip_cr after) t (is_verdict (strip_cr raw)) (is_event (strip_cr raw))) ends
      ∙ ap (λ (t : Bool). at_line format n (map strip_cr after) true t (is_event (strip_cr raw))) is

  pub goes_on : (event : Bool) → begins_verdict (strip_cr raw) ≡ false → is_event (strip_cr raw) ≡ event
      → body_from format n (map strip_cr lines) ≡ at_line format n (map strip_cr after) false false event
  goes_on event ends is =
      one_line ∙ ap (λ (t : Bool). at_line format n (map strip_cr after) t (is_verdict (strip_cr raw)) (is_event (strip_cr raw))) ends
      ∙ ap (λ (t : Bool). at_line format n (map strip_cr after) false (is_verdict (strip_cr raw)) t) is

pub no_verdict : (format : Format) (n : ℕ) (lines : List (List ℕ)) → lines ≡ [] → body_from format n (map strip_cr lines) ≡ Err (n, why.BadVerdict)
unfolding body_from
no_verdict format n lines none = ap (λ (ls : List (List ℕ)). body_from format n (map strip_cr ls)) none

-- ---- the whole

pub no_line : (lines : List (List ℕ)) → lines ≡ [] → body_in (map strip_cr lines) ≡ Err (1, why.BadHeader)
unfolding body_in
no_line lines none = ap (λ (ls : List (List ℕ)). body_in (map strip_cr ls)) none

pub by_title : (lines : List (List ℕ)) (title : List ℕ) (after : List (List ℕ)) (found : Option Format) → lines ≡ title ∷ after → format_of_title (strip_cr title) ≡ found
    → body_in (map strip_cr lines) ≡ body_of found (map strip_cr after)
unfolding body_in
by_title lines title after found first is = ap (λ (ls : List (List ℕ)). body_in (map strip_cr ls)) first ∙ ap (λ (o : Option Format). body_of o (map strip_cr after)) is
