-- The text of a tally, part by part.
use Rattle.pct_names.proofs.Names.{◌++◌, [], ap, flat_map-map, line_text, map, refl, text_of, ℕ, ◌∙◌, ◌≡◌}
use Rattle.std.proofs.Common.{append-nil, append_assoc, List, ◌∷◌}
use Rattle.std.proofs.lemmas.Grind.{flat_map-append}
use Rattle.std.specs.Prelude.{codes, decimal}
use Rattle.std.specs.List.{flat_map}
use Rattle.pct_model.specs.declared.keyword.Keyword.TheVariants as keyword
use Rattle.pct_model.specs.Keywords.{keyword_text}
use Rattle.pct_tallies.specs.declared.range_tally.RangeTally.{RangeTally}
use Rattle.pct_tallies.specs.declared.range_tally.Subject.{Subject}
use Rattle.pct_tallies.specs.declared.tally.Tally.{Tally}
use Rattle.pct_tallies.specs.TallyTexts.{count_lines, number_line, range_lines, stop_line, subject_lines, tally_lines, total_lines, verdict_count_line, verdict_lines}

pub counts-text : (t : Tally) → text_of (count_lines t) ≡ text_of (verdict_lines t) ++ (flat_map (λ s. line_text (stop_line s)) t.stops ++ text_of (total_lines t))
unfolding count_lines
counts-text t =
    let verdicts = verdict_lines t in
    let stops = map stop_line t.stops in
    let totals = total_lines t in
    flat_map-append line_text (verdicts ++ stops) totals
    ∙ ap (λ text. text ++ text_of totals) (flat_map-append line_text verdicts stops)
    ∙ append_assoc (text_of verdicts) (text_of stops) (text_of totals)
    ∙ ap (λ text. text_of verdicts ++ (text ++ text_of totals)) (flat_map-map line_text stop_line t.stops)

pub tally-text : (seeds : ℕ) (t : Tally) → text_of (tally_lines seeds t) ≡ line_text (number_line keyword.Sample seeds) ++ text_of (count_lines t)
unfolding tally_lines
tally-text seeds t = refl

pub verdicts-text : (t : Tally) → text_of (verdict_lines t)
    ≡ line_text (verdict_count_line keyword.Complete t.complete) ++ (line_text (verdict_count_line keyword.Deadlock t.deadlock) ++ line_text (verdict_count_line keyword.Budget t.budget))
unfolding verdict_lines
verdicts-text t =
    ap (λ rest. line_text (verdict_count_line keyword.Complete t.complete) ++ (line_text (verdict_count_line keyword.Deadlock t.deadlock) ++ rest))
    (append-nil (line_text (verdict_count_line keyword.Budget t.budget)))

pub totals-text : (t : Tally) → text_of (total_lines t)
    ≡ line_text (number_line keyword.Joined t.joined) ++ (line_text (number_line keyword.Canceled t.canceled) ++ (line_text (number_line keyword.Least t.least) ++ line_text (number_line keyword.Most t.most)))
unfolding total_lines
totals-text t =
    ap (λ rest. line_text (number_line keyword.Joined t.joined) ++ (line_text (number_line keyword.Canceled t.canceled) ++ (line_text (number_line keyword.Least t.least) ++ rest)))
    (append-nil (line_text (number_line keyword.Most t.most)))

-- the line `script HEX`, and the line of the limits
abbrev pub script_line : Subject → List (List ℕ)
script_line s = keyword_text keyword.Script ∷ s.digest ∷ []

abbrev pub limits_line : Subject → List (List ℕ)
limits_line s = codes "limits" ∷ decimal s.limits.budget ∷ decimal s.limits.passes ∷ decimal s.limits.slots ∷ []

-- the line `tally FIRST LAST`
abbrev pub seeds_line : RangeTally → List (List ℕ)
seeds_line r = codes "tally" ∷ decimal r.seeds.first ∷ decimal r.seeds.last ∷ []

pub subject-text : (s : Subject) → text_of (subject_lines s) ≡ line_text (script_line s) ++ line_text (limits_line s)
unfolding subject_lines
subject-text s = ap (λ rest. line_text (script_line s) ++ rest) (append-nil (line_text (limits_line s)))

pub range-text : (r : RangeTally) → text_of (range_lines r) ≡ line_text (seeds_line r) ++ (text_of (subject_lines r.subject) ++ text_of (count_lines r.tally))
unfolding range_lines
range-text r = ap (λ rest. line_text (seeds_line r) ++ rest) (flat_map-append line_text (subject_lines r.subject) (count_lines r.tally))
