-- The schedule of a text, or the prefix in it, is that of its header and the lines after it.
use Rattle.pct_names.proofs.Names.{◌+◌, [], ap, Bool, cond, Config, Err, false, header_of, keyword_text, lines_of, List, map, None, Option}
use Rattle.pct_names.proofs.Names.{refl, sched_of, Schedule, schedule_at, schedule_from, Some, strip_cr, true, with_config, ℕ, ◌∙◌, ◌∷◌}
use Rattle.pct_names.proofs.Names.{◌≡◌}
use Rattle.pct_model.specs.declared.refusal.ScheduleWhy.TheVariants as why
use Rattle.pct_model.specs.declared.keyword.Keyword.TheVariants as keyword
use Rattle.pct_model.specs.Schedule.{begins}
use Rattle.pct_schedule.specs.declared.end.End.{End}
use Rattle.pct_schedule.specs.declared.end.End.TheVariants as end
use Rattle.pct_schedule.specs.Ends.{entries_to, schedule_to}
use Rattle.pct_schedule.specs.Memory.{header_line}
use Rattle.pct_schedule.specs.Prefix.{prefix_at, prefix_from}

-- a header at line n, with the lines after it
abbrev pub at_header : End → ℕ → Option Config → List (List ℕ) → Schedule
at_header to n None lines = Err (n, why.BadHeader)
at_header to n (Some config) lines = with_config config (entries_to to (n + 1) config 0 (map strip_cr lines))

-- the header that was found, with the lines after it
abbrev pub from_header : End → Option (ℕ × List ℕ × List (List ℕ)) → Schedule
from_header to None = Err (1, why.BadHeader)
from_header to (Some found) = at_header to found.0 (header_of found.1) found.2

-- the lines from line n on
abbrev lines_to : End → ℕ → List (List ℕ) → Schedule
lines_to end.Required n lines = schedule_from n lines
lines_to end.Optional n lines = prefix_from n lines

-- a header is the same for both ways of reading
schedule_at_header : (n : ℕ) (o : Option Config) (lines : List (List ℕ)) → schedule_at n o (map strip_cr lines) ≡ at_header end.Required n o lines
schedule_at_header n None lines = refl
schedule_at_header n (Some config) lines = refl

prefix_at_header : (n : ℕ) (o : Option Config) (lines : List (List ℕ)) → prefix_at n o (map strip_cr lines) ≡ at_header end.Optional n o lines
prefix_at_header n None lines = refl
prefix_at_header n (Some config) lines = refl

-- the first line and the lines after it
at_first_line : (to : End) (n : ℕ) (line : List ℕ) (lines : List (List ℕ))
    → lines_to to n (line ∷ map strip_cr lines) ≡ cond (begins (keyword_text keyword.Schedule) line) (at_header to n (header_of line) lines) (lines_to to (n + 1) (map strip_cr lines))
unfolding schedule_from prefix_from
at_first_line end.Required n line lines = ap (λ (s : Schedule). cond (begins (keyword_text keyword.Schedule) line) s (schedule_from (n + 1) (map strip_cr lines))) (schedule_at_header n (header_of line) lines)
at_first_line end.Optional n line lines = ap (λ (s : Schedule). cond (begins (keyword_text keyword.Schedule) line) s (prefix_from (n + 1) (map strip_cr lines))) (prefix_at_header n (header_of line) lines)

-- the first line is the header, or the header is in the lines after it
step_same : (found : Bool) (to : End) (n : ℕ) (line : List ℕ) (lines : List (List ℕ)) (rest : Schedule) → rest ≡ from_header to (header_line (n + 1) lines)
    → cond found (at_header to n (header_of line) lines) rest ≡ from_header to (cond found (Some (n, line, lines)) (header_line (n + 1) lines))
step_same true to n line lines rest e = refl
step_same false to n line lines rest e = e

-- the lines from line n on are read from their header on
by_header : (to : End) (n : ℕ) (lines : List (List ℕ)) → lines_to to n (map strip_cr lines) ≡ from_header to (header_line n lines)
unfolding schedule_from prefix_from header_line
by_header end.Required n [] = refl
by_header end.Optional n [] = refl
by_header to n (line ∷ lines) =
    at_first_line to n (strip_cr line) lines
    ∙ step_same (begins (keyword_text keyword.Schedule) (strip_cr line)) to n (strip_cr line) lines (lines_to to (n + 1) (map strip_cr lines)) (by_header to (n + 1) lines)

-- a text is read from its first line on
text_same : (to : End) (text : List ℕ) → schedule_to to text ≡ lines_to to 1 (map strip_cr (lines_of text))
unfolding sched_of
text_same end.Required text = refl
text_same end.Optional text = refl

-- what a text gives is what its header and the lines after it give
pub from_its_header : (to : End) (text : List ℕ) (header : Option (ℕ × List ℕ × List (List ℕ))) → header_line 1 (lines_of text) ≡ header → schedule_to to text ≡ from_header to header
from_its_header to text header e = text_same to text ∙ by_header to 1 (lines_of text) ∙ ap (from_header to) e
