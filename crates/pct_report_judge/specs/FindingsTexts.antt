-- The text of what `judge` finds in a report.
use Rattle.std.specs.Prelude.{ℕ, ◌-◌, List, [], ◌∷◌, Option, Some, None, codes, decimal, slice_get}
use Rattle.std.specs.List.{flat_map}
use Rattle.std.specs.Option.{option_map_or}
use Rattle.pct_model.specs.Keywords.{line_text}
use Rattle.pct_expect.specs.declared.span.Span.{Span}
use Rattle.pct_expect.specs.Events.{part_at}
use Rattle.pct_event_judge.specs.declared.findings.EventLaw.{EventLaw}
use Rattle.pct_event_judge.specs.declared.findings.EventLaw.TheVariants as law
use Rattle.pct_event_judge.specs.declared.findings.Findings.{Findings}
use Rattle.pct_event_judge.specs.Findings.{event_laws, found_of}

-- the word for a law
unfoldable pub law_text : EventLaw → List ℕ
law_text law.Once = codes "once"
law_text law.RanAll = codes "ran_all"
law_text law.AfterEnd = codes "after_end"
law_text law.Process = codes "process"
law_text law.Slot = codes "slot"
law_text law.Join = codes "join"
law_text law.Cond = codes "cond"
law_text law.CallOnce = codes "call_once"
law_text law.Requests = codes "requests"
law_text law.Keys = codes "keys"
law_text law.Leftover = codes "leftover"

module _ (text : List ℕ) (lines : List Span) where
  -- the line of event k of the report
  abbrev pub event_line : ℕ → List ℕ
  event_line k = option_map_or (part_at text) (slice_get lines (k - 1)) []

  -- `LAW kept`, or `LAW event K` and the line of the event
  abbrev pub finding : List ℕ → Option ℕ → List (List ℕ)
  finding name None = name ∷ codes "kept" ∷ []
  finding name (Some k) = name ∷ codes "event" ∷ decimal k ∷ event_line k ∷ []

  -- the line of a law
  abbrev pub law_line : Findings → EventLaw → List ℕ
  law_line found law = line_text (finding (law_text law) (found_of law found))

  -- the text of what is found of some events: a line for each law
  abbrev pub findings_text : Findings → List ℕ
  findings_text found = flat_map (law_line found) event_laws
