use Rattle.pct_names.proofs.Names.{◌++◌, [], Family, flat_map, if◌then◌else◌, is_some, take, ◌≡◌}
use Rattle.pct_engine_laws.specs.Seen.{SeenProcess}
use Rattle.pct_place.specs.ShownProcesses.{ShowsProcess}
use Rattle.pct_step_context.specs.Programs.{ProgramValue}
use Rattle.pct_view_laws.specs.SeenViews.{listed_on}
use Rattle.pct_view_texts.specs.ListedLines.{lines_by}
use Rattle.pct_view_texts.specs.TextBuffers.{text_in}
use Rattle.pct_view_texts.proofs.choices.push_threads.Given as goal

-- the threads on the first slots were appended
abbrev pub invariant-loop-slot : goal.invariant-loop-slot
invariant-loop-slot l =
    (program : ProgramValue) (family : Family) (p : SeenProcess) → ShowsProcess program family p l.process
    → text_in l.text ≡ text_in l.initial.text ++ flat_map (lines_by l.listing.source.lines.now l.listing.source.script.now l.listing.goes_on) (if is_some p.ended then [] else flat_map (listed_on program.script program.config family p) (take l.slot p.slots))
