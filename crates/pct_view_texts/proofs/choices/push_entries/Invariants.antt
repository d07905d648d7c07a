use Rattle.pct_names.proofs.Names.{◌++◌, [], Family, flat_map, take, ◌∷◌, ◌≡◌}
use Rattle.pct_engine_laws.specs.Seen.{SeenProcess}
use Rattle.pct_place.specs.ShownProcesses.{ShowsProcess}
use Rattle.pct_step_context.specs.Programs.{ProgramValue}
use Rattle.pct_view_laws.specs.Listed.{ListedThread}
use Rattle.pct_views.specs.ShownThreads.{listed_at}
use Rattle.pct_view_texts.specs.ListedLines.{choice_line}
use Rattle.pct_view_texts.specs.TextBuffers.{text_in}
use Rattle.pct_view_texts.proofs.choices.push_entries.Given as goal

-- the entries of the first choices were appended
abbrev pub invariant-loop-index : goal.invariant-loop-index
invariant-loop-index l =
    (program : ProgramValue) (family : Family) (p : SeenProcess) (listed : ListedThread) → ShowsProcess program family p l.process → listed_at program family p l.slot ≡ listed ∷ []
    → text_in l.text ≡ text_in l.initial.text ++ flat_map (choice_line l.view.pid l.view.tid) (take l.index listed.choices)
