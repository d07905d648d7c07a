use Rattle.pct_names.proofs.Names.{◌++◌, filter, flat_map, take, ◌≡◌}
use Rattle.pct_engine_laws.specs.Seen.{threads_on}
use Rattle.pct_view_laws.specs.Listed.{is_unended}
use Rattle.pct_view_laws.specs.ListedProcesses.{ListedProcess}
use Rattle.pct_view_texts.specs.ListedLines.{values_lines}
use Rattle.pct_view_texts.specs.TextBuffers.{text_in}
use Rattle.pct_view_texts.proofs.states.push_threads.Given as goal

-- the lines of the threads on the first slots were appended
abbrev pub invariant-loop-slot : goal.invariant-loop-slot
invariant-loop-slot l =
    (p : ListedProcess) → p.pid ≡ l.pid → p.shared ≡ l.state.shared
    → text_in l.text ≡ text_in l.initial.text ++ flat_map (values_lines l.source.lines.now l.source.script.now p) (filter is_unended (threads_on (take l.slot l.state.slots)))
