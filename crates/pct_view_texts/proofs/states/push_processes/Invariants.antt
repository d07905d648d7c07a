use Rattle.pct_engine.specs.EngineStates.{IsRunOf}
use Rattle.pct_engine_laws.specs.Seen.{seen}
use Rattle.pct_names.proofs.Names.{Run}
use Rattle.pct_view_texts.specs.ListedLines.{process_lines_seen}
use Rattle.pct_view_texts.specs.TextBuffers.{text_in}
use Rattle.pct_view_texts.proofs.StateTexts.{AreAppended}
use Rattle.pct_view_texts.proofs.states.push_processes.Given as goal

-- the lines of the first processes were appended
abbrev pub invariant-loop-index : goal.invariant-loop-index
invariant-loop-index l =
    (after : Run) → IsRunOf l.engine after
    → AreAppended (text_in l.initial.text) (text_in l.text) (process_lines_seen l.source.lines.now l.source.script.now) (seen l.engine.config.slots after.world).processes l.index
