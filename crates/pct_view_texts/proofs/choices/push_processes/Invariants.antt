use Rattle.pct_engine.specs.EngineStates.{IsRunOf}
use Rattle.pct_engine_laws.specs.Seen.{seen}
use Rattle.pct_names.proofs.Names.{Run}
use Rattle.pct_view_texts.specs.ListedLines.{lines_by}
use Rattle.pct_view_texts.specs.TextBuffers.{text_in}
use Rattle.pct_view_texts.proofs.ListedTexts.{AreAppended}
use Rattle.pct_view_texts.proofs.choices.push_processes.Given as goal

-- the threads of the first processes were appended
abbrev pub invariant-loop-index : goal.invariant-loop-index
invariant-loop-index l =
    (after : Run) → IsRunOf l.engine after
    → AreAppended (text_in l.initial.text) (text_in l.text) (lines_by l.listing.source.lines.now l.listing.source.script.now l.listing.goes_on) l.engine.script l.engine.config (seen l.engine.config.slots after.world) l.index
