use Rattle.pct_names.proofs.Names.{flat_map, List, slice_get}
use Rattle.pct_engine_laws.specs.Seen.{Seen, seen}
use Rattle.pct_step_context.specs.Programs.{ProgramValue}
use Rattle.pct_view_laws.specs.Listed.{ListedThread}
use Rattle.pct_view_texts.specs.ListedLines.{lines_by}
use Rattle.pct_view_texts.specs.TextBuffers.{Appends}
use Rattle.pct_view_texts.proofs.ListedTexts.{numbers_fit, of_shown}
use Rattle.pct_view_texts.proofs.choices.push_process.Goals as goal

pub push_threads-requires : goal.push_threads-requires
push_threads-requires c =
    let engine = c.args.engine.now in
    let v : Seen = seen engine.config.slots c.requires.0.world in
    let program : ProgramValue = record { script = engine.script; config = engine.config } in
    numbers_fit program v (slice_get v.processes c.args.index) c.in-Some.process (c.in-Some.ensures.shown c.requires.0 c.requires.1)

pub returns-in-Some-clause-text : goal.returns-in-Some-clause-text
returns-in-Some-clause-text c = λ after is.
    let engine = c.args.engine.now in
    let listing = c.args.listing in
    let v : Seen = seen engine.config.slots after.world in
    let program : ProgramValue = record { script = engine.script; config = engine.config } in
    of_shown (λ (listed : List ListedThread). Appends c.args.text.now c.push_threads.new.text (flat_map (lines_by listing.source.lines.now listing.source.script.now listing.goes_on) listed) c.push_threads.result) program v (slice_get v.processes c.args.index) c.in-Some.process (c.in-Some.ensures.shown after is)
    (λ family p shown. c.push_threads.ensures program family p shown)
