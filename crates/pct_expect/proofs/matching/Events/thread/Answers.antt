use Rattle.pct_names.proofs.Names.{[], refl}
use Rattle.pct_expect.proofs.EventLines.{thread_read}
use Rattle.pct_expect.proofs.matching.Events.thread.Goals as goal

pub returns-in-Some : goal.returns-in-Some
returns-in-Some c =
    thread_read c.self.inside.text.now c.self.inside.lines.now c.args.self.now c.self.view_is c.part_at.result.now c.in-Some.word.now _ c.args.index _ c.requires c.part_at.ensures c.in-Some.ensures.words refl

pub returns-in-None : goal.returns-in-None
returns-in-None c =
    thread_read c.self.inside.text.now c.self.inside.lines.now c.args.self.now c.self.view_is c.part_at.result.now [] _ c.args.index _ c.requires c.part_at.ensures c.in-None.ensures.words refl
