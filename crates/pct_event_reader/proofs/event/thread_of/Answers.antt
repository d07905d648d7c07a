use Rattle.pct_event_reader.proofs.ThreadWords.{has_two_parts, process_positive, thread_positive, thread_read}
use Rattle.pct_event_reader.proofs.event.thread_of.Goals as goal

pub unwrap-requires : goal.unwrap-requires
unwrap-requires c = has_two_parts c.split_once.result c.args.word.now c.split_once.ensures c.requires

pub positive-requires : goal.positive-requires
positive-requires c = process_positive c.split_once.result c.args.word.now c.unwrap.result c.split_once.ensures c.unwrap.ensures c.requires

pub positive-requires-2 : goal.positive-requires-2
positive-requires-2 c = thread_positive c.split_once.result c.args.word.now c.unwrap.result c.split_once.ensures c.unwrap.ensures c.requires

pub returns-clause-thread : goal.returns-clause-thread
returns-clause-thread c =
    thread_read c.split_once.result c.args.word.now c.unwrap.result c.split_once.ensures c.unwrap.ensures c.requires
    c.positive.result c.positive-2.result c.positive.ensures.value c.positive-2.ensures.value
