use Rattle.pct_threads.proofs.RowLemmas.{called_step}
use Rattle.pct_threads.proofs.held.call.Goals as goal

pub returns-clause-step : goal.returns-clause-step
returns-clause-step c =
    let words = c.words_of_kind-number in
    called_step c.args.row.now c.args.stacks.now c.write_words.new.stacks c.args.slot c.args.func c.args.arg words.result.0 words.result.1 c.args.kind c.requires.held c.requires.room words.ensures c.write_words.ensures
