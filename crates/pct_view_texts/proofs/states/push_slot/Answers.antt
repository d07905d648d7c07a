use Rattle.pct_names.proofs.Names.{filter}
use Rattle.pct_process.specs.ProcessViews.{slot_on}
use Rattle.pct_view_laws.specs.Listed.{is_unended}
use Rattle.pct_view_texts.proofs.StateTexts.{one_state}
use Rattle.pct_view_texts.proofs.states.push_slot.Goals as goal

pub push_thread_values-requires : goal.push_thread_values-requires
push_thread_values-requires c =
    (one_state c.args.state.now.shared.keys (filter is_unended (slot_on c.args.state.now.slots c.args.slot).here) c.in-Some.thread c.in-Some.ensures).2.within
