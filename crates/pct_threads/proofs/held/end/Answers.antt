use Rattle.pct_names.proofs.Names.{ap, refl, ◌∙◌}
use Rattle.pct_stack.specs.Stacks.{words_at}
use Rattle.pct_threads.specs.declared.row.Row.{Row}
use Rattle.pct_threads.specs.Slots.{after_change, after_end}
use Rattle.pct_threads.specs.Rows.{slot_in}
use Rattle.pct_threads.proofs.RowLemmas.{kept_step, ended_slot}
use Rattle.pct_threads.proofs.held.end.Goals as goal

pub give_unless-requires : goal.give_unless-requires
give_unless-requires c = c.requires.taken

pub returns : goal.returns
returns c =
    let row = c.args.row.now in
    let old = c.args.stacks.now in
    let slot = c.args.slot in
    let r = c.end.new.self in
    kept_step r.occupied row r old c.give_unless.new.stacks slot (after_change (after_end c.args.value)) c.requires refl c.give_unless.ensures (ap (λ (q : Row). q.depth) c.end.ensures) (ap (λ (q : Row). q.end) c.end.ensures) (ap (λ (q : Row). slot_in q (words_at old slot)) c.end.ensures ∙ ended_slot c.args.value row (words_at old slot))
