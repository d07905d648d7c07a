use Rattle.pct_names.proofs.Names.{sym, ◌∙◌}
use Rattle.pct_text.proofs.SplitOnce.{split_nowhere, split_at_index}
use Rattle.pct_text.proofs.line.split_once.Goals as goal

pub returns-in_err-index : goal.returns-in_err-index
returns-in_err-index c = rw c.from_residual.ensures (sym (split_nowhere c.args.delimiter c.args.bytes.now (sym c.in_err-index.ensures)))

pub returns : goal.returns
returns c =
    let back = sym c.split_at.ensures.back ∙ c.in_ok-after.ensures.cases.0 in
    rw c.split_at.ensures.front (sym (split_at_index c.args.delimiter c.args.bytes.now c.in_ok-index.index c.in_ok-after.field-0-0.now c.in_ok-after.after.now (sym c.in_ok-index.ensures) back))
