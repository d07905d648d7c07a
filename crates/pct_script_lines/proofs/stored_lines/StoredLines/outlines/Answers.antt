use Rattle.pct_names.proofs.Names.{◌++◌, ap, ◌∙◌}
use Rattle.pct_script_lines.specs.Outlines.{outlines_in, outlines_of}
use Rattle.pct_script_lines.proofs.LineOutlines.{outlines_together}
use Rattle.pct_script_lines.proofs.stored_lines.StoredLines.outlines.Goals as goal

pub returns : goal.returns
returns c =
    let kept = c.self.inside.lines.items in
    ap (λ lines. outlines_of lines ++ outlines_in c.again.result) c.deref.ensures.value ∙ ap (λ after. outlines_of kept ++ outlines_in after) c.again.ensures
    ∙ outlines_together kept c.self.inside.after c.self.invariant ∙ ap outlines_of c.self.view_is
