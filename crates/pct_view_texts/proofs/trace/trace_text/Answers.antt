use Rattle.pct_names.proofs.Names.{ap, line_text, Verdict, verdict_line, ◌++◌, ◌∙◌}
use Rattle.pct_view_texts.specs.TextBuffers.{text_in}
use Rattle.pct_view_texts.specs.Trace.{trace_text}
use Rattle.pct_view_texts.proofs.Appending.{first_texts}
use Rattle.pct_view_texts.proofs.trace.trace_text.Goals as goal

pub returns-clause-text : goal.returns-clause-text
unfolding trace_text
returns-clause-text c =
    λ after is.
    first_texts _ _ _ _ _ c.new-text.ensures c.in_ok-illegal.ensures.text
    (c.in_ok-push_verdict.ensures ∙ ap (λ (verdict : Verdict). text_in c.push_steps.new.text ++ line_text (verdict_line verdict)) (c.verdict.ensures.value after is))
