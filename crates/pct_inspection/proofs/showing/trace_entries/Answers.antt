use Rattle.pct_names.proofs.Names.{◌++◌, ap, List, ℕ, ◌∙◌}
use Rattle.pct_inspection.specs.Inspection.{notice}
use Rattle.pct_inspection.proofs.showing.trace_entries.Goals as goal

pub returns : goal.returns
returns c =
    let runs = c.verdict.ensures.runs in
    let traced = c.in_ok-text in
    record {
      engine = c.trace_text.new.engine;
      follows = traced.ensures.follows;
      after = runs.0;
      is_run = runs.1;
      text_is = c.in_ok-push_notice.ensures ∙ ap (λ (text : List ℕ). text ++ notice traced.field-0.illegal) (traced.ensures.text runs.0 runs.1);
      verdict_is = c.verdict.ensures.value runs.0 runs.1;
    }
