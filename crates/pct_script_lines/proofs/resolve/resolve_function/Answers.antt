use Rattle.pct_names.proofs.Names.{ap, ◌∙◌}
use Rattle.pct_script_lines.specs.Symbols.{symbols_of}
use Rattle.pct_grammar.specs.Resolving.{first_name}
use Rattle.pct_script_lines.proofs.ResolvingSteps.{function_is}
use Rattle.pct_script_lines.proofs.resolve.resolve_function.Goals as goal

pub returns : goal.returns
returns c =
    function_is (symbols_of c.args.symbols.now) (record { header = c.args.header.now; body = c.args.body.now }) c.in_ok-locals.locals c.into_names.result c.first_name.result c.in_ok-body.body
    c.in_ok-locals.ensures c.into_names.ensures (c.first_name.ensures ∙ ap (λ words. first_name words) c.as_slice.ensures) c.in_ok-body.ensures.0 c.in_ok-body.ensures.1
