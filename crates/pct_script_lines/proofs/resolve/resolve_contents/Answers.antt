use Rattle.pct_names.proofs.Names.{err_from_is_err_and, functions_in, sym, unknown_name, ◌∙◌}
use Rattle.pct_script_lines.specs.UnknownNames.{unknown_in_sections}
use Rattle.pct_script_lines.specs.Symbols.{symbols_of}
use Rattle.pct_script_lines.proofs.ContentsSteps.{unknown_is, contents_are_read}
use Rattle.pct_script_lines.proofs.ResolvingSteps.{found_same}
use Rattle.pct_script_lines.proofs.resolve.resolve_contents.Goals as goal

pub returns-in_err-funcs : goal.returns-in_err-funcs
returns-in_err-funcs c =
    let lines = c.args.lines.now in
    let names = symbols_of c.in_ok-symbols.symbols in
    let fault = c.in_err-funcs.field-0.0 in
    let p = err_from_is_err_and c.from_residual-in_err-funcs.result c.from_residual-in_err-funcs.ensures.1 in
    rw (p.1, p.2) (found_same fault (unknown_in_sections names (functions_in lines)) (unknown_name lines) (unknown_is names lines c.in_ok-symbols.ensures) c.in_err-funcs.ensures)

pub returns : goal.returns
returns c =
    let lines = c.args.lines.now in
    let names = symbols_of c.in_ok-symbols.symbols in
    let each = c.in_ok-symbols.ensures in (
      sym (unknown_is names lines each) ∙ c.in_ok-funcs.ensures.0,
      contents_are_read names lines each c.in_ok-funcs.funcs c.into_names.result c.into_names-2.result c.into_names-3.result c.into_names-4.result c.in_ok-sems.sems c.in_ok-funcs.ensures.1
          c.into_names.ensures c.into_names-2.ensures c.into_names-3.ensures c.into_names-4.ensures c.in_ok-sems.ensures,
    )
