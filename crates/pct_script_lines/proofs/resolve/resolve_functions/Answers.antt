use Rattle.pct_names.proofs.Names.{ap, functions_in, Section, Some, sym, ◌∙◌}
use Rattle.pct_script_lines.specs.Symbols.{symbols_of}
use Rattle.pct_script_lines.proofs.ResolvingSteps.{functions_take, no_functions, section_statements, ready_after, functions_go_on, functions_end, known_section, no_section_unknown}
use Rattle.pct_script_lines.proofs.resolve.resolve_functions.Goals as goal

pub resolve_function-requires-clause-statements : goal.resolve_function-requires-clause-statements
resolve_function-requires-clause-statements c = section_statements c.loop-header.rest.now c.in-Some.header.now c.in-Some.body.now c.in-Some.after.now c.in-Some.ensures.section

pub loop-header-preserved : goal.loop-header-preserved
loop-header-preserved c =
    let names = symbols_of c.args.symbols.now in
    let header = c.in-Some.header.now in
    let body = c.in-Some.body.now in
    let after = c.in-Some.after.now in
    let rest = c.loop-header.rest.now in
    let begins = c.in-Some.ensures.section in
    let take = functions_take rest header body after begins (sym c.if-not-declares.ensures) in
    let section : Section = record { header = header; body = body } in
    record {
      read = rw c.in_ok-push.ensures.items (functions_go_on names c.loop-header.funcs.items c.in_ok-func.func section (functions_in after) (functions_in rest) _ c.in_ok-func.ensures.1 take c.loop-header.invariant.read);
      unknown = known_section names section (functions_in after) (functions_in rest) c.in_ok-func.ensures.0 take ∙ c.loop-header.invariant.unknown;
      prefix = begins.after;
      ready = (ready_after rest header body after begins c.loop-header.invariant.ready).1;
    }

pub returns : goal.returns
returns c =
    let names = symbols_of c.args.symbols.now in
    let none = no_functions c.loop-header.rest.now c.in_default.ensures.section in (
      sym c.loop-header.invariant.unknown ∙ no_section_unknown names (functions_in c.loop-header.rest.now) none,
      functions_end names c.loop-header.funcs.items (functions_in c.loop-header.rest.now) _ none c.loop-header.invariant.read ∙ sym (ap (λ xs. Some xs) c.of.ensures),
    )
