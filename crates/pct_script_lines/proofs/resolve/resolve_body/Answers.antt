use Rattle.pct_names.proofs.Names.{ap, nil_from_length, Some, sym, ◌∙◌, ◌≡◌}
use Rattle.pct_script_lines.specs.Symbols.{symbols_of}
use Rattle.pct_grammar.specs.Resolving.{resolve_statement}
use Rattle.pct_script_lines.proofs.ResolvingSteps.{body_goes_on, body_ends, known_line, unknown_line, statements_after, none_unknown}
use Rattle.pct_script_lines.proofs.resolve.resolve_body.Goals as goal

pub returns-in_default-resolve_statement : goal.returns-in_default-resolve_statement
returns-in_default-resolve_statement c =
    let names = symbols_of c.args.symbols.now in
    sym c.loop-line.invariant.unknown
    ∙ unknown_line names c.args.locals.now c.in-Some.line.now c.in-Some.after.now c.loop-line.rest.now (sym c.in_default-resolve_statement.ensures) c.in-Some.ensures.cases.0

pub loop-line-preserved : goal.loop-line-preserved
loop-line-preserved c =
    let names = symbols_of c.args.symbols.now in
    let locals = c.args.locals.now in
    let line = c.in-Some.line.now in
    let after = c.in-Some.after.now in
    let rest = c.loop-line.rest.now in
    let stmt : resolve_statement names locals line.1 ≡ Some c.in-Some-resolve_statement.stmt = sym c.in-Some-resolve_statement.ensures in
    record {
      read = rw c.in_ok-push.ensures.items (body_goes_on names locals c.loop-line.stmts.items c.in-Some-resolve_statement.stmt line after rest _ stmt c.in-Some.ensures.cases.0 c.loop-line.invariant.read);
      unknown = known_line names locals c.in-Some-resolve_statement.stmt line after rest stmt c.in-Some.ensures.cases.0 ∙ c.loop-line.invariant.unknown;
      statements = (statements_after line after rest c.in-Some.ensures.cases.0 c.loop-line.invariant.statements).1;
    }

pub returns : goal.returns
returns c =
    let names = symbols_of c.args.symbols.now in
    let locals = c.args.locals.now in
    let rest = c.loop-line.rest.now in
    let none = nil_from_length rest c.in_default.ensures.cases in (
      sym c.loop-line.invariant.unknown ∙ none_unknown names locals rest none,
      body_ends names locals c.loop-line.stmts.items rest _ none c.loop-line.invariant.read ∙ sym (ap (λ xs. Some xs) c.of.ensures),
    )
