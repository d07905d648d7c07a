use Rattle.pct_names.proofs.Names.{ap, arith, contents_of, drop, err_from_is_err_and, length, Ok, syntax_of}
use Rattle.pct_io.proofs.WritesInTurn.{Writes-nothing, Writes-then, Writes-fails}
use Rattle.pct_printer.proofs.Printed.{argument_next, no_more_kinds, no_more_arguments}
use Rattle.pct_printer.proofs.Writings.{Writes-as}
use Rattle.pct_printer.proofs.printer.write_arguments.Goals as goal

pub returns-in_default-argument_kind : goal.returns-in_default-argument_kind
returns-in_default-argument_kind g c =
    let argument_kinds = (syntax_of c.args.line_kind).argument_kinds (length c.args.arguments.now) in
    let none = no_more_kinds (contents_of c.args.script.now) c.args.locals.now argument_kinds c.loop-argument.at c.loop-argument.rest.now c.in_default-argument_kind.ensures in
    c.loop-argument.invariant.completes c.loop-argument.sink (Ok tt) (Writes-as none (Writes-nothing c.loop-argument.sink))

pub returns-in_err-write_argument : goal.returns-in_err-write_argument
returns-in_err-write_argument g c =
    let argument_kinds = (syntax_of c.args.line_kind).argument_kinds (length c.args.arguments.now) in
    let p = err_from_is_err_and c.from_residual.result c.from_residual.ensures.1 in
    let next =
    argument_next (contents_of c.args.script.now) c.args.locals.now argument_kinds c.loop-argument.at c.in-Some-argument_kind.argument_kind c.in-Some.argument.now c.loop-argument.rest.now c.in-Some.after.now
    c.in-Some-argument_kind.ensures c.in-Some.ensures.cases.0
    in
    rw p.1 (c.loop-argument.invariant.completes _ _ (Writes-as next (Writes-fails _ c.in_err-write_argument.ensures)))

pub loop-argument-preserved : goal.loop-argument-preserved
loop-argument-preserved g c =
    let argument_kinds = (syntax_of c.args.line_kind).argument_kinds (length c.args.arguments.now) in
    let next =
    argument_next (contents_of c.args.script.now) c.args.locals.now argument_kinds c.loop-argument.at c.in-Some-argument_kind.argument_kind c.in-Some.argument.now c.loop-argument.rest.now c.in-Some.after.now
    c.in-Some-argument_kind.ensures c.in-Some.ensures.cases.0
    in
    record {
      few = omega (arith, c.loop-argument.invariant.few, ap length c.in-Some.ensures.cases.0);
      completes = λ new r writes. c.loop-argument.invariant.completes new r (Writes-as next (Writes-then r c.in_ok-write_argument.ensures writes));
    }

pub returns : goal.returns
returns g c =
    let argument_kinds = (syntax_of c.args.line_kind).argument_kinds (length c.args.arguments.now) in
    let none = no_more_arguments (contents_of c.args.script.now) c.args.locals.now (drop c.loop-argument.at argument_kinds) c.loop-argument.rest.now c.in_default.ensures.cases in
    c.loop-argument.invariant.completes c.loop-argument.sink (Ok tt) (Writes-as none (Writes-nothing c.loop-argument.sink))
