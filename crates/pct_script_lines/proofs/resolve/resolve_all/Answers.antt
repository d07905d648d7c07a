use Rattle.pct_names.proofs.Names.{ap, argument_kinds_in, arith, length, nil_from_length, None, option_map, slice_get, Some, sym, ◌∙◌, ◌≡◌}
use Rattle.pct_script_lines.specs.Symbols.{symbols_of}
use Rattle.pct_script_lines.proofs.ResolvingTokens.{the_argument_kind, room_left, word_replaced, word_unknown, word_without_kind, words_end}
use Rattle.pct_script_lines.proofs.resolve.resolve_all.Goals as goal

pub returns-in_err-argument_kind : goal.returns-in_err-argument_kind
returns-in_err-argument_kind c =
    let line = c.args.line.now in
    let names = symbols_of c.args.symbols.now in
    let prefix = c.loop-word.arguments.items in
    let here : slice_get (argument_kinds_in line) (length prefix) ≡ None =
    the_argument_kind line c.as_slice-words.result.now c.len.result (length prefix) None c.as_slice-words.ensures c.len.ensures.value c.in_err-argument_kind.ensures in
    let none = word_without_kind names c.args.locals.now (argument_kinds_in line) prefix c.in-Some.word.now c.in-Some.after.now c.loop-word.rest.now _ here c.in-Some.ensures.cases.0 c.loop-word.invariant in
    ap (λ r. option_map (λ arguments. arguments.items) r) c.from_residual.ensures ∙ sym none

pub returns-in_err-resolve : goal.returns-in_err-resolve
returns-in_err-resolve c =
    let line = c.args.line.now in
    let names = symbols_of c.args.symbols.now in
    let prefix = c.loop-word.arguments.items in
    let here : slice_get (argument_kinds_in line) (length prefix) ≡ Some c.in_ok-argument_kind.argument_kind =
    the_argument_kind line c.as_slice-words.result.now c.len.result (length prefix) (Some c.in_ok-argument_kind.argument_kind) c.as_slice-words.ensures c.len.ensures.value c.in_ok-argument_kind.ensures in
    let none = word_unknown names c.args.locals.now (argument_kinds_in line) prefix c.in_ok-argument_kind.argument_kind c.in-Some.word.now c.in-Some.after.now c.loop-word.rest.now _ here
    (sym c.in_err-resolve.ensures) c.in-Some.ensures.cases.0 c.loop-word.invariant in
    ap (λ r. option_map (λ arguments. arguments.items) r) c.from_residual-in_err-resolve.ensures ∙ sym none

pub push-requires : goal.push-requires
push-requires c =
    let line = c.args.line.now in
    let prefix = c.loop-word.arguments.items in
    let here : slice_get (argument_kinds_in line) (length prefix) ≡ Some c.in_ok-argument_kind.argument_kind =
    the_argument_kind line c.as_slice-words.result.now c.len.result (length prefix) (Some c.in_ok-argument_kind.argument_kind) c.as_slice-words.ensures c.len.ensures.value c.in_ok-argument_kind.ensures in
    (omega arith, room_left line (length prefix) c.in_ok-argument_kind.argument_kind c.requires here)

pub loop-word-preserved : goal.loop-word-preserved
loop-word-preserved c =
    let line = c.args.line.now in
    let names = symbols_of c.args.symbols.now in
    let prefix = c.loop-word.arguments.items in
    let here : slice_get (argument_kinds_in line) (length prefix) ≡ Some c.in_ok-argument_kind.argument_kind =
    the_argument_kind line c.as_slice-words.result.now c.len.result (length prefix) (Some c.in_ok-argument_kind.argument_kind) c.as_slice-words.ensures c.len.ensures.value c.in_ok-argument_kind.ensures in
    rw c.push.ensures.items
    (word_replaced names c.args.locals.now (argument_kinds_in line) prefix c.in_ok-argument_kind.argument_kind c.in-Some.word.now c.in_ok-resolve.field-0 c.in-Some.after.now c.loop-word.rest.now _ here
    (sym c.in_ok-resolve.ensures) c.in-Some.ensures.cases.0 c.loop-word.invariant)

pub returns : goal.returns
returns c =
    let names = symbols_of c.args.symbols.now in
    words_end names c.args.locals.now (argument_kinds_in c.args.line.now) c.loop-word.arguments.items c.loop-word.rest.now _ (nil_from_length c.loop-word.rest.now c.in_default.ensures.cases) c.loop-word.invariant
