use Rattle.pct_names.proofs.Names.{ap, filter_map, Line, MatchOption-at_none, MatchOption-at_some, parsed_lines, parsed_numbered, sym, ◌∙◌}
use Rattle.pct_names.proofs.Names.{◌∷◌, ◌≡◌}
use Rattle.pct_script_lines.proofs.FunctionLines.{continued, before_lines, after_lines, at_statement, at_declaration}
use Rattle.pct_script_lines.proofs.line_numbers.statement_lines.Goals as goal
use Rattle.pct_script_lines.proofs.line_numbers.statement_lines.Goals.{then-is_statement+in_ok-push, else-is_statement+in_ok-end_section}

pub loop-numbers-init : goal.loop-numbers-init
unfolding parsed_lines
loop-numbers-init c = rw (c.new-functions.ensures.items, c.new-numbers.ensures.items, c.of-left.ensures) (before_lines c.args.text.now)

pub loop-numbers-preserved : goal.loop-numbers-preserved
loop-numbers-preserved c =
    let functions = c.loop-numbers.functions.items in
    let numbers = c.loop-numbers.numbers.items in
    let line : Line = (c.in-Some.number, c.in-Some.line) in
    let after = filter_map parsed_numbered c.next_parsed.new.lines in
    let first : filter_map parsed_numbered c.loop-numbers.left ≡ line ∷ after = MatchOption-at_some _ _ _ c.in-Some.is c.in_ok-number.ensures in
    let gone = c.loop-numbers.invariant ∙ ap (continued functions numbers c.loop-numbers.in_function) first in
    elim c.if-is_statement.branch [
      | then-is_statement+in_ok-push w ↦
          let next = at_statement functions numbers c.loop-numbers.in_function line after (sym w.if-is_statement.ensures) in
          cc (gone, next, w.functions-is, w.numbers-is, w.in_function-is, w.in_ok-push.ensures.items)
      | else-is_statement+in_ok-end_section w ↦
          let next = at_declaration functions numbers c.loop-numbers.in_function line after (sym w.if-is_statement.ensures) in
          cc (gone, next, w.functions-is, w.numbers-is, w.in_function-is, w.in_ok-end_section.ensures, w.new-numbers-else-is_statement.ensures.items, w.declares-in_function.ensures)
    ]

pub returns : goal.returns
returns c =
    let functions = c.loop-numbers.functions.items in
    let numbers = c.loop-numbers.numbers.items in
    sym
    (c.loop-numbers.invariant ∙ ap (continued functions numbers c.loop-numbers.in_function) (MatchOption-at_none _ _ c.in_default.is c.in_ok-number.ensures)
    ∙ after_lines functions numbers c.loop-numbers.in_function ∙ sym c.in_ok-end_section-2.ensures)
