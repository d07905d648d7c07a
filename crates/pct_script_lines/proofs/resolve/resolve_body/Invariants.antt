use Rattle.pct_names.proofs.Names.{is_statement, length, list_all, true, ◌≡◌}
use Rattle.pct_script_lines.specs.Symbols.{symbols_of}
use Rattle.pct_grammar.specs.Resolving.{resolve_body}
use Rattle.pct_script_lines.specs.UnknownNames.{unknown_in_body}
use Rattle.pct_script_lines.proofs.ResolvingTokens.{onto}
use Rattle.pct_script_lines.proofs.resolve.resolve_body.Given as goal

abbrev pub invariant-loop-line : goal.invariant-loop-line
invariant-loop-line l = record {
  read : onto l.stmts.items (resolve_body (symbols_of l.symbols) l.locals l.rest) ≡ resolve_body (symbols_of l.symbols) l.locals l.body;
  unknown : unknown_in_body (symbols_of l.symbols) l.locals l.rest ≡ unknown_in_body (symbols_of l.symbols) l.locals l.body;
  statements : list_all (λ m. is_statement m.1) l.rest ≡ true;
}

abbrev pub decreases-loop-line : goal.decreases-loop-line
decreases-loop-line l = length l.rest
