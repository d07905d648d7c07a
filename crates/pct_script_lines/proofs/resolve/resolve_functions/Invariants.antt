use Rattle.pct_names.proofs.Names.{[], functions_in, length, list_all, split_sections, true, ◌≡◌}
use Rattle.pct_script_lines.specs.Symbols.{symbols_of}
use Rattle.pct_script_lines.specs.SectionSteps.{is_ready}
use Rattle.pct_grammar.specs.Resolving.{resolve_functions}
use Rattle.pct_script_lines.specs.UnknownNames.{unknown_in_sections}
use Rattle.pct_script_lines.proofs.ResolvingTokens.{onto}
use Rattle.pct_script_lines.proofs.resolve.resolve_functions.Given as goal

abbrev pub invariant-loop-header : goal.invariant-loop-header
invariant-loop-header l = record {
  read : onto l.funcs.items (resolve_functions (symbols_of l.symbols) (functions_in l.rest)) ≡ resolve_functions (symbols_of l.symbols) (functions_in l.lines);
  unknown : unknown_in_sections (symbols_of l.symbols) (functions_in l.rest) ≡ unknown_in_sections (symbols_of l.symbols) (functions_in l.lines);
  prefix : (split_sections l.rest).preamble ≡ [];
  ready : list_all is_ready l.rest ≡ true;
}

abbrev pub decreases-loop-header : goal.decreases-loop-header
decreases-loop-header l = length l.rest
