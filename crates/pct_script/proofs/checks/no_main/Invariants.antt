use Rattle.pct_names.proofs.Names.{bytes_eq, keyword_text, length, list_any, names_declared, ◌≡◌}
use Rattle.pct_model.specs.declared.line_kind.SymbolKind.TheVariants as kind
use Rattle.pct_model.specs.declared.keyword.Keyword.TheVariants as keyword
use Rattle.pct_script.proofs.checks.no_main.Given as goal

abbrev pub invariant-loop-name : goal.invariant-loop-name
invariant-loop-name l = list_any (bytes_eq (keyword_text keyword.Main)) (names_declared l.rest kind.Function) ≡ list_any (bytes_eq (keyword_text keyword.Main)) (names_declared l.lines kind.Function)

abbrev pub decreases-loop-name : goal.decreases-loop-name
decreases-loop-name l = length l.rest
