use Rattle.pct_names.proofs.Names.{◌+◌, bytes_eq, index_among, length, names_declared, position_from, ◌≡◌, ◌≤◌}
use Rattle.pct_model.specs.declared.line_kind.SymbolKind.TheVariants.{Function}
use Rattle.pct_script_lines.proofs.plain_functions.function_index.Given as goal

abbrev pub invariant-loop-declared : goal.invariant-loop-declared
invariant-loop-declared l = record { found : position_from (λ n. bytes_eq n l.name) l.at (names_declared l.rest Function) ≡ index_among (names_declared l.lines Function) l.name; few : l.at + length l.rest ≤ length l.lines }

abbrev pub decreases-loop-declared : goal.decreases-loop-declared
decreases-loop-declared l = length l.rest
