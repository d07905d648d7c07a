use Rattle.pct_names.proofs.Names.{arith, bytes_eq, List, names_declared, position_from-zero, sym, ℕ}
use Rattle.pct_model.specs.declared.line_kind.SymbolKind.TheVariants.{Function}
use Rattle.pct_script_lines.proofs.plain_functions.function_index.Goals as goal

pub loop-declared-init : goal.loop-declared-init
loop-declared-init c = record {
  found = sym (position_from-zero (λ (n : List ℕ). bytes_eq n c.args.name.now) (names_declared c.args.lines.now Function));
  few = omega arith;
}
