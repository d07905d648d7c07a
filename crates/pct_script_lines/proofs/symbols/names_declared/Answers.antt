use Rattle.pct_names.proofs.Names.{◌++◌, ap, arith, length, names_declared, sym, ◌∙◌, ◌≡◌}
use Rattle.std.proofs.Common.{append-nil}
use Rattle.pct_script_lines.proofs.DeclaredByLines.{few_declared}
use Rattle.pct_script_lines.proofs.symbols.names_declared.Goals as goal

pub of-requires : goal.of-requires
of-requires c =
    let all : c.loop-name.names.items ≡ names_declared c.args.lines.now c.args.kind =
    sym (append-nil c.loop-name.names.items) ∙ ap (λ rest. c.loop-name.names.items ++ rest) (sym c.in_default.ensures.names) ∙ c.loop-name.invariant in
    omega (arith, ap length all, few_declared c.args.lines.now c.args.kind, c.requires)
