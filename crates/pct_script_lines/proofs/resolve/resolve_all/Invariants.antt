use Rattle.pct_names.proofs.Names.{argument_kinds_in, length, resolve_all, ◌≡◌}
use Rattle.pct_script_lines.specs.Symbols.{symbols_of}
use Rattle.pct_script_lines.proofs.ResolvingTokens.{replaced_from}
use Rattle.pct_script_lines.proofs.resolve.resolve_all.Given as goal

abbrev pub invariant-loop-word : goal.invariant-loop-word
invariant-loop-word l =
    replaced_from (symbols_of l.symbols) l.locals (argument_kinds_in l.line) l.arguments.items l.rest
    ≡ resolve_all (symbols_of l.symbols) l.locals (argument_kinds_in l.line) l.line.tokens

abbrev pub decreases-loop-word : goal.decreases-loop-word
decreases-loop-word l = length l.rest
