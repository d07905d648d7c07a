-- The symbol table of a script. No public clause cites this file.
use Rattle.std.specs.Prelude.{ℕ, List}
use Rattle.pct_model.specs.declared.line_kind.SymbolKind.{SymbolKind}
use Rattle.pct_model.specs.declared.line_kind.SymbolKind.TheVariants as kind
use Rattle.pct_script_lines.specs.declared.symbols.SymbolTable.{SymbolTable}

-- the names of a kind
abbrev pub symbols_of : SymbolTable → SymbolKind → List (List ℕ)
symbols_of t kind.Global = t.globals
symbols_of t kind.Mutex = t.mutexes
symbols_of t kind.Cond = t.conds
symbols_of t kind.Sem = t.sems
symbols_of t kind.Once = t.onces
symbols_of t kind.Function = t.functions
