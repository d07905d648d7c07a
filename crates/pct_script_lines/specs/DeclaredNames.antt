-- The names that a line declares. No public clause cites this file.
use Rattle.std.specs.Prelude.{ℕ, List, [], if◌then◌else◌}
use Rattle.pct_model.specs.declared.line_kind.SymbolKind.{SymbolKind}
use Rattle.pct_model.specs.declared.parsed_line.ParsedLine.{ParsedLine}
use Rattle.pct_model.specs.Sections.{declares, declared_by}

-- the name that a line declares, if it is a declaration of this kind
abbrev pub declared_of : SymbolKind → ParsedLine → List (List ℕ)
declared_of k line = if declares k line then declared_by line else []
