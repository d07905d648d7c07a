-- The first line with a name that is not declared. No public clause cites this file.
use Rattle.std.specs.Prelude.{ℕ, List, Option, map}
use Rattle.pct_model.specs.declared.line_kind.SymbolKind.{SymbolKind}
use Rattle.pct_model.specs.declared.refusal.ParseWhy.TheVariants.{UnknownName}
use Rattle.pct_model.specs.Checks.{fault_at_line, first_that, uses_unknown, unknown_in}
use Rattle.pct_model.specs.Sections.{Line, Section}
use Rattle.pct_model.specs.Spelling.{Fault, first_of}

-- in the body of a function with these locals, where these names are declared
abbrev pub unknown_in_body : (SymbolKind → List (List ℕ)) → List (List ℕ) → List Line → Option Fault
unknown_in_body names locals body = fault_at_line UnknownName (first_that (uses_unknown names locals) body)

-- in a section that begins with `fn`
abbrev pub unknown_in_section : (SymbolKind → List (List ℕ)) → Section → Option Fault
unknown_in_section names section = fault_at_line UnknownName (unknown_in names section)

-- in sections that begin with `fn`
abbrev pub unknown_in_sections : (SymbolKind → List (List ℕ)) → List Section → Option Fault
unknown_in_sections names sections = fault_at_line UnknownName (first_of (map (unknown_in names) sections))
