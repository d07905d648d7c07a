-- The outcomes of two example scripts: the lines of each text, the script that it spells, and its run.
use Rattle.pct_names.proofs.Names.{[], AreContents, arith, code_of_verdict, codes, contents_of, declaration_syntax, declarations, declaring}
use Rattle.pct_names.proofs.Names.{default_config, encode, format_of, is_name, is_some, Line, line_kind_of, line_kinds, LineKind, lines_of}
use Rattle.pct_names.proofs.Names.{List, list_all, map, None, numeral, opening, Option, parsed, parsed_lines, parsed_words, point_name}
use Rattle.pct_names.proofs.Names.{point_of, point_statement, points, refl, replicate, resolve, resolve_all, resolve_name, Run, run}
use Rattle.pct_names.proofs.Names.{RunOptions, Runs, Script, Some, spelled_lines, SpellsContents, split_sections, subst, sym, SymbolKind}
use Rattle.pct_names.proofs.Names.{syntax_of, Token, token_at, tokens_at, true, unwrap_or, verdict_of, words_in, ℕ, ◌∷◌, ◌≡◌}
use Rattle.pct_model.specs.declared.line_kind.LineKind.TheVariants as line_kind
use Rattle.pct_model.specs.declared.line_kind.SymbolKind.TheVariants as kind
use Rattle.pct_model.specs.declared.parsed_line.Token.TheVariants as token
use Rattle.pct_rows.specs.Examples.{smallest_text, smallest_report, cleanup_text, cleanup_report, first_goes}
use Rattle.pct_rows.proofs.OnLiterals.{runs_on_literals, options_on_literals}
use Rattle.pct_rows.proofs.ExampleScripts.{smallest, smallest_reported, cleanup, cleanup_reported}

-- a parsed line with its number
abbrev line : ℕ → LineKind → List Token → Line
line n f words = (n, record { line_kind = f; tokens = words })

-- the arguments of `fn`: a name, and the parameter `x`
abbrev with_x : List ℕ → List Token
with_x name = token.Name name ∷ token.Name (codes "x") ∷ []

-- the numbers of a run without options
abbrev default_options : RunOptions
default_options = record { config = default_config; seed = 1; workers = 1; turns = 10000 }

-- the state of a run, if there is one
abbrev end_of : Script → ℕ → Run
end_of script n = unwrap_or (run script default_config (replicate n first_goes)) (record { world = opening script; events = [] })

is_its_end : (o : Option Run) (other : Run) → is_some o ≡ true → o ≡ Some (unwrap_or o other)
is_its_end None other is = absurd cc
is_its_end (Some r) other is = refl

-- ---- the script that returns at once

abbrev smallest_lines : List Line
smallest_lines = line 1 (line_kind.Declares kind.Function) (with_x (codes "main")) ∷ line 2 line_kind.Return (token.Number 0 ∷ []) ∷ line 3 line_kind.End [] ∷ []

smallest_declared : (k : SymbolKind) → map (λ l. l.1.tokens) (declaring k smallest_lines) ≡ declarations (contents_of smallest) k
unfolding declaration_syntax syntax_of declarations
smallest_declared kind.Global = refl
smallest_declared kind.Mutex = refl
smallest_declared kind.Cond = refl
smallest_declared kind.Sem = refl
smallest_declared kind.Once = refl
smallest_declared kind.Function = refl

smallest_are_contents : AreContents smallest_lines (contents_of smallest)
unfolding is_name points point_name declaration_syntax syntax_of encode resolve_name resolve resolve_all split_sections declarations
smallest_are_contents = record { declared = smallest_declared; bodies = (refl, tt); in_functions = refl }

smallest_parsed : parsed_lines smallest_text ≡ smallest_lines
unfolding is_name lines_of points point_of point_name declaration_syntax syntax_of line_kinds point_statement line_kind_of words_in spelled_lines numeral token_at tokens_at parsed_words parsed parsed_lines
smallest_parsed = refl

smallest_each : list_all (λ l. is_some (parsed l.1)) (spelled_lines smallest_text) ≡ true
unfolding is_name lines_of points point_of point_name declaration_syntax syntax_of line_kinds point_statement line_kind_of words_in spelled_lines numeral token_at tokens_at parsed_words parsed
smallest_each = refl

-- the text spells the script
smallest_spelled : SpellsContents smallest_text (contents_of smallest)
smallest_spelled = record { each_says = smallest_each; are_contents = subst (λ (lines : List Line). AreContents lines (contents_of smallest)) (sym smallest_parsed) smallest_are_contents }

smallest_is_legal : is_some (run smallest default_config (replicate 2 first_goes)) ≡ true
unfolding runs_on_literals
smallest_is_legal = refl

smallest_completes : code_of_verdict (verdict_of smallest default_config (end_of smallest 2).world 2) ≡ 0
unfolding runs_on_literals code_of_verdict
smallest_completes = refl

-- the outcome of `run`
pub smallest_runs : Runs (codes "run" ∷ []) smallest_text (replicate 2 first_goes) 0 smallest_report
unfolding options_on_literals format_of
smallest_runs = record { options = default_options; accepted = refl; fits = omega arith; script = smallest; spelled = smallest_spelled; after = end_of smallest 2; is_run = is_its_end (run smallest default_config (replicate 2 first_goes)) _ smallest_is_legal; code_is = sym smallest_completes; text_is = smallest_reported }

-- ---- the script with a cleanup handler

abbrev cleanup_lines : List Line
cleanup_lines =
    line 1 (line_kind.Declares kind.Function) (with_x (codes "h")) ∷ line 2 line_kind.Emit (token.Name (codes "x") ∷ []) ∷ line 3 line_kind.End []
    ∷ line 4 (line_kind.Declares kind.Function) (with_x (codes "main")) ∷ line 5 line_kind.Push (token.Name (codes "h") ∷ token.Number 1 ∷ []) ∷ line 6 line_kind.Emit (token.Number 5 ∷ [])
    ∷ line 7 line_kind.Pop (token.Number 1 ∷ []) ∷ line 8 line_kind.Return (token.Number 0 ∷ []) ∷ line 9 line_kind.End [] ∷ []

cleanup_declared : (k : SymbolKind) → map (λ l. l.1.tokens) (declaring k cleanup_lines) ≡ declarations (contents_of cleanup) k
unfolding declaration_syntax syntax_of declarations
cleanup_declared kind.Global = refl
cleanup_declared kind.Mutex = refl
cleanup_declared kind.Cond = refl
cleanup_declared kind.Sem = refl
cleanup_declared kind.Once = refl
cleanup_declared kind.Function = refl

cleanup_are_contents : AreContents cleanup_lines (contents_of cleanup)
unfolding is_name points point_name declaration_syntax syntax_of encode resolve_name resolve resolve_all split_sections declarations
cleanup_are_contents = record { declared = cleanup_declared; bodies = (refl, (refl, tt)); in_functions = refl }

cleanup_parsed : parsed_lines cleanup_text ≡ cleanup_lines
unfolding is_name lines_of points point_of point_name declaration_syntax syntax_of line_kinds point_statement line_kind_of words_in spelled_lines numeral token_at tokens_at parsed_words parsed parsed_lines
cleanup_parsed = refl

cleanup_each : list_all (λ l. is_some (parsed l.1)) (spelled_lines cleanup_text) ≡ true
unfolding is_name lines_of points point_of point_name declaration_syntax syntax_of line_kinds point_statement line_kind_of words_in spelled_lines numeral token_at tokens_at parsed_words parsed
cleanup_each = refl

-- the text spells the script
cleanup_spelled : SpellsContents cleanup_text (contents_of cleanup)
cleanup_spelled = record { each_says = cleanup_each; are_contents = subst (λ (lines : List Line). AreContents lines (contents_of cleanup)) (sym cleanup_parsed) cleanup_are_contents }

cleanup_is_legal : is_some (run cleanup default_config (replicate 7 first_goes)) ≡ true
unfolding runs_on_literals
cleanup_is_legal = refl

cleanup_completes : code_of_verdict (verdict_of cleanup default_config (end_of cleanup 7).world 7) ≡ 0
unfolding runs_on_literals code_of_verdict
cleanup_completes = refl

-- the outcome of `run`
pub cleanup_runs : Runs (codes "run" ∷ []) cleanup_text (replicate 7 first_goes) 0 cleanup_report
unfolding options_on_literals format_of
cleanup_runs = record { options = default_options; accepted = refl; fits = omega arith; script = cleanup; spelled = cleanup_spelled; after = end_of cleanup 7; is_run = is_its_end (run cleanup default_config (replicate 7 first_goes)) _ cleanup_is_legal; code_is = sym cleanup_completes; text_is = cleanup_reported }
