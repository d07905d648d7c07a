-- The contents of a script from its resolved functions.
use Rattle.pct_names.proofs.Names.{ap, Func, functions_in, Line, List, names_declared, refl, SemDecl, Some, sym}
use Rattle.pct_names.proofs.Names.{SymbolKind, unknown_name, ℕ, ◌∙◌, ◌≡◌}
use Rattle.std.proofs.Math.Path.{fun_ext}
use Rattle.pct_model.specs.declared.line_kind.SymbolKind.TheVariants as kind
use Rattle.pct_grammar.specs.Resolving.{resolve_functions, sems_in, resolve_contents}
use Rattle.pct_script_lines.specs.UnknownNames.{unknown_in_sections}

module _ (names : SymbolKind → List (List ℕ)) (lines : List Line) (each : (k : SymbolKind) → names k ≡ names_declared lines k) where
  -- an unknown name, where these are the declared names
  pub unknown_is : unknown_in_sections names (functions_in lines) ≡ unknown_name lines
  unfolding unknown_name
  unknown_is = ap (λ (n : SymbolKind → List (List ℕ)). unknown_in_sections n (functions_in lines)) (fun_ext each)

  -- the contents of a script, if its functions resolve
  pub contents_are_read : (funcs : List Func) (globals mutexes conds onces : List (List ℕ)) (sems : List SemDecl) → resolve_functions names (functions_in lines) ≡ Some funcs
      → globals ≡ names kind.Global → mutexes ≡ names kind.Mutex → conds ≡ names kind.Cond → onces ≡ names kind.Once → sems ≡ sems_in lines
      → resolve_contents lines ≡ Some (record { globals = globals; mutexes = mutexes; conds = conds; sems = sems; onces = onces; funcs = funcs })
  unfolding resolve_contents
  contents_are_read funcs globals mutexes conds onces sems read g m d o s =
      let found = sym (ap (λ (n : SymbolKind → List (List ℕ)). resolve_functions n (functions_in lines)) (fun_ext each)) ∙ read in
      rw (g ∙ each kind.Global, m ∙ each kind.Mutex, d ∙ each kind.Cond, o ∙ each kind.Once, s, found) refl
