-- The items of each kind in a script have valid names, and no two have the same.
use Rattle.pct_names.proofs.Names.{◌++◌, [], all_different, all_names, and_from, and_parts, ap, Bool, bytes_eq, false, Func, has_each_name_once}
use Rattle.pct_names.proofs.Names.{List, list_all, list_any, list_any-append, map, names_of, not, refl, sym, true, ◌||◌, ℕ, ◌∙◌, ◌∷◌, ◌≡◌}
use Rattle.pct_model.specs.declared.line_kind.SymbolKind.TheVariants as kind
use Rattle.pct_model.proofs.StaticFacts.{passes_all, text_parts, kinds_are_names}
use Rattle.pct_thread_invariants.proofs.thread.NamedFunctions.{contents}
use Rattle.pct_event_bounds.specs.EventBounds.{ScriptsHaveNames}

neither : (a b : Bool) → not (a || b) ≡ true → not a ≡ true
neither true b is = is
neither false b is = refl

-- names that are all different, in two parts
both_different : (first second : List (List ℕ)) → all_different (first ++ second) ≡ true → (all_different first ≡ true) × (all_different second ≡ true)
unfolding all_different
both_different [] second is = (refl, is)
both_different (name ∷ first) second is =
    let parts = and_parts (not (list_any (bytes_eq name) (first ++ second))) (all_different (first ++ second)) is in
    let rest = both_different first second parts.1 in
    let new = neither (list_any (bytes_eq name) first) (list_any (bytes_eq name) second) (ap not (sym (list_any-append (bytes_eq name) first second)) ∙ parts.0) in
    (and_from _ _ new rest.0, rest.1)

pub names_of_scripts : ScriptsHaveNames
unfolding has_each_name_once
names_of_scripts script =
    let c = contents script in
    let checks = passes_all c script.passes_checks in
    let text = text_parts c checks.text in
    let all : all_different (all_names c) ≡ true = (and_parts (all_different (all_names c)) (list_all (λ (f : Func). all_different f.locals) c.funcs) checks.once).0 in
    let sems = map (λ s. s.name) c.sems in
    let functions = both_different (c.globals ++ c.mutexes ++ c.conds ++ sems ++ c.onces) (names_of c.funcs) all in
    let onces = both_different (c.globals ++ c.mutexes ++ c.conds ++ sems) c.onces functions.0 in
    let semaphores = both_different (c.globals ++ c.mutexes ++ c.conds) sems onces.0 in
    let conds = both_different (c.globals ++ c.mutexes) c.conds semaphores.0 in
    let mutexes = both_different c.globals c.mutexes conds.0 in
    record {
      functions = record { valid = kinds_are_names c kind.Function text; different = functions.1 };
      mutexes = record { valid = kinds_are_names c kind.Mutex text; different = mutexes.1 };
      conds = record { valid = kinds_are_names c kind.Cond text; different = conds.1 };
      sems = record { valid = kinds_are_names c kind.Sem text; different = semaphores.1 };
      onces = record { valid = kinds_are_names c kind.Once text; different = onces.1 };
    }
