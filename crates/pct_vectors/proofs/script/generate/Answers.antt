use Rattle.pct_names.proofs.Names.{◌%◌, ◌+◌, ◌/◌, [], ap, arith, codes, Contents, Func, generated_text, is_static, List, refl, rounds_of}
use Rattle.pct_names.proofs.Names.{script_lines, SemDecl, subst, sym, text_of, threads_of, true, ℕ, ◌∙◌, ◌∷◌, ◌≡◌}
use Rattle.pct_vectors.specs.GeneratedContents.{global_names, generated_functions, generated_contents}
use Rattle.pct_vectors.proofs.StaticScripts.{generated_is_static}
use Rattle.pct_vectors.proofs.GeneratedTexts.{generated_canon}
use Rattle.pct_vectors.proofs.script.generate.Goals as goal

-- the declarations of equal parts
same_contents : (threads rounds : ℕ) {globals mutexes conds onces : List (List ℕ)} {sems : List SemDecl} {funcs : List Func}
    → globals ≡ global_names threads → mutexes ≡ codes "m" ∷ [] → conds ≡ codes "c" ∷ [] → sems ≡ [] → onces ≡ [] → funcs ≡ generated_functions threads rounds
    → ◌≡◌ {A = Contents} (record { globals = globals; mutexes = mutexes; conds = conds; sems = sems; onces = onces; funcs = funcs }) (generated_contents threads rounds)
same_contents threads rounds g m c s o f = rw (g, m, c, s, o, f) refl

pub invariant_of-result : goal.invariant_of-result
invariant_of-result c = record {
  passes_checks = subst (λ (x : Contents). is_static x ≡ true) (sym (same_contents _ _ c.in_ok-global_names.ensures c.in_ok-one_name.ensures c.in_ok-one_name-2.ensures (c.of.ensures ∙ c.new.ensures.items) (c.of-2.ensures ∙ c.new-2.ensures.items) c.in_ok-functions.ensures)) (generated_is_static (threads_of c.args.number) (rounds_of c.args.number) (omega arith) (omega arith) (omega arith));
}

pub returns : goal.returns
unfolding generated_text
returns c =
    ap (λ (x : Contents). text_of (script_lines x)) (same_contents _ _ c.in_ok-global_names.ensures c.in_ok-one_name.ensures c.in_ok-one_name-2.ensures (c.of.ensures ∙ c.new.ensures.items) (c.of-2.ensures ∙ c.new-2.ensures.items) c.in_ok-functions.ensures)
    ∙ generated_canon (threads_of c.args.number) (rounds_of c.args.number) (omega arith)
