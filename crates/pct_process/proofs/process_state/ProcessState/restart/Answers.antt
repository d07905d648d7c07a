use Rattle.pct_names.proofs.Names.{ap, arith, false, Func, length, List, Main, main_of, map, Name, names_of, replicate, SemDecl, ◌∙◌}
use Rattle.pct_model.specs.declared.state.OnceState.TheVariants.{Fresh}
use Rattle.pct_model.proofs.StaticFacts.{few_functions}
use Rattle.pct_threads.specs.Slots.{with_call_alone}
use Rattle.pct_threads.specs.Tables.{on_held, with_created}
use Rattle.pct_process.proofs.FirstProcess.{few_declared, data-first, rows-first, standings-first}
use Rattle.pct_process.proofs.process_state.ProcessState.restart.Goals as goal

pub overflow_cast-main : goal.overflow_cast-main
overflow_cast-main c =
    let s = c.args.script.now in
    let few = few_functions (record { globals = s.globals; mutexes = s.mutexes; conds = s.conds; sems = s.sems; onces = s.onces; funcs = s.funcs }) s.passes_checks in
    omega (arith, few, c.main_of-main.ensures.bound, ap length c.as_slice.ensures)

pub new-self-inside-requires-2 : goal.new-self-inside-requires-2
new-self-inside-requires-2 c = (omega arith, omega (arith, (few_declared c.args.script.now).0, ap length c.as_slice-2.ensures))

pub new-self-inside-requires-3 : goal.new-self-inside-requires-3
new-self-inside-requires-3 c = (omega arith, omega (arith, (few_declared c.args.script.now).1, ap length c.as_slice-3.ensures))

pub counts_of-self-inside-requires : goal.counts_of-self-inside-requires
counts_of-self-inside-requires c = omega (arith, (few_declared c.args.script.now).2, ap length c.as_slice-4.ensures)

pub new-self-inside-requires-4 : goal.new-self-inside-requires-4
new-self-inside-requires-4 c = (omega arith, omega (arith, (few_declared c.args.script.now).3, ap length c.as_slice-5.ensures))

pub returns : goal.returns
returns c =
    data-first c.args.script.now c.args.slots c.main_of-main.result c.call_alone.new.self c.restart-2.new.self c.new-self-inside-2.result c.new-self-inside-3.result c.counts_of-self-inside.result c.new-self-inside-4.result c.new-self-inside-5.result c.new-self-inside-6.result
    (omega (arith, c.requires.some))
    (c.main_of-main.ensures.value ∙ ap (λ (funcs : List Func). main_of (names_of funcs)) c.as_slice.ensures)
    (c.call_alone.ensures ∙ ap (on_held 0 (with_call_alone c.main_of-main.result 0 Main)) (c.create.ensures.table ∙ ap (with_created 0 c.main_of-main.result 0 false) c.restart.ensures))
    c.restart-2.ensures
    (c.new-self-inside-2.ensures ∙ ap (λ (names : List Name). replicate (length names) 0) c.as_slice-2.ensures)
    (c.new-self-inside-3.ensures ∙ ap (λ (names : List Name). replicate (length names) 0) c.as_slice-3.ensures)
    (c.counts_of-self-inside.ensures ∙ ap (λ (sems : List SemDecl). map (λ d. d.count) sems) c.as_slice-4.ensures)
    (c.new-self-inside-4.ensures ∙ ap (λ (names : List Name). replicate (length names) Fresh) c.as_slice-5.ensures)
    c.new-self-inside-5.ensures
    c.new-self-inside-6.ensures

pub invariant_of-self : goal.invariant_of-self
invariant_of-self c =
    let made = c.call_alone.ensures ∙ ap (on_held 0 (with_call_alone c.main_of-main.result 0 Main)) (c.create.ensures.table ∙ ap (with_created 0 c.main_of-main.result 0 false) c.restart.ensures) in
    (rows-first c.args.slots c.main_of-main.result c.call_alone.new.self c.restart-2.new.self made c.restart-2.ensures, rw (c.put.ensures, c.new-self-inside.ensures) (standings-first c.args.slots c.main_of-main.result c.call_alone.new.self (omega (arith, c.requires.some)) made))
