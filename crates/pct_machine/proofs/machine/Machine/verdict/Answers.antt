use Rattle.pct_names.proofs.Names.{◌+◌, ◌<◌, ap, false, has_timeouts, is_some, length, list_all, list_any, None, refl, Some, subst, sym}
use Rattle.pct_names.proofs.Names.{true, ◌∙◌}
use Rattle.std.proofs.Common.{eq-eqb, ne_eqb}
use Rattle.pct_engine_laws.specs.Seen.{Seen, SeenProcess, family_in}
use Rattle.pct_engine_laws.specs.SeenSteps.{has_ready_in}
use Rattle.pct_step_context.specs.Programs.{ProgramValue}
use Rattle.pct_machine.proofs.ReadyProcesses.{verdict_is}
use Rattle.pct_machine.proofs.machine.Machine.verdict.Goals as goal

pub returns-in-Some : goal.returns-in-Some
returns-in-Some c =
    verdict_is c.args.program.now.script c.args.program.now.config c.args.self.now c.args.count c.requires (Some c.in-Some.why) _ _ _ (sym c.in-Some.is ∙ ap (λ (v : Seen). v.stop) c.self.view_is) refl refl refl

pub returns-then-all_ended : goal.returns-then-all_ended
returns-then-all_ended c =
    verdict_is c.args.program.now.script c.args.program.now.config c.args.self.now c.args.count c.requires None true _ _ (sym c.in_default.is ∙ ap (λ (v : Seen). v.stop) c.self.view_is)
    (c.if-all_ended.ensures ∙ ap (λ (v : Seen). list_all (λ (p : SeenProcess). is_some p.ended) v.processes) c.self.view_is) refl refl

pub returns-then-not-any_ready : goal.returns-then-not-any_ready
returns-then-not-any_ready c =
    verdict_is c.args.program.now.script c.args.program.now.config c.args.self.now c.args.count c.requires None false false _ (sym c.in_default.is ∙ ap (λ (v : Seen). v.stop) c.self.view_is)
    (c.if-all_ended.ensures ∙ ap (λ (v : Seen). list_all (λ (p : SeenProcess). is_some p.ended) v.processes) c.self.view_is)
    (c.if-not-any_ready.ensures ∙ ap (λ (v : Seen). list_any (λ (p : SeenProcess). has_ready_in c.args.program.now.script (has_timeouts c.args.program.now.config.format) (length p.slots) (family_in v p.pid) p) v.processes) c.self.view_is) refl

pub returns-then-count-program : goal.returns-then-count-program
returns-then-count-program c =
    let full = eq-eqb c.args.count c.args.program.now.config.budget (c.if-count-program.true ∙ ap (λ (p : ProgramValue). p.config.budget) c.program.view_is) in
    verdict_is c.args.program.now.script c.args.program.now.config c.args.self.now c.args.count c.requires None false true true (sym c.in_default.is ∙ ap (λ (v : Seen). v.stop) c.self.view_is)
    (c.if-all_ended.ensures ∙ ap (λ (v : Seen). list_all (λ (p : SeenProcess). is_some p.ended) v.processes) c.self.view_is)
    (c.if-not-any_ready.ensures ∙ ap (λ (v : Seen). list_any (λ (p : SeenProcess). has_ready_in c.args.program.now.script (has_timeouts c.args.program.now.config.format) (length p.slots) (family_in v p.pid) p) v.processes) c.self.view_is) (sym full)

pub returns-else-count-program : goal.returns-else-count-program
returns-else-count-program c =
    let left = ne_eqb c.args.count c.args.program.now.config.budget (λ full. c.if-count-program.false (full ∙ sym (ap (λ (p : ProgramValue). p.config.budget) c.program.view_is))) in
    verdict_is c.args.program.now.script c.args.program.now.config c.args.self.now c.args.count c.requires None false true false (sym c.in_default.is ∙ ap (λ (v : Seen). v.stop) c.self.view_is)
    (c.if-all_ended.ensures ∙ ap (λ (v : Seen). list_all (λ (p : SeenProcess). is_some p.ended) v.processes) c.self.view_is)
    (c.if-not-any_ready.ensures ∙ ap (λ (v : Seen). list_any (λ (p : SeenProcess). has_ready_in c.args.program.now.script (has_timeouts c.args.program.now.config.format) (length p.slots) (family_in v p.pid) p) v.processes) c.self.view_is) (sym left)

pub any_ready-requires : goal.any_ready-requires
any_ready-requires c = subst (λ (v : Seen). v.made + 1 < 4294967296) (sym c.self.view_is) c.requires.few_made
