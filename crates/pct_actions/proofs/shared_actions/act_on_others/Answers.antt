use Rattle.pct_names.proofs.Names.{ap, arith, length, Option, sym, ℕ, ◌∙◌, ◌≡◌, ◌≤◌}
use Rattle.pct_process.specs.ProcessViews.{slots_of, ProcessData}
use Rattle.pct_process.proofs.ViewedSlots.{length-slots_of}
use Rattle.pct_actions.specs.ProcessChanges.{forgotten_key}
use Rattle.pct_actions.specs.SharedChanges.{forgotten}
use Rattle.pct_actions.proofs.CountedRecords.{taken_is}
use Rattle.pct_actions.proofs.NamedThreads.{name_fits, named_is}
use Rattle.pct_actions.proofs.shared_actions.act_on_others.Goals as goal

pub act_on_named-requires-clause-fits : goal.act_on_named-requires-clause-fits
act_on_named-requires-clause-fits g c =
    let s = c.process.inside in
    let p = c.args.process.now in
    let o = c.args.transition.now in
    let same : slots_of s.keys.rows s.threads ≡ forgotten (forgotten_key o.named) p.slots = ap (λ (d : ProcessData). d.slots) (c.process.view_is ∙ c.act_on_shared.ensures) ∙ ap (λ (k : Option ℕ). forgotten k p.slots) c.requires.forgets in
    name_fits s.keys s.threads c.process.invariant.0 c.requires.tid p c.requires.on_slots o.named same c.requires.named

pub invariant_of-process : goal.invariant_of-process
invariant_of-process g c = (c.process.invariant.0 ∙ sym c.act_on_named.ensures.length, c.act_on_named.ensures.standings)

pub returns-clause-made : goal.returns-clause-made
returns-clause-made g c = λ i.
    let s = c.process.inside in
    let p = c.args.process.now in
    let o = c.args.transition.now in
    let same : slots_of s.keys.rows s.threads ≡ forgotten (forgotten_key o.named) p.slots = ap (λ (d : ProcessData). d.slots) (c.process.view_is ∙ c.act_on_shared.ensures) ∙ ap (λ (k : Option ℕ). forgotten k p.slots) c.requires.forgets in
    record {
      slots = (ap (slots_of s.keys.rows) c.act_on_named.ensures.table ∙ named_is s.keys s.threads c.process.invariant.0 c.requires.tid p c.requires.on_slots o.named same c.requires.named) i;
      shared = ap (λ (d : ProcessData). d.shared) (c.process.view_is ∙ c.act_on_shared.ensures) i;
    }

pub returns-clause-count : goal.returns-clause-count
returns-clause-count g c =
    let s = c.process.inside in
    let p = c.args.process.now in
    let o = c.args.transition.now in
    let same : slots_of s.keys.rows s.threads ≡ forgotten (forgotten_key o.named) p.slots = ap (λ (d : ProcessData). d.slots) (c.process.view_is ∙ c.act_on_shared.ensures) ∙ ap (λ (k : Option ℕ). forgotten k p.slots) c.requires.forgets in
    let fit = c.process.invariant.0 in
    let count = c.slot_count-count.ensures in
    let few : length s.threads ≤ 64 = omega (arith, count.value, count.few, ap (λ (d : ProcessData). length d.slots) c.process.view_is, length-slots_of s.keys s.threads fit) in
    omega (arith, c.act_on_named.ensures.count, taken_is s.keys.rows s.threads fit few o.named p same)
