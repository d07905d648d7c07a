use Rattle.pct_names.proofs.Names.{ap, key_place, Some, without_key, ◌∙◌}
use Rattle.pct_keys.specs.Tables.{Table, with_deleted}
use Rattle.pct_process.specs.ProcessViews.{slots_of, shared_of, ProcessData}
use Rattle.pct_actions.specs.SharedChanges.{forgotten}
use Rattle.pct_actions.proofs.NamedThreads.{key_forgotten}
use Rattle.pct_actions.proofs.shared_actions.delete_key.Goals as goal

pub returns : goal.returns
returns c =
    let s = c.process.inside in
    let k = c.args.key in
    ap (λ (keys : Table). record { slots = slots_of keys.rows s.threads; shared = shared_of s.globals s.owners s.counts s.onces keys.places s.fork_handlers s.exit_functions s.exit_value s.restricted }) (c.delete.ensures ∙ ap (λ place. with_deleted place s.keys) c.key_place.ensures.value)
    ∙ (λ i. record { slots = key_forgotten k s.keys.rows s.threads c.process.invariant.0 i; shared = shared_of s.globals s.owners s.counts s.onces (without_key (key_place k) s.keys.places) s.fork_handlers s.exit_functions s.exit_value s.restricted })
    ∙ ap (λ (p : ProcessData). record { slots = forgotten (Some k) p.slots; shared = record p.shared { keys = without_key (key_place k) p.shared.keys } }) c.process.view_is
