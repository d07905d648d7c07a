use Rattle.pct_names.proofs.Names.{◌<◌, All, ap, length, List, map, subst, sym, ℕ, ◌∙◌}
use Rattle.pct_threads.specs.Tables.{next_id_at}
use Rattle.pct_step_context.proofs.EnvironmentRead.{new_ids_read, free_within}
use Rattle.pct_step_context.proofs.context.Context.free_slots.Goals as goal

pub returns-clause-ids : goal.returns-clause-ids
returns-clause-ids c = λ others sees.
    ap (map (next_id_at c.args.self.now.threads.now)) c.free.ensures.value ∙ new_ids_read c.args.self.now.position.keys.now c.args.self.now.threads.now c.requires.rows c.args.self.now.position.id _ _ others sees c.free.ensures.few

pub returns-clause-within : goal.returns-clause-within
returns-clause-within c = subst (λ (free : List ℕ). All (λ s. s < length c.args.self.now.threads.now) free) (sym c.free.ensures.value) (free_within c.args.self.now.threads.now)
