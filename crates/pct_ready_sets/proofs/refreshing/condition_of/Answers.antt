use Rattle.pct_names.proofs.Names.{◌<◌, ap, Bool, false, has_timeouts, is_some, List, None, Option, option_map_or, refl, Some, sym, Thread}
use Rattle.pct_names.proofs.Names.{true, ℕ, ◌∙◌, ◌≡◌}
use Rattle.std.proofs.lemmas.Bool.{true≢false}
use Rattle.pct_set.specs.Slots.{slots_where, has_slot}
use Rattle.pct_set.proofs.SlotLemmas.{has_where}
use Rattle.pct_engine_laws.specs.Seen.{SeenSlot}
use Rattle.pct_process.specs.ProcessViews.{thread_on_slot}
use Rattle.pct_transitions.specs.declared.readiness.ReadyWhen.{ReadyWhen}
use Rattle.pct_transitions.specs.declared.readiness.ReadyWhen.TheVariants as ready
use Rattle.pct_transitions.specs.Readiness.{ready_when}
use Rattle.pct_ready_sets.proofs.refreshing.condition_of.Goals as goal

-- a slot with a thread, or without one
with_thread : (o : Option Thread) (f : Thread → ReadyWhen) (w : ReadyWhen) → is_some o ≡ true → ((t : Thread) → o ≡ Some t → w ≡ f t) → w ≡ option_map_or f o ready.Never
with_thread None f w some is = absurd (true≢false (sym some))
with_thread (Some t) f w some is = is t refl

without_thread : (o : Option Thread) (f : Thread → ReadyWhen) → is_some o ≡ false → ready.Never ≡ option_map_or f o ready.Never
without_thread None f none = refl
without_thread (Some t) f none = absurd (true≢false none)

-- whether a thread is on the slot, by the set of those with a thread
held_by : (slots : List SeenSlot) (k : ℕ) (set : List ℕ) (b : Bool) → k < 64 → set ≡ slots_where (λ k. is_some (thread_on_slot slots k)) → b ≡ has_slot set k → is_some (thread_on_slot slots k) ≡ b
held_by slots k set b small is has = sym (has ∙ ap (λ (set : List ℕ). has_slot set k) is ∙ has_where (λ k. is_some (thread_on_slot slots k)) k small)

pub ready_when-requires : goal.ready_when-requires
ready_when-requires g c = held_by c.args.process.now.slots c.args.slot c.occupied.result c.contains.result c.requires.slot c.occupied.ensures c.contains.ensures ∙ c.if-contains.true

pub returns-then-contains : goal.returns-then-contains
returns-then-contains g c =
    let slots = c.args.process.now.slots in
    with_thread (thread_on_slot slots c.args.slot) (ready_when c.args.program.now.script (has_timeouts c.args.program.now.config.format) c.args.process.now.shared.restricted) c.ready_when.result
    (held_by slots c.args.slot c.occupied.result c.contains.result c.requires.slot c.occupied.ensures c.contains.ensures ∙ c.if-contains.true) c.ready_when.ensures.when

pub returns-else-contains : goal.returns-else-contains
returns-else-contains g c =
    let slots = c.args.process.now.slots in
    without_thread (thread_on_slot slots c.args.slot) (ready_when c.args.program.now.script (has_timeouts c.args.program.now.config.format) c.args.process.now.shared.restricted)
    (held_by slots c.args.slot c.occupied.result c.contains.result c.requires.slot c.occupied.ensures c.contains.ensures ∙ c.if-contains.false)
