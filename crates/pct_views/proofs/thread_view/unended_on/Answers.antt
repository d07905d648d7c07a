use Rattle.pct_names.proofs.Names.{◌<◌, [], ap, filter, length, List, subst, sym, ℕ, ◌∙◌, ◌≡◌}
use Rattle.pct_engine_laws.specs.Seen.{SeenSlot}
use Rattle.pct_keys.specs.Tables.{Table}
use Rattle.pct_process.specs.ProcessViews.{ProcessData, slots_of, slot_on}
use Rattle.pct_process.proofs.ViewedSlots.{length-slots_of}
use Rattle.pct_threads.specs.Slots.{Slot}
use Rattle.pct_view_laws.specs.Listed.{is_unended}
use Rattle.pct_views.specs.ShownThreads.{IsUnended}
use Rattle.pct_views.proofs.UnendedThreads.{none_if_free, none_if_ended, unended_if_not}
use Rattle.pct_views.proofs.thread_view.unended_on.Goals as goal

-- a slot of the process is one of the table
inside : (keys : Table) (threads : List Slot) → length keys.rows ≡ length threads → (seen : List SeenSlot) (k : ℕ) → slots_of keys.rows threads ≡ seen → k < length seen → k < length threads
inside keys threads fit seen k are low = subst (λ (n : ℕ). k < n) (length-slots_of keys threads fit) (subst (λ (slots : List SeenSlot). k < length slots) (sym are) low)

pub is_occupied-requires : goal.is_occupied-requires
is_occupied-requires c = let s = c.state.inside in inside s.keys s.threads c.state.invariant.0 c.args.state.now.slots c.args.slot (ap (λ (d : ProcessData). d.slots) c.state.view_is) c.requires

pub returns-then-not-is_occupied-clause-none : goal.returns-then-not-is_occupied-clause-none
returns-then-not-is_occupied-clause-none c =
    let s = c.state.inside in
    subst (λ (d : ProcessData). filter is_unended (slot_on d.slots c.args.slot).here ≡ []) c.state.view_is
    (none_if_free s.keys s.threads c.state.invariant.0 c.args.slot (inside s.keys s.threads c.state.invariant.0 c.args.state.now.slots c.args.slot (ap (λ (d : ProcessData). d.slots) c.state.view_is) c.requires) (sym c.is_occupied.ensures ∙ c.if-not-is_occupied.true))

pub returns-then-is_ended-clause-none : goal.returns-then-is_ended-clause-none
returns-then-is_ended-clause-none c =
    let s = c.state.inside in
    subst (λ (d : ProcessData). filter is_unended (slot_on d.slots c.args.slot).here ≡ []) c.state.view_is
    (none_if_ended s.keys s.threads c.state.invariant.0 c.args.slot (inside s.keys s.threads c.state.invariant.0 c.args.state.now.slots c.args.slot (ap (λ (d : ProcessData). d.slots) c.state.view_is) c.requires) c.read_on-thread.result.now c.read_on-thread.ensures (sym c.is_ended.ensures ∙ c.if-is_ended.true))

pub returns-else-is_ended-clause-some : goal.returns-else-is_ended-clause-some
returns-else-is_ended-clause-some c =
    let s = c.state.inside in
    subst (λ (d : ProcessData). IsUnended d.slots c.args.slot c.read_on-thread.result.now) c.state.view_is
    (unended_if_not s.keys s.threads c.state.invariant.0 c.args.slot (inside s.keys s.threads c.state.invariant.0 c.args.state.now.slots c.args.slot (ap (λ (d : ProcessData). d.slots) c.state.view_is) c.requires) c.read_on-thread.result.now c.read_on-thread.ensures (sym c.is_ended.ensures ∙ c.if-is_ended.false))
