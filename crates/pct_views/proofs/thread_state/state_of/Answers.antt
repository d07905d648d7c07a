use Rattle.pct_names.proofs.Names.{◌<◌, ap, is_some, length, Some, subst, sym, true, ◌∙◌, ◌≡◌}
use Rattle.pct_process.specs.ProcessViews.{thread_on_slot, ProcessData}
use Rattle.pct_step_context.proofs.ProcessReads.{occupied_by, frames_read}
use Rattle.pct_view_laws.specs.declared.position.StepStart.{StepStart}
use Rattle.pct_views.proofs.ThreadStates.{detached_read, id_is, row_read, row_within}
use Rattle.pct_views.proofs.thread_state.state_of.Goals as goal

pub frames-requires : goal.frames-requires
frames-requires c =
    let s = c.state.inside in
    occupied_by s.keys s.threads c.state.invariant.0 c.args.slot (subst (λ (d : ProcessData). is_some (thread_on_slot d.slots c.args.slot) ≡ true) (sym c.state.view_is) c.requires.held)

pub place-requires : goal.place-requires
place-requires c =
    let s = c.state.inside in
    occupied_by s.keys s.threads c.state.invariant.0 c.args.slot (subst (λ (d : ProcessData). is_some (thread_on_slot d.slots c.args.slot) ≡ true) (sym c.state.view_is) c.requires.held)

pub returns : goal.returns
returns c = λ t at.
    let s = c.state.inside in
    let k = c.args.slot in
    let fit = c.state.invariant.0 in
    let here = subst (λ (d : ProcessData). thread_on_slot d.slots k ≡ Some t) (sym c.state.view_is) at in
    record {
      tid_is = id_is _ t _ at c.id_on.ensures;
      position_is = ap (λ (start : StepStart). start.position) (c.start_on.ensures t at);
      frames_are = c.frames.ensures ∙ frames_read s.keys s.threads fit k t here;
      keys_are = ap (λ (d : ProcessData). d.shared.keys) c.state.view_is;
      within = row_within s.keys s.threads fit k (subst (λ (d : ProcessData). k < length d.slots) (sym c.state.view_is) c.requires.inside);
      specific_is = row_read s.keys s.threads fit k t here;
      detached_is = detached_read s.keys s.threads fit k t here _ c.place.ensures.value;
    }
