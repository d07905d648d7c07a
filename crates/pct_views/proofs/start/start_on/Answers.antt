use Rattle.pct_names.proofs.Names.{ap, Frame, is_some, List, option_map, slice_get, Some, subst, sym, true, ◌∙◌, ◌≡◌}
use Rattle.pct_process.specs.ProcessViews.{thread_on_slot, ProcessData}
use Rattle.pct_step_context.proofs.ProcessReads.{occupied_by, frames_read}
use Rattle.pct_view_laws.specs.TracedSteps.{position_in}
use Rattle.pct_views.proofs.start.start_on.Goals as goal

pub top_frame-requires : goal.top_frame-requires
top_frame-requires c =
    let s = c.state.inside in
    occupied_by s.keys s.threads c.state.invariant.0 c.args.slot (subst (λ (d : ProcessData). is_some (thread_on_slot d.slots c.args.slot) ≡ true) (sym c.state.view_is) c.requires)

pub returns : goal.returns
returns c = λ t at.
    let s = c.state.inside in
    let frames = frames_read s.keys s.threads c.state.invariant.0 c.args.slot t (subst (λ (d : ProcessData). thread_on_slot d.slots c.args.slot ≡ Some t) (sym c.state.view_is) at) in
    let position = c.position_in.ensures ∙ ap (option_map position_in) (c.top_frame.ensures ∙ ap (λ (frames : List Frame). slice_get frames 0) frames) in
    λ i. record { status = (c.record_on.ensures t at).status_is i; position = position i }
