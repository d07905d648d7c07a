use Rattle.pct_names.proofs.Names.{ap, Frame, is_some, List, next_of, slice_get, Some, subst, sym, true, ◌∙◌, ◌≡◌}
use Rattle.pct_process.specs.ProcessViews.{thread_on_slot, ProcessData}
use Rattle.pct_step_context.specs.Programs.{ProgramValue}
use Rattle.pct_step_context.proofs.ProcessReads.{occupied_by, frames_read}
use Rattle.pct_transitions.proofs.process_reads.next_on.Goals as goal

pub top_frame-requires : goal.top_frame-requires
top_frame-requires c =
    let s = c.process.inside in
    occupied_by s.keys s.threads c.process.invariant.0 c.args.slot (subst (λ (d : ProcessData). is_some (thread_on_slot d.slots c.args.slot) ≡ true) (sym c.process.view_is) c.requires)

pub returns : goal.returns
returns c = λ t at.
    let s = c.process.inside in
    let frames = frames_read s.keys s.threads c.process.invariant.0 c.args.slot t (subst (λ (d : ProcessData). thread_on_slot d.slots c.args.slot ≡ Some t) (sym c.process.view_is) at) in
    c.next_of.ensures.next t.frames (c.top_frame.ensures ∙ ap (λ (frames : List Frame). slice_get frames 0) frames) ∙ ap (λ (p : ProgramValue). next_of p.script t.frames) c.program.view_is
