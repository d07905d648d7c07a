use Rattle.pct_names.proofs.Names.{Alt, ap, List, slice_get, ◌∙◌}
use Rattle.pct_process.specs.ProcessViews.{thread_on_slot}
use Rattle.pct_view_laws.specs.Listed.{ListedThread}
use Rattle.pct_place.proofs.StepsOfProcess.{thread_of}
use Rattle.pct_views.proofs.ListedThreads.{choices_are, listed_alone}
use Rattle.pct_views.proofs.thread_view.choice_on.Goals as goal

pub returns : goal.returns
returns c = λ program family p l shown is.
    let view = c.args.process in
    let t = thread_of (thread_on_slot view.state.now.slots c.args.slot) c.requires.held in
    c.choice_at.ensures t.0 t.1
    ∙ ap (λ (choices : List Alt). slice_get choices c.args.index) (choices_are program family p view shown t.0 ∙ ap (λ (l : ListedThread). l.choices) (listed_alone program family p view shown t.0 c.args.slot l c.slot_count.ensures.single t.1 is))
