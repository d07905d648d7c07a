-- The answer for `replicate`.
use Rattle.std.proofs.Common.{Bool, ◌&&◌, cond, sym, ap, ◌∙◌, nat_eq}
use Rattle.std.proofs.Math.Bool.{and_comm}
use Rattle.std.proofs.lemmas.Result.{on_ok_weaker}
use Rattle.pct_model.specs.declared.event.What.{What}
use Rattle.pct_laws.specs.KnownThreads.{makes_process}
use Rattle.pct_thread_monitors.specs.declared.note.Note.{Note}
use Rattle.pct_thread_monitors.specs.Notes.{copied}
use Rattle.pct_thread_monitors.specs.NotesOf.{note_of}
use Rattle.pct_thread_monitors.proofs.NoteSet.{set_note_told}
use Rattle.pct_thread_monitors.proofs.monitor.ThreadMonitor.replicate.Goals as goal

pub returns-in-Forked-clause-notes : goal.returns-in-Forked-clause-notes
returns-in-Forked-clause-notes c =
    let tid = c.args.tid in
    let child = c.in-Forked.child in
    let caller = c.args.caller in
    let notes = note_of c.args.self.now in
    on_ok_weaker c.set_note.result
    (λ set p t.
    set p t ∙ ap (λ (n : Note). cond (nat_eq child p && nat_eq tid t) (copied caller n) (notes p t)) c.note-replica.ensures
    ∙ set_note_told (copied caller) notes child tid p t
    ∙ ap (λ (b : Bool). cond b (copied caller (notes p t)) (notes p t)) (and_comm (nat_eq child p) (nat_eq tid t))
    ∙ ap (λ (w : What). cond (nat_eq tid t && makes_process p w) (copied caller (notes p t)) (notes p t)) (sym c.in-Forked.is))
    c.set_note.ensures.notes
