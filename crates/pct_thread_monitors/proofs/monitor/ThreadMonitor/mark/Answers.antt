-- The answers for `mark`.
use Rattle.std.proofs.Common.{◌&&◌, cond, sym, ap, ◌∙◌, nat_eq, true}
use Rattle.std.proofs.lemmas.Result.{on_ok_weaker}
use Rattle.pct_model.specs.declared.event.What.{What}
use Rattle.pct_thread_monitors.specs.declared.note.Note.{Note}
use Rattle.pct_thread_monitors.specs.Notes.{names, marked}
use Rattle.pct_thread_monitors.specs.NotesOf.{note_of}
use Rattle.pct_thread_monitors.proofs.NoteSet.{set_note_told}
use Rattle.pct_thread_monitors.proofs.monitor.ThreadMonitor.mark.Goals as goal

pub returns-in-Created-clause-notes : goal.returns-in-Created-clause-notes
returns-in-Created-clause-notes c =
    let pid = c.args.pid in
    let id = c.in-Created.id in
    let notes = note_of c.args.self.now in
    on_ok_weaker c.set_note.result
    (λ set p t.
    set p t
    ∙ ap (λ (n : Note). cond (nat_eq pid p && nat_eq id t) (record n { known = true }) (notes p t)) c.note-note.ensures
    ∙ set_note_told (λ (n : Note). record n { known = true }) notes pid id p t
    ∙ ap (λ (w : What). cond (nat_eq pid p && names t w) (marked w (notes p t)) (notes p t)) (sym c.in-Created.is))
    c.set_note.ensures.notes

pub returns-in-Request-clause-notes : goal.returns-in-Request-clause-notes
returns-in-Request-clause-notes c =
    let pid = c.args.pid in
    let id = c.in-Request.id in
    let notes = note_of c.args.self.now in
    on_ok_weaker c.set_note-in-Request.result
    (λ set p t.
    set p t
    ∙ ap (λ (n : Note). cond (nat_eq pid p && nat_eq id t) (record n { requested = true }) (notes p t)) c.note-note-in-Request.ensures
    ∙ set_note_told (λ (n : Note). record n { requested = true }) notes pid id p t
    ∙ ap (λ (w : What). cond (nat_eq pid p && names t w) (marked w (notes p t)) (notes p t)) (sym c.in-Request.is))
    c.set_note-in-Request.ensures.notes
