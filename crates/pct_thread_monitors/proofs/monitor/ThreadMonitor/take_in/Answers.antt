-- The answer for `take_in`.
use Rattle.std.proofs.Common.{◌≡◌, ℕ, cond, subst, nat_eq, ◌&&◌, ◌∙◌, ap}
use Rattle.pct_laws.specs.KnownThreads.{makes_process}
use Rattle.pct_thread_monitors.specs.declared.note.Note.{Note}
use Rattle.pct_thread_monitors.specs.Notes.{copied, next_note}
use Rattle.pct_thread_monitors.specs.NotesOf.{note_of}
use Rattle.pct_thread_monitors.proofs.MoreEvents.{notes_told}
use Rattle.pct_thread_monitors.proofs.monitor.ThreadMonitor.take_in.Goals as goal

pub returns : goal.returns
returns c = λ events told.
    let e = c.args.event in
    let before = note_of c.args.self.now in
    let named = note_of c.mark.new.self in
    let forked = note_of c.replicate.new.self in
    let after = note_of c.set_note.new.self in
    let second =
    subst
    (λ (caller : Note). (p t : ℕ) → forked p t ≡ cond (nat_eq e.tid t && makes_process p e.what) (copied caller (named p t)) (named p t))
    c.note-caller.ensures c.in_ok-replicate.ensures.notes in
    let third =
    subst (λ (next : Note). (p t : ℕ) → after p t ≡ cond (nat_eq e.pid p && nat_eq e.tid t) next (forked p t))
    (c.after.ensures ∙ ap (next_note e.what) c.note-note.ensures) c.in_ok-set_note.ensures.notes in
    record {
      notes = notes_told e events before named forked after c.in_ok-mark.ensures.notes second third told.notes;
      unended = c.in_ok-set_note.ensures.unended (c.in_ok-replicate.ensures.unended (c.in_ok-mark.ensures.unended told.unended));
    }
