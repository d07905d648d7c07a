-- The answers for `set_note`.
use Rattle.std.proofs.Common.{Bool, true, ◌&&◌, cond, Option, Some, sym, ap, ◌∙◌, nat_eq}
use Rattle.std.specs.Prelude.{unwrap_or}
use Rattle.std.specs.BTreeMap.{get}
use Rattle.std.specs.Ordering.{nat_cmp, ordering_then}
use Rattle.pct_holders.specs.Holds.{holds}
use Rattle.pct_thread_monitors.specs.declared.note.Note.{Note}
use Rattle.pct_thread_monitors.specs.Notes.{no_events_note, is_unended}
use Rattle.pct_thread_monitors.specs.NotesOf.{note_of}
use Rattle.pct_thread_monitors.proofs.NoteSet.{by_cond, pairs_compare, unended_set}
use Rattle.pct_thread_monitors.proofs.monitor.ThreadMonitor.set_note.Goals as goal

pub returns-clause-notes : goal.returns-clause-notes
returns-clause-notes c = λ p t.
    let old = get (λ x y. ordering_then (nat_cmp x.0 y.0) (nat_cmp x.1 y.1)) c.args.self.now.notes (p, t) in
    rw (c.in_ok-insert.ensures.updates.0 (p, t), pairs_compare c.args.pid p c.args.tid t)
    (by_cond (λ (found : Option Note). unwrap_or found (no_events_note p t))
    (nat_eq c.args.pid p && nat_eq c.args.tid t) (Some c.args.note) old)

pub returns-clause-unended : goal.returns-clause-unended
returns-clause-unended c = λ was p t.
    let here = nat_eq c.args.pid p in
    let same = nat_eq c.args.tid t in
    c.in_ok-set.ensures.ok p 0 t
    ∙ ap (λ (b : Bool). cond ((here && true) && same) b (holds c.args.self.now.unended p 0 t)) c.is_unended.ensures
    ∙ ap (cond ((here && true) && same) (is_unended c.args.note)) (was p t)
    ∙ unended_set here same c.args.note (note_of c.args.self.now p t)
    ∙ ap is_unended (sym (returns-clause-notes c p t))
