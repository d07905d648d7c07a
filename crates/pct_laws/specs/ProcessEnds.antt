-- The exit value and the end of a process, as the events of a run report them (XSH exit, _exit, wait). The events are listed newest first, as
-- in the trace of a run. A fork passes neither on.
use Rattle.std.specs.Prelude.{ℕ, if◌then◌else◌, List, [], ◌∷◌, Option, Some, None}
use Rattle.pct_model.specs.declared.event.Event.{Event}
use Rattle.pct_model.specs.declared.event.What.{What}
use Rattle.pct_model.specs.declared.event.What.TheVariants as what
use Rattle.pct_laws.specs.KnownThreads.{is_in}

-- the exit value of a process after an event of it, by the one before it
abbrev pub exit_after : What → Option ℕ → Option ℕ
exit_after (what.ExitBegun v) before = Some v
exit_after _ before = before

-- the value with which exit began in process pid, if it has begun
abbrev pub exit_value : ℕ → List Event → Option ℕ
exit_value pid [] = None
exit_value pid (e ∷ earlier) = if is_in pid e then exit_after e.what (exit_value pid earlier) else exit_value pid earlier

-- the status of a process after an event of it, by the one before it
abbrev pub status_after : What → Option ℕ → Option ℕ
status_after (what.ProcessEnded n) before = Some n
status_after _ before = before

-- the status with which process pid ended, if it has ended
abbrev pub end_status : ℕ → List Event → Option ℕ
end_status pid [] = None
end_status pid (e ∷ earlier) = if is_in pid e then status_after e.what (end_status pid earlier) else end_status pid earlier
