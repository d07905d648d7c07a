-- Cancelability (XSH 2.9.5.1): when a thread acts on a pending request, and its state and type when it begins to end. The
-- definitions take a thread's state, type and pending flag as arguments, so that every representation of a thread can
-- use them.
use Rattle.std.specs.Prelude.{Bool, true, false}
use Rattle.pct_model.specs.declared.state.State.{State}
use Rattle.pct_model.specs.declared.state.State.TheVariants.{Enable, Disable}
use Rattle.pct_model.specs.declared.state.Mode.{Mode}
use Rattle.pct_model.specs.declared.state.Mode.TheVariants.{Deferred, Asynchronous}

-- a request is acted upon at a cancellation point if it is pending and cancelability is enabled (XSH 2.9.5.2,
-- pthread_testcancel); while cancelability is disabled it is held pending (XSH 2.9.5.1)
abbrev pub is_deliverable : State → Bool → Bool
is_deliverable Enable pending = pending
is_deliverable Disable pending = false

-- a request may be acted upon at any time: cancelability is enabled and asynchronous (XSH 2.9.5.1)
abbrev pub is_asynchronous : State → Mode → Bool
is_asynchronous Enable Asynchronous = true
is_asynchronous Enable Deferred = false
is_asynchronous Disable mode = false

-- the cancelability state of a thread that begins to end, by a request or by pthread_exit (XSH 2.9.5.3, pthread_exit); it
-- stays disabled. That a pending request stays pending is a choice of this host, and so is that a thread which begins to exit
-- its process gets this state.
abbrev pub ending_state : State
ending_state = Disable

-- the cancelability type of such a thread; a cleanup handler may set it (XSH 2.9.5.3)
abbrev pub ending_mode : Mode
ending_mode = Deferred
