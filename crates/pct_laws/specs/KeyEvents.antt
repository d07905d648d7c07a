-- The keys of thread-specific data, as the events of a run report them (XSH pthread_key_create, pthread_key_delete, fork). The events are
-- listed newest first, as in the trace of a run.
use Rattle.std.specs.Prelude.{if◌then◌else◌, ℕ, Bool, false, not, ◌&&◌, ◌||◌, List, [], ◌∷◌, nat_eq}
use Rattle.pct_model.specs.declared.event.Event.{Event}
use Rattle.pct_model.specs.declared.event.What.{What}
use Rattle.pct_model.specs.declared.event.What.TheVariants as what
use Rattle.pct_laws.specs.KnownThreads.{is_in, makes_process}

-- whether there is a key with a number after an event of the process, if there was one before it or not
abbrev pub key_after : ℕ → What → Bool → Bool
key_after key (what.KeyMade k) there = nat_eq k key || there
key_after key (what.KeyGone k) there = not (nat_eq k key) && there
key_after key _ there = there

-- the key with a number was made in process pid and not deleted since; the fork that makes the process gives it the keys of the parent
abbrev pub has_key : ℕ → ℕ → List Event → Bool
has_key pid key [] = false
has_key pid key (e ∷ earlier) =
    if is_in pid e then key_after key e.what (has_key pid key earlier)
    else if makes_process pid e.what then has_key e.pid key earlier
    else has_key pid key earlier
