-- The ids of the known threads of a process: of the initial thread, of those that pthread_create created, and of the replica that fork made
-- (XSH 2.9.2, pthread_create, fork). A thread is known exactly if its id is one of these: is_known (KnownThreads.antt) is the test of one id.
use Rattle.std.specs.Prelude.{ℕ, if◌then◌else◌, List, [], ◌∷◌, ◌++◌, nat_eq}
use Rattle.pct_model.specs.declared.event.Event.{Event}
use Rattle.pct_model.specs.declared.event.What.{What}
use Rattle.pct_model.specs.declared.event.What.TheVariants as what
use Rattle.pct_laws.specs.KnownThreads.{is_in, makes_process}

-- the id of the thread that an event of its process creates, if it creates one
abbrev pub created_ids : What → List ℕ
created_ids (what.Created id detached) = id ∷ []
created_ids _ = []

-- the ids of the threads of process pid that an event makes known: that of a created thread, and that of the thread that called fork
abbrev pub new_ids : ℕ → Event → List ℕ
new_ids pid e = (if is_in pid e then created_ids e.what else []) ++ (if makes_process pid e.what then e.tid ∷ [] else [])

-- the ids of the known threads of process pid
abbrev pub known_ids : ℕ → List Event → List ℕ
known_ids pid [] = if nat_eq 1 pid then 1 ∷ [] else []
known_ids pid (e ∷ earlier) = new_ids pid e ++ known_ids pid earlier
