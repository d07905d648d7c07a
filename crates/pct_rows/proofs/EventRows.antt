-- The texts of the events and the stops of processes, of waits with a time and of once controls, in a script with a condition variable, a
-- once control and two functions.
use Rattle.pct_names.proofs.Names.{[], codes, Contents, digits, event_line, event_words, flat_map, is_static, IsTrue, keyword_text}
use Rattle.pct_names.proofs.Names.{line_text, List, name_at, refl, Script, stop_words, syntax_of, thread_text, What, ℕ, ◌∷◌, ◌≡◌}
use Rattle.pct_model.specs.declared.statement.Stmt.TheVariants as statement
use Rattle.pct_model.specs.declared.event.Caller.TheVariants as caller
use Rattle.pct_model.specs.declared.event.What.TheVariants as what
use Rattle.pct_model.specs.declared.stop.Why.TheVariants as why
use Rattle.pct_rows.proofs.OnLiterals.{checks_on_literals}

abbrev contents : Contents
contents = record {
  globals = [];
  mutexes = [];
  conds = codes "c" ∷ [];
  sems = [];
  onces = codes "o" ∷ [];
  funcs = record { name = codes "f"; locals = codes "x" ∷ []; body = statement.End ∷ [] } ∷ record { name = codes "main"; locals = codes "x" ∷ []; body = statement.End ∷ [] } ∷ [];
}

contents_pass : IsTrue (is_static contents)
unfolding checks_on_literals
contents_pass = refl

abbrev script : Script
script = record { globals = contents.globals; mutexes = contents.mutexes; conds = contents.conds; sems = contents.sems; onces = contents.onces; funcs = contents.funcs; passes_checks = contents_pass }

-- the lines of these events of thread 34 of process 2
abbrev lines : List What → List ℕ
lines events = flat_map (λ w. line_text (event_line script (record { pid = 2; tid = 34; what = w }))) events

-- processes
process_events : lines (what.Forked 3 ∷ what.PrepareRun 0 ∷ what.ParentRun 0 ∷ what.ChildRun 1 ∷ what.Reaped 3 255 ∷ []) ≡ codes "2.34 fork 3\n2.34 prepare f\n2.34 parent f\n2.34 child main\n2.34 reap 3 255\n"
unfolding digits keyword_text name_at event_words thread_text event_line
process_events = refl

-- error numbers
answer_events : lines (what.Answer caller.AtFork 2 ∷ what.Answer caller.Fork 1 ∷ what.Answer caller.WaitPid 3 ∷ []) ≡ codes "2.34 answer pthread_atfork 2\n2.34 answer fork 1\n2.34 answer waitpid 3\n"
unfolding digits keyword_text syntax_of event_words thread_text event_line
answer_events = refl

-- the time of a wait expires
expiry_events : lines (what.WaitExpired 0 ∷ what.Answer caller.CondTimedWait 4 ∷ what.Answer caller.SemTimedWait 4 ∷ []) ≡ codes "2.34 expire c\n2.34 answer pthread_cond_timedwait 4\n2.34 answer sem_timedwait 4\n"
unfolding digits keyword_text name_at syntax_of event_words thread_text event_line
expiry_events = refl

-- the init routine of a once control is called, and returns
once_events : lines (what.OnceCalled 0 ∷ what.OnceDone 0 ∷ []) ≡ codes "2.34 once o call\n2.34 once o done\n"
unfolding digits keyword_text name_at event_words thread_text event_line
once_events = refl

-- stops
stop_events : lines (what.Stopped why.ForkChildCall ∷ what.Stopped why.ForkInEnding ∷ []) ≡ codes "2.34 profile fork_child_call\n2.34 profile fork_in_ending\n"
unfolding digits keyword_text stop_words event_words thread_text event_line
stop_events = refl
