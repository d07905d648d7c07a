-- Two example scripts, as texts, and the reports of their runs.
use Rattle.std.specs.Prelude.{ℕ, List, codes}
use Rattle.pct_model.specs.declared.schedule.Alt.TheVariants.{Go}
use Rattle.pct_model.specs.declared.schedule.Entry.{Entry}

-- an entry of thread 1 of process 1 with the choice `go`, made by worker 1
abbrev pub first_goes : Entry
first_goes = record { worker = 1; pid = 1; tid = 1; alt = Go }

-- `main` returns at once
abbrev pub smallest_text : List ℕ
smallest_text = codes "fn main x\nreturn 0\nend\n"

-- the report of its run
abbrev pub smallest_report : List ℕ
smallest_report = codes "report 1\n1.1 exit 0\n1.1 process_end 0\nverdict complete\nschedule 1 10000 4 64\n1 1 1 go\n1 1 1 go\nend 2\n"

-- a cleanup handler that a pop calls
abbrev pub cleanup_text : List ℕ
cleanup_text = codes "fn h x\nemit x\nend\nfn main x\npthread_cleanup_push h 1\nemit 5\npthread_cleanup_pop 1\nreturn 0\nend\n"

-- the report of its run
abbrev pub cleanup_report : List ℕ
cleanup_report = codes "report 1\n1.1 push h 1\n1.1 emit 5\n1.1 pop h 1 run\n1.1 emit 1\n1.1 exit 0\n1.1 process_end 0\nverdict complete\nschedule 1 10000 4 64\n1 1 1 go\n1 1 1 go\n1 1 1 go\n1 1 1 go\n1 1 1 go\n1 1 1 go\n1 1 1 go\nend 7\n"
