-- The codes of statuses.
use Rattle.std.specs.Prelude.{◌≢◌, ℕ}
use Rattle.pct_command.specs.declared.status.Status.{Status}
use Rattle.pct_command.specs.declared.status.Status.TheVariants as status

-- the code with which the program exits
abbrev pub code_of : Status → ℕ
code_of status.Complete = 0
code_of status.Deadlock = 1
code_of status.Budget = 2
code_of status.Undefined = 3
code_of status.Open = 4
code_of status.Usage = 5
code_of status.ScriptRefused = 6
code_of status.ScheduleRefused = 7
code_of status.TooLong = 8
code_of status.ReadFault = 9
code_of status.WriteFault = 10
code_of status.NoMemory = 11
code_of status.AuditFailed = 12
code_of status.ReportRefused = 13
code_of status.ExpectFailed = 14
code_of status.ExpectRefused = 15
code_of status.TallyRefused = 16

-- the status of an answer: no call failed, and memory did not run out
pub record IsAnswered (s : Status) : Type 0 where
  pub no_read_fault : s ≢ status.ReadFault
  pub no_write_fault : s ≢ status.WriteFault
  pub some_memory : s ≢ status.NoMemory
