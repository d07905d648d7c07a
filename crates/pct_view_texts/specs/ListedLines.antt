-- The lines of `choices` and of `states`, as they are appended one after the other.
use Rattle.std.specs.Prelude.{ℕ, Bool, true, false, if◌then◌else◌, List, [], ◌++◌, map, Option, is_some}
use Rattle.std.specs.Option.{option_map_or}
use Rattle.pct_model.specs.declared.schedule.Alt.{Alt}
use Rattle.pct_model.specs.declared.schedule.Config.{Config}
use Rattle.pct_model.specs.declared.script.Script.{Script}
use Rattle.pct_model.specs.declared.stop.Verdict.{Verdict}
use Rattle.pct_model.specs.declared.stop.Verdict.TheVariants.{Undefined}
use Rattle.pct_model.specs.Keywords.{line_text, text_of}
use Rattle.pct_model.specs.Report.{entry_line}
use Rattle.pct_model.specs.World.{Thread}
use Rattle.pct_engine_laws.specs.Seen.{SeenProcess, Seen, family_in}
use Rattle.pct_view_laws.specs.Listed.{ListedThread, entry_by}
use Rattle.pct_view_laws.specs.ListedProcesses.{ListedProcess, process_in}
use Rattle.pct_view_laws.specs.SeenViews.{listed_process}
use Rattle.pct_view_texts.specs.Choices.{thread_fields}
use Rattle.pct_view_texts.specs.Fields.{fields_text}
use Rattle.pct_view_texts.specs.States.{process_lines, values_fields}

-- whether a run with this verdict was not stopped
abbrev pub goes_on : Verdict → Bool
goes_on (Undefined why) = false
goes_on _ = true

-- the line of the entry with worker 1 of the thread with these ids, by a choice
abbrev pub choice_line : ℕ → ℕ → Alt → List ℕ
choice_line pid tid choice = line_text (entry_line (record { worker = 1; pid = pid; tid = tid; alt = choice }))

-- the lines of the entries of a thread
abbrev pub entry_lines : ListedThread → List ℕ
entry_lines l = text_of (map entry_line (map (entry_by l) l.choices))

-- the line of a thread, and those of its entries if the run goes on. `lines` has the numbers of the lines of the script's statements
abbrev pub lines_by : List (List ℕ) → Script → Bool → ListedThread → List ℕ
lines_by lines script going l = fields_text (thread_fields lines script l) ++ (if going then entry_lines l else [])

-- the threads of a process that are listed, if there is a process
abbrev pub listed_if_some : Script → Config → Seen → Option SeenProcess → List ListedThread
listed_if_some script config v found = option_map_or (λ p. listed_process script config (family_in v p.pid) p) found []

-- the line of a thread of a process, with its values
abbrev pub values_lines : List (List ℕ) → Script → ListedProcess → Thread → List ℕ
values_lines lines script p t = fields_text (values_fields lines script p t)

-- the lines of a process with its values, if it has not ended
abbrev pub process_lines_seen : List (List ℕ) → Script → SeenProcess → List ℕ
process_lines_seen lines script p = if is_some p.ended then [] else process_lines lines script (process_in p)
