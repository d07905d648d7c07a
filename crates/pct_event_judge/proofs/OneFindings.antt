-- Events have one set of findings at the most.
use Rattle.std.proofs.Common.{◌≡◌, ℕ, List, length, refl}
use Rattle.pct_model.specs.declared.event.Event.{Event}
use Rattle.pct_laws.specs.AfterEnd as AfterEnd
use Rattle.pct_laws.specs.CondLaw as CondLaw
use Rattle.pct_laws.specs.JoinLaw as JoinLaw
use Rattle.pct_laws.specs.KeysLaw as KeysLaw
use Rattle.pct_laws.specs.Once as Once
use Rattle.pct_laws.specs.OnceLaw as OnceLaw
use Rattle.pct_laws.specs.ProcessLaw as ProcessLaw
use Rattle.pct_laws.specs.RanAll as RanAll
use Rattle.pct_laws.specs.RequestsLaw as RequestsLaw
use Rattle.pct_laws.specs.SlotLaw as SlotLaw
use Rattle.pct_process_monitors.proofs.LeftoverEvents.{first_unfollowed_once}
use Rattle.pct_event_judge.specs.declared.findings.Findings.{Findings}
use Rattle.pct_event_judge.specs.Findings.{AreFindings}
use Rattle.pct_event_judge.proofs.FoundEvents.{found_is_one}

pub findings_are_one : (passes slots : ℕ) (events : List Event) (f g : Findings) → AreFindings passes slots events f → AreFindings passes slots events g → f ≡ g
findings_are_one passes slots events f g is also =
    let n : ℕ = length events in
    let once : f.once ≡ g.once = found_is_one (Once.allows passes) events n f.once g.once is.laws.once also.laws.once in
    let ran_all : f.ran_all ≡ g.ran_all = found_is_one RanAll.allows events n f.ran_all g.ran_all is.laws.ran_all also.laws.ran_all in
    let after_end : f.after_end ≡ g.after_end = found_is_one AfterEnd.allows events n f.after_end g.after_end is.laws.after_end also.laws.after_end in
    let process : f.process ≡ g.process = found_is_one ProcessLaw.allows events n f.process g.process is.laws.process also.laws.process in
    let slot : f.slot ≡ g.slot = found_is_one (SlotLaw.allows slots) events n f.slot g.slot is.laws.slot also.laws.slot in
    let join : f.join ≡ g.join = found_is_one JoinLaw.allows events n f.join g.join is.laws.join also.laws.join in
    let cond : f.cond ≡ g.cond = found_is_one CondLaw.allows events n f.cond g.cond is.laws.cond also.laws.cond in
    let call_once : f.call_once ≡ g.call_once = found_is_one OnceLaw.allows events n f.call_once g.call_once is.laws.call_once also.laws.call_once in
    let requests : f.requests ≡ g.requests = found_is_one RequestsLaw.allows events n f.requests g.requests is.laws.requests also.laws.requests in
    let keys : f.keys ≡ g.keys = found_is_one KeysLaw.allows events n f.keys g.keys is.laws.keys also.laws.keys in
    let leftover : f.leftover ≡ g.leftover = first_unfollowed_once events f.leftover g.leftover is.leftover also.leftover in
    rw (once, ran_all, after_end, process, slot, join, cond, call_once, requests, keys, leftover) refl
