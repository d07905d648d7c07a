-- The answer for `noted`.
use Rattle.pct_laws.specs.AfterEnd as AfterEnd
use Rattle.pct_laws.specs.CondLaw as CondLaw
use Rattle.pct_laws.specs.JoinLaw as JoinLaw
use Rattle.pct_laws.specs.KeysLaw as KeysLaw
use Rattle.pct_laws.specs.Once as Once
use Rattle.pct_laws.specs.OnceLaw as OnceLaw
use Rattle.pct_laws.specs.ProcessLaw as ProcessLaw
use Rattle.pct_laws.specs.RanAll as RanAll
use Rattle.pct_laws.specs.RequestsLaw as RequestsLaw
use Rattle.pct_laws.specs.SlotLaw as SlotLaw
use Rattle.pct_event_judge.proofs.findings.Findings.noted.Goals as goal

pub returns : goal.returns
returns c = λ passes slots n e events number more allowed found. record {
  once = c.noted.ensures (Once.allows passes) n e events number more allowed.once found.once;
  ran_all = c.noted-2.ensures RanAll.allows n e events number more allowed.ran_all found.ran_all;
  after_end = c.noted-3.ensures AfterEnd.allows n e events number more allowed.after_end found.after_end;
  process = c.noted-4.ensures ProcessLaw.allows n e events number more allowed.process found.process;
  slot = c.noted-5.ensures (SlotLaw.allows slots) n e events number more allowed.slot found.slot;
  join = c.noted-6.ensures JoinLaw.allows n e events number more allowed.join found.join;
  cond = c.noted-7.ensures CondLaw.allows n e events number more allowed.cond found.cond;
  call_once = c.noted-8.ensures OnceLaw.allows n e events number more allowed.call_once found.call_once;
  requests = c.noted-9.ensures RequestsLaw.allows n e events number more allowed.requests found.requests;
  keys = c.noted-10.ensures KeysLaw.allows n e events number more allowed.keys found.keys;
}
