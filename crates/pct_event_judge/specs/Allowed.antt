-- Which laws allow an event after those before it.
use Rattle.std.specs.Prelude.{◌≡◌, ℕ, List}
use Rattle.pct_model.specs.declared.event.Event.{Event}
use Rattle.pct_laws.specs.AfterEnd as AfterEnd
use Rattle.pct_laws.specs.CondLaw as CondLaw
use Rattle.pct_laws.specs.JoinLaw as JoinLaw
use Rattle.pct_laws.specs.KeysLaw as KeysLaw
use Rattle.pct_laws.specs.Once as Once
use Rattle.pct_laws.specs.OnceLaw as OnceLaw
use Rattle.pct_laws.specs.ProcessLaw as ProcessLaw
use Rattle.pct_laws.specs.RanAll as RanAll
use Rattle.pct_laws.specs.RequestsLaw as RequestsLaw
use Rattle.pct_laws.specs.SlotLaw as SlotLaw
use Rattle.pct_event_judge.specs.declared.findings.Allowed.{Allowed}

-- the laws say this of an event, with limits on the passes over destructors and on the slots of threads
pub record AreAllowed (passes slots : ℕ) (e : Event) (earlier : List Event) (allowed : Allowed) : Type 0 where
  pub once : allowed.once ≡ Once.allows passes e earlier
  pub ran_all : allowed.ran_all ≡ RanAll.allows e earlier
  pub after_end : allowed.after_end ≡ AfterEnd.allows e earlier
  pub process : allowed.process ≡ ProcessLaw.allows e earlier
  pub slot : allowed.slot ≡ SlotLaw.allows slots e earlier
  pub join : allowed.join ≡ JoinLaw.allows e earlier
  pub cond : allowed.cond ≡ CondLaw.allows e earlier
  pub call_once : allowed.call_once ≡ OnceLaw.allows e earlier
  pub requests : allowed.requests ≡ RequestsLaw.allows e earlier
  pub keys : allowed.keys ≡ KeysLaw.allows e earlier
