use Rattle.pct_event_laws.proofs.RenamedLaws.{changes_no_law, kept_by_renaming}
use Rattle.pct_event_laws.proofs.law.renaming_changes_no_law.Goals as goal

pub returns-clause-exact : goal.returns-clause-exact
returns-clause-exact c = changes_no_law

pub returns-clause-kept : goal.returns-clause-kept
returns-clause-kept c = kept_by_renaming
