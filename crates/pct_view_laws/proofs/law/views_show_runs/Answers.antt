use Rattle.pct_view_laws.proofs.BlockedWaits.{blocked_threads_wait}
use Rattle.pct_view_laws.proofs.LegalListed.{legal_entries_listed}
use Rattle.pct_view_laws.proofs.ListedSeen.{listed_is_seen}
use Rattle.pct_view_laws.proofs.ProcessesSeen.{processes_are_seen}
use Rattle.pct_view_laws.proofs.StartSeen.{start_is_seen}
use Rattle.pct_view_laws.proofs.TracedRuns.{traces_runs}
use Rattle.pct_view_laws.proofs.law.views_show_runs.Goals as goal

pub returns-clause-legal : goal.returns-clause-legal
returns-clause-legal c = legal_entries_listed

pub returns-clause-waits : goal.returns-clause-waits
returns-clause-waits c = blocked_threads_wait

pub returns-clause-traces : goal.returns-clause-traces
returns-clause-traces c = traces_runs

pub returns-clause-listed : goal.returns-clause-listed
returns-clause-listed c = listed_is_seen

pub returns-clause-processes : goal.returns-clause-processes
returns-clause-processes c = processes_are_seen

pub returns-clause-starts : goal.returns-clause-starts
returns-clause-starts c = start_is_seen
