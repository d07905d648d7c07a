-- Tests and readings of one event that look at no name.
use Rattle.pct_names.proofs.Names.{Bool, Option, refl, What, ℕ, ◌≡◌}
use Rattle.pct_model.specs.declared.event.Caller.TheVariants as caller
use Rattle.pct_model.specs.declared.event.What.TheVariants as what
use Rattle.pct_laws.specs.AfterEnd.{begins_exit_with_0, is_of_exit}
use Rattle.pct_laws.specs.CancelEvents.{requests_id, enabled_after}
use Rattle.pct_laws.specs.Ends.{is_leftover}
use Rattle.pct_laws.specs.KeyEvents.{key_after}
use Rattle.pct_laws.specs.KnownIds.{created_ids}
use Rattle.pct_laws.specs.KnownThreads.{makes_process, creates_id, detaches_id, joins_id, reports_end}
use Rattle.pct_laws.specs.NewestEvents.{reports_call}
use Rattle.pct_laws.specs.ProcessEnds.{exit_after, status_after}
use Rattle.pct_laws.specs.ProcessLaw.{is_stop, reaps_process}
use Rattle.pct_laws.specs.RanAll.{begins_to_end}
use Rattle.pct_laws.specs.RequestsLaw.{calls_sem_wait}
use Rattle.pct_laws.specs.WaitStages.{cancels_wait, expires_wait, returns_from_wait, returns_timed_out}
use Rattle.pct_event_laws.specs.Renamed.{Naming, renamed}

-- it gives the same of a renamed event
abbrev pub IgnoresNames : {A : Type 0} → (What → A) → Type 0
IgnoresNames test = (n : Naming) (w : What) → test (renamed n w) ≡ test w

-- ---- threads

pub makes-same : (pid : ℕ) → IgnoresNames (makes_process pid)
makes-same pid n (what.Forked child) = refl
makes-same pid n _ = refl

pub creates-same : (tid : ℕ) → IgnoresNames (creates_id tid)
creates-same tid n (what.Created id detached) = refl
creates-same tid n _ = refl

pub created_ids-same : IgnoresNames created_ids
created_ids-same n (what.Created id detached) = refl
created_ids-same n _ = refl

pub detaches-same : (tid : ℕ) → IgnoresNames (detaches_id tid)
detaches-same tid n (what.Created id detached) = refl
detaches-same tid n (what.Detached id) = refl
detaches-same tid n _ = refl

pub joins-same : (tid : ℕ) → IgnoresNames (joins_id tid)
joins-same tid n (what.Joined id v) = refl
joins-same tid n _ = refl

pub calls-same : (index : ℕ) → IgnoresNames (reports_call index)
calls-same index n (what.Called i) = refl
calls-same index n _ = refl

-- ---- ends

pub begins_to_end-same : IgnoresNames begins_to_end
begins_to_end-same n (what.EndingExit v) = refl
begins_to_end-same n what.EndingCanceled = refl
begins_to_end-same n (what.EndingInWait c m) = refl
begins_to_end-same n _ = refl

pub reports_end-same : IgnoresNames reports_end
reports_end-same n (what.EndedWith v) = refl
reports_end-same n _ = refl

pub leftover-same : IgnoresNames is_leftover
leftover-same n (what.Leftover v) = refl
leftover-same n _ = refl

pub exit_with_0-same : IgnoresNames begins_exit_with_0
exit_with_0-same n (what.ExitBegun v) = refl
exit_with_0-same n _ = refl

pub of_exit-same : IgnoresNames is_of_exit
of_exit-same n (what.Emit v) = refl
of_exit-same n (what.ExitRun f) = refl
of_exit-same n (what.Acquired m) = refl
of_exit-same n (what.Released m) = refl
of_exit-same n (what.ProcessEnded k) = refl
of_exit-same n (what.Stopped why) = refl
of_exit-same n _ = refl

-- ---- requests and keys

pub requests-same : (tid : ℕ) → IgnoresNames (requests_id tid)
requests-same tid n (what.Request id) = refl
requests-same tid n _ = refl

pub enabled-same : (enabled : Bool) → IgnoresNames (λ w. enabled_after w enabled)
enabled-same enabled n (what.StateSet enable) = refl
enabled-same enabled n _ = refl

pub key-same : (key : ℕ) (there : Bool) → IgnoresNames (λ w. key_after key w there)
key-same key there n (what.KeyMade k) = refl
key-same key there n (what.KeyGone k) = refl
key-same key there n _ = refl

-- ---- processes

pub exit-same : (before : Option ℕ) → IgnoresNames (λ w. exit_after w before)
exit-same before n (what.ExitBegun v) = refl
exit-same before n _ = refl

pub status-same : (before : Option ℕ) → IgnoresNames (λ w. status_after w before)
status-same before n (what.ProcessEnded k) = refl
status-same before n _ = refl

pub stop-same : IgnoresNames is_stop
stop-same n (what.Stopped why) = refl
stop-same n _ = refl

pub reaps-same : (pid : ℕ) → IgnoresNames (reaps_process pid)
reaps-same pid n (what.Reaped q k) = refl
reaps-same pid n _ = refl

-- ---- waits

pub sem_wait-same : IgnoresNames calls_sem_wait
sem_wait-same n (what.Called index) = refl
sem_wait-same n _ = refl

pub cancels-same : IgnoresNames cancels_wait
cancels-same n (what.WaitCanceled c) = refl
cancels-same n _ = refl

pub expires-same : IgnoresNames expires_wait
expires-same n (what.WaitExpired c) = refl
expires-same n _ = refl

pub returns-same : (timed : Bool) → IgnoresNames (returns_from_wait timed)
returns-same timed n (what.Done index) = refl
returns-same timed n _ = refl

pub timed_out-same : IgnoresNames returns_timed_out
timed_out-same n (what.Answer caller.CondTimedWait k) = refl
timed_out-same n _ = refl
