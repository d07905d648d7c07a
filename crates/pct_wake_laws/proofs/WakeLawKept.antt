-- Every run keeps the law of wake-ups.
use Rattle.pct_names.proofs.Names.{Config, Entry, List, list_all, next_of, Script, true, ◌≡◌}
use Rattle.pct_laws.specs.WakeLaw.{hands_its_signal_on, KeepsOthers, may_become, names_waiters, WakeLaw}
use Rattle.pct_thread_invariants.proofs.lift.MovedThreads.{each_step}
use Rattle.pct_wake_laws.proofs.HandedOnSignals.{handed_on_of_run}
use Rattle.pct_wake_laws.proofs.NamedWaiters.{named_of_run}
use Rattle.pct_wake_laws.proofs.OtherThreads.{others_of_run}
use Rattle.pct_wake_laws.proofs.OwnWaits.{own_of_run}

pub wake_law : (script : Script) (config : Config) (entries : List Entry) → WakeLaw script config entries
wake_law script config entries = record {
  named = each_step script config (λ s. list_all (names_waiters s.process.threads) s.events ≡ true) (named_of_run script config) entries;
  others = each_step script config KeepsOthers (others_of_run script config) entries;
  own = each_step script config (λ s. may_become (next_of script s.before.frames) s.events s.before.status s.after.status ≡ true) (own_of_run script config) entries;
  handed_on = each_step script config (λ s. hands_its_signal_on s ≡ true) (handed_on_of_run script config) entries;
}
