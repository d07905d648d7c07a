use Rattle.pct_names.proofs.Names.{ap, arith, has_timeouts}
use Rattle.pct_engine_laws.specs.Seen.{Seen}
use Rattle.pct_machine.proofs.FollowingLists.{follow_refreshed, fresh_refreshed}
use Rattle.pct_machine.proofs.ReadPlaces.{process_read}
use Rattle.pct_machine.proofs.machine.Machine.refresh.Goals as goal

pub refresh-requires : goal.refresh-requires
refresh-requires c =
    let places = c.as_slice-places in
    let p = c.index-places-index in
    c.loop-index.invariant.follow c.loop-index.index p.result
    (process_read c.args.self.now places.result.now _ c.loop-index.index p.result places.ensures.value (ap (λ (v : Seen). v.processes) c.self.view_is) c.loop-index-test.true p.is)

pub loop-index-init : goal.loop-index-init
loop-index-init c = record { follow = c.requires; fresh = λ i less. absurd (omega (arith, less)) }

pub loop-index-preserved : goal.loop-index-preserved
loop-index-preserved c =
    let places = c.as_slice-places in
    let p = c.index-places-index in
    let refreshed = c.refresh.ensures in
    record {
      follow =
          follow_refreshed c.args.program.now.script (has_timeouts c.args.program.now.config.format) c.args.self.now.processes c.loop-index.sets c.refresh.new.sets c.loop-index.index p.result
          (process_read c.args.self.now places.result.now _ c.loop-index.index p.result places.ensures.value (ap (λ (v : Seen). v.processes) c.self.view_is) c.loop-index-test.true p.is)
          refreshed.here refreshed.others c.loop-index.invariant.follow;
      fresh = fresh_refreshed c.loop-index.sets c.refresh.new.sets c.loop-index.index refreshed.fresh refreshed.others c.loop-index.invariant.fresh;
    }
