-- Readings one after the other.
use Rattle.std.proofs.Common.{◌≡◌, ap}
use Rattle.std.specs.Prelude.{Result, Ok, Err}
use Rattle.pct_tallies.specs.declared.fault.TallyFault.{TallyFault}
use Rattle.pct_tallies.specs.declared.fault.TallyFault.TheVariants as fault
use Rattle.pct_tallies.specs.Faults.{Fails, Fault, Refuses}
use Rattle.pct_tallies.specs.Readings.{Left, Read, ◌>>>◌}

module _ {A B : Type 0} (e : TallyFault) (read : Read A) (f : A → Left → Read B) where
  -- a fault is that of all that is read on
  pub refused_on : Refuses e read → Refuses e (read >>> f)
  refused_on h = by_fault e h
    where
      by_fault : (x : TallyFault) → Refuses x read → Refuses x (read >>> f)
      by_fault fault.NoMemory r = absurd r
      by_fault (fault.Refused line why) r = ap (λ (result : Read A). result >>> f) r

  pub fails_on : Fails e read → Fails e (read >>> f)
  fails_on h = by_fault e h
    where
      by_fault : (x : TallyFault) → Fails x read → Fails x (read >>> f)
      by_fault fault.NoMemory r = tt
      by_fault (fault.Refused line why) r = ap (λ (result : Read A). result >>> f) r

-- a refusal fails
pub fails : {Y : Type 0} (e : TallyFault) (read : Result Y Fault) → Refuses e read → Fails e read
fails fault.NoMemory read r = absurd r
fails (fault.Refused line why) read r = r
