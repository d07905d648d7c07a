-- Reading to the end of a source.
use Rattle.std.specs.Prelude.{◌≡◌, ℕ, ◌<◌, ◌≤◌, List, length, Option, Result, IfOk, IfSome, IsErrOf}
use Rattle.std.specs.Global.{Vec}
use Rattle.std.specs.Io.KnownBytes.{Consumes, IsAtEnd}
use Rattle.pct_io.specs.declared.failed.ReadEnd.{ReadEnd}
use Rattle.pct_io.specs.declared.failed.ReadEnd.TheVariants as read_end
use Rattle.pct_io.specs.ErrorCounts.{Rose}

-- all bytes of the source were read, and they are at most limit
pub record IsAll (old new : Option (List ℕ)) (limit : ℕ) (bytes : List ℕ) : Type 0 where
  pub prefix : Consumes old new bytes
  pub end : IsAtEnd new
  pub bytes_are : IfSome old (λ known. known ≡ bytes)
  pub bound : length bytes ≤ limit

-- the bytes consumed are at most limit
pub record IsWithin (old new : Option (List ℕ)) (limit : ℕ) (consumed : List ℕ) : Type 0 where
  pub prefix : Consumes old new consumed
  pub bound : length consumed ≤ limit

-- the bytes consumed are more than limit
pub record IsOver (old new : Option (List ℕ)) (limit : ℕ) (consumed : List ℕ) : Type 0 where
  pub prefix : Consumes old new consumed
  pub bound : limit < length consumed

-- the bytes consumed are at least one and at most limit
pub record IsBegun (old new : Option (List ℕ)) (limit : ℕ) (consumed : List ℕ) : Type 0 where
  pub prefix : Consumes old new consumed
  pub some : 0 < length consumed
  pub bound : length consumed ≤ limit

-- At Ok all bytes were read. At TooLong more than limit bytes were consumed. At Failed at most limit bytes were consumed,
-- and at NoMemory also at least one. Failed alone records an error.
pub record ReadsAll {S : Type 0} (left_of : S → Option (List ℕ)) (errors_of : S → ℕ) (old new : S) (limit : ℕ) (result : Result (Vec ℕ) ReadEnd) : Type 0 where
  pub ok : IfOk result (λ all. IsAll (left_of old) (left_of new) limit all.items)
  pub too_long : IsErrOf result read_end.TooLong → (consumed : List ℕ) × IsOver (left_of old) (left_of new) limit consumed
  pub failed : IsErrOf result read_end.Failed → (consumed : List ℕ) × IsWithin (left_of old) (left_of new) limit consumed
  pub cause : IsErrOf result read_end.Failed → Rose (errors_of old) (errors_of new)
  pub memory : IsErrOf result read_end.NoMemory → (consumed : List ℕ) × IsBegun (left_of old) (left_of new) limit consumed
  pub prefix : (consumed : List ℕ) × Consumes (left_of old) (left_of new) consumed
  pub no_error : ¬ IsErrOf result read_end.Failed → errors_of new ≡ errors_of old
