-- Writing of a text to a sink.
use Rattle.std.specs.Prelude.{◌≡◌, ℕ, List, Option, Result, OnOk, OnErr}
use Rattle.std.specs.Io.KnownBytes.{Appends}
use Rattle.pct_io.specs.declared.failed.Failed.{Failed}
use Rattle.pct_io.specs.ErrorCounts.{Rose}
use Rattle.pct_io.specs.Inners.{Inner, KeepsInners}
use Rattle.pct_io.specs.Sinks.{AppendsPrefix}

-- At Ok the whole text was written, and no error was recorded. At Err a prefix of it was written, and one error was recorded.
pub record Writes {S : Type 0} (written_of : S → Option (List ℕ)) (errors_of : S → ℕ) (inners_of : S → List Inner) (old new : S) (text : List ℕ) (result : Result (Unit {0}) Failed) : Type 0 where
  pub ok : OnOk result (Appends (written_of old) (written_of new) text)
  pub no_error : OnOk result (errors_of new ≡ errors_of old)
  pub err : OnErr result (AppendsPrefix (written_of old) (written_of new) text)
  pub cause : OnErr result (Rose (errors_of old) (errors_of new))
  pub inners : KeepsInners (inners_of old) (inners_of new)
