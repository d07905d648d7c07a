-- The bytes that a buffered sink has written, and the sinks that it writes to.
use Rattle.std.specs.Prelude.{◌≡◌, ℕ, List, ◌∷◌, ◌++◌, Option, Result}
use Rattle.std.specs.Io.KnownBytes.{Keeps, Appends, append_known}
use Rattle.pct_io.specs.declared.failed.Failed.{Failed}
use Rattle.pct_io.specs.declared.buffered_sink.BufferedSink.{BufferedSink}
use Rattle.pct_io.specs.ErrorCounts.{HasCause}
use Rattle.pct_io.specs.Inners.{Inner, KeepsInners}

-- the bytes of the wrapped sink, followed by the buffered bytes
abbrev pub buffered : {K : Type 0} → (K → Option (List ℕ)) → BufferedSink K → Option (List ℕ)
buffered written_of outer = append_known (written_of outer.sink.now) outer.buffer

-- the wrapped sink, followed by the inner sinks of that sink
abbrev pub inners_through : {K : Type 0} → (K → Option (List ℕ)) → (K → List Inner) → BufferedSink K → List Inner
inners_through written_of inners_of outer = record { name = outer.sink.ghost_name; written = written_of outer.sink.now } ∷ inners_of outer.sink.now

-- The written bytes stay the same, whether they are in the buffer or in the wrapped sink. At Err one error was recorded.
pub record KeepsWritten {K : Type 0} (written_of : K → Option (List ℕ)) (errors_of : K → ℕ) (inners_of : K → List Inner) (old new : BufferedSink K) (result : Result (Unit {0}) Failed) : Type 0 where
  pub bytes : Keeps (buffered written_of old) (buffered written_of new)
  pub cause : HasCause (errors_of old.sink.now) (errors_of new.sink.now) result
  pub inners : KeepsInners (inners_through written_of inners_of old) (inners_through written_of inners_of new)

-- Between two moments bytes are accepted into the buffer and sent from it, first in, first out. No byte is lost, doubled or
-- made up, and a wrapped sink that reports its bytes grew by those that were sent.
pub record IsFifo (old_written new_written : Option (List ℕ)) (old_buffer new_buffer accepted : List ℕ) : Type 0 where
  pub sent : List ℕ
  pub order : sent ++ new_buffer ≡ old_buffer ++ accepted
  pub gained : Appends old_written new_written sent

-- the accepted bytes pass through the buffer to the wrapped sink
abbrev pub PassesThrough : {K : Type 0} → (K → Option (List ℕ)) → BufferedSink K → BufferedSink K → List ℕ → Type 0
PassesThrough written_of old new accepted = IsFifo (written_of old.sink.now) (written_of new.sink.now) old.buffer new.buffer accepted
