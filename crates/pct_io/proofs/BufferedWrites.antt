-- Lemmas on the bytes that a buffered sink writes to the sink that it wraps.
use Rattle.std.proofs.Common.{◌≡◌, ℕ, ◌+◌, ◌≤◌, List, [], ◌++◌, Option, None, Some, Result, Ok, Err, OnOk, length, take, refl, sym, ap, ◌∙◌, subst, arith, length-append, length-take, append_assoc}
use Rattle.std.proofs.lemmas.List.{append-nil, append_cancel_left, take_at, take-take}
use Rattle.std.proofs.Math.Seq.{take-length}
use Rattle.std.proofs.KnownBytes.{Appends-kept}
use Rattle.std.specs.Io.KnownBytes.{Appends, append_known}
use Rattle.pct_io.specs.declared.failed.Failed.{Failed}
use Rattle.pct_io.specs.declared.buffered_sink.BufferedSink.{BufferedSink}
use Rattle.pct_io.specs.Sinks.{AppendsPrefix}
use Rattle.pct_io.specs.Inners.{Inner, Grows}
use Rattle.pct_io.specs.Buffered.{buffered, inners_through, KeepsWritten}
use Rattle.pct_io.specs.Writes.{Writes}
use Rattle.pct_io.proofs.ErrorCounts.{Rose-unchanged}
use Rattle.pct_io.proofs.Unchanged.{KeepsInners-trans}

pub append_known-nil : (known : Option (List ℕ)) → append_known known [] ≡ known
append_known-nil None = refl
append_known-nil (Some xs) = ap Some (append-nil xs)

-- if the buffer is empty before and after, the wrapped sink grew by the written text
whole_through : (old new : Option (List ℕ)) (before after text : List ℕ) → before ≡ [] → after ≡ [] → Appends (append_known old before) (append_known new after) text → Appends old new text
whole_through old new before after text none_before none_after appends =
    let from : append_known old before ≡ old = ap (append_known old) none_before ∙ append_known-nil old in
    let to : append_known new after ≡ new = ap (append_known new) none_after ∙ append_known-nil new in
    subst (λ known. Appends known new text) from (subst (λ known. Appends (append_known old before) known text) to appends)

-- if the buffer is empty before, the wrapped sink grew by a prefix of the written text
part_through : (old new : Option (List ℕ)) (before after text : List ℕ) → before ≡ [] → Grows old new → AppendsPrefix (append_known old before) (append_known new after) text → AppendsPrefix old new text
part_through None new before after text none_before grows part = (0, omega arith, tt)
part_through (Some xs) None before after text none_before grows part = absurd grows.1
part_through (Some xs) (Some ys) before after text none_before grows part =
    let more = grows.0 in
    let n = part.0 in
    let same : xs ++ (more ++ after) ≡ xs ++ take n text =
    sym (append_assoc xs more after) ∙ ap (λ l. l ++ after) (sym grows.1) ∙ part.2 ∙ ap (λ l. l ++ take n text) (ap (λ l. xs ++ l) none_before ∙ append-nil xs) in
    let sent : more ++ after ≡ take n text = append_cancel_left xs (more ++ after) (take n text) same in
    let size : length more + length after ≡ length (take n text) = sym (length-append more after) ∙ ap length sent in
    let within : length more ≤ n = omega (arith, size, length-take n text) in
    let prefix : more ≡ take (length more) text =
    sym (take_at more after (length more) refl) ∙ ap (take (length more)) sent ∙ take-take (length more) n text within in
    (length more, omega (arith, size, length-take n text), grows.1 ∙ ap (λ l. xs ++ l) prefix)

module _ {K : Type 0} {written_of : K → Option (List ℕ)} {errors_of : K → ℕ} {inners_of : K → List Inner} where
  -- a whole text, followed by a flush
  pub Writes-kept : {old mid new : BufferedSink K} {text : List ℕ} {x : Unit {0}} (r : Result (Unit {0}) Failed)
      → Writes (buffered written_of) (λ outer. errors_of outer.sink.now) (inners_through written_of inners_of) old mid text (Ok x) → KeepsWritten written_of errors_of inners_of mid new r → Writes (buffered written_of) (λ outer. errors_of outer.sink.now) (inners_through written_of inners_of) old new text r
  Writes-kept {old = old} {mid = mid} {new = new} {text = text} (Ok y) first kept = record {
    ok = Appends-kept (buffered written_of old) (buffered written_of mid) (buffered written_of new) text first.ok kept.bytes;
    no_error = kept.cause.ok ∙ first.no_error;
    err = tt;
    cause = tt;
    inners = KeepsInners-trans (inners_through written_of inners_of old) (inners_through written_of inners_of mid) (inners_through written_of inners_of new) first.inners kept.inners;
  }
  Writes-kept {old = old} {mid = mid} {new = new} {text = text} (Err e) first kept = record {
    ok = tt;
    no_error = tt;
    err = (length text, omega arith, subst (Appends (buffered written_of old) (buffered written_of new)) (sym (take-length text)) (Appends-kept (buffered written_of old) (buffered written_of mid) (buffered written_of new) text first.ok kept.bytes));
    cause = Rose-unchanged (errors_of old.sink.now) (errors_of mid.sink.now) (errors_of new.sink.now) first.no_error kept.cause.err;
    inners = KeepsInners-trans (inners_through written_of inners_of old) (inners_through written_of inners_of mid) (inners_through written_of inners_of new) first.inners kept.inners;
  }

  through : (old new : BufferedSink K) (text : List ℕ) (r : Result (Unit {0}) Failed) → old.buffer ≡ [] → OnOk r (new.buffer ≡ []) → Writes (buffered written_of) (λ outer. errors_of outer.sink.now) (inners_through written_of inners_of) old new text r
      → Writes written_of errors_of inners_of old.sink.now new.sink.now text r
  through old new text (Ok x) none_before none_after writes = record {
    ok = whole_through (written_of old.sink.now) (written_of new.sink.now) old.buffer new.buffer text none_before none_after writes.ok;
    no_error = writes.no_error;
    err = tt;
    cause = tt;
    inners = writes.inners.1;
  }
  through old new text (Err e) none_before none_after writes = record {
    ok = tt;
    no_error = tt;
    err = part_through (written_of old.sink.now) (written_of new.sink.now) old.buffer new.buffer text none_before writes.inners.0.grows writes.err;
    cause = writes.cause;
    inners = writes.inners.1;
  }

  -- A text written through a buffered sink was written to the wrapped sink. The buffer is empty at the start, and at Ok it is empty at the end.
  pub Writes-through : {old new : BufferedSink K} {start last : K} {text : List ℕ} (r : Result (Unit {0}) Failed) → old.sink.now ≡ start → last ≡ new.sink.now
      → old.buffer ≡ [] → OnOk r (new.buffer ≡ []) → Writes (buffered written_of) (λ outer. errors_of outer.sink.now) (inners_through written_of inners_of) old new text r → Writes written_of errors_of inners_of start last text r
  Writes-through {old = old} {new = new} {last = last} {text = text} r from to none_before none_after writes =
      subst (λ start. Writes written_of errors_of inners_of start last text r) from
      (subst (λ end. Writes written_of errors_of inners_of old.sink.now end text r) (sym to) (through old new text r none_before none_after writes))
