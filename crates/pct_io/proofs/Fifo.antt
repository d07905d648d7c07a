-- Lemmas on bytes that pass through a buffer.
use Rattle.std.proofs.Common.{◌≡◌, ℕ, List, [], ◌++◌, Option, Result, Ok, Err, take, sym, ap, ◌∙◌, append_assoc}
use Rattle.std.proofs.lemmas.List.{append-nil}
use Rattle.std.specs.Io.KnownBytes.{WriteAppends}
use Rattle.std.proofs.KnownBytes.{Appends-trans, Appends-nil, Appends-kept}
use Rattle.pct_io.specs.Sinks.{accepted_of}
use Rattle.pct_io.specs.Buffered.{IsFifo}

-- a piece was sent past an empty buffer
pub IsFifo-direct : {E : Type 0} (before after : Option (List ℕ)) (buffer piece : List ℕ) (r : Result ℕ E) → buffer ≡ [] → WriteAppends before after r piece → IsFifo before after buffer buffer (accepted_of r piece)
IsFifo-direct before after buffer piece (Ok n) empty appends = record {
  sent = take n piece;
  order = ap (λ l. take n piece ++ l) empty ∙ append-nil (take n piece) ∙ ap (λ l. l ++ take n piece) (sym empty);
  gained = appends;
}
IsFifo-direct before after buffer piece (Err e) empty keeps = record {
  sent = [];
  order = sym (append-nil buffer);
  gained = Appends-kept before before after [] (Appends-nil before) keeps;
}

-- two stretches of time, of which the first accepts nothing
pub IsFifo-then : (before mid after : Option (List ℕ)) (old between new accepted : List ℕ) → IsFifo before mid old between [] → IsFifo mid after between new accepted → IsFifo before after old new accepted
IsFifo-then before mid after old between new accepted first next = record {
  sent = first.sent ++ next.sent;
  order = append_assoc first.sent next.sent new ∙ ap (λ l. first.sent ++ l) next.order ∙ sym (append_assoc first.sent between accepted) ∙ ap (λ l. l ++ accepted) (first.order ∙ append-nil old);
  gained = Appends-trans before mid after first.sent next.sent first.gained next.gained;
}
