use Rattle.std.proofs.Common.{◌≡◌, sym, ◌∙◌, ◌++◌, length, take, arith, length-append}
use Rattle.std.proofs.KnownBytes.{Consumes-trans}
use Rattle.std.proofs.lemmas.Result.{err_from_is_err_and}
use Rattle.pct_io.proofs.read_write.read_all.Goals as goal

pub returns-then-count-limit : goal.returns-then-count-limit
returns-then-count-limit g c =
    let all = c.loop-all.all.items in
    let more = take c.in_ok-count.count c.read.new.buf in
    let size : length more ≡ c.in_ok-count.count = sym c.in_ok-count.ensures.bound.1 in
    let prefix = Consumes-trans _ _ _ all more c.loop-all.invariant.prefix c.in_ok-count.ensures.bytes.0 in
    record {
      ok = tt;
      too_long = λ _. (all ++ more, record { prefix = prefix; bound = omega (arith, size, length-append all more) });
      failed = λ wrong. absurd cc;
      cause = λ wrong. absurd cc;
      memory = λ wrong. absurd cc;
      prefix = (all ++ more, prefix);
      no_error = λ _. c.in_ok-count.ensures.cause.ok ∙ c.loop-all.invariant.no_error;
    }

pub returns-in_err-extend_from_slice : goal.returns-in_err-extend_from_slice
returns-in_err-extend_from_slice g c =
    let all = c.loop-all.all.items in
    let more = take c.in_ok-count.count c.read.new.buf in
    let size : length more ≡ c.in_ok-count.count = sym c.in_ok-count.ensures.bound.1 in
    let prefix = Consumes-trans _ _ _ all more c.loop-all.invariant.prefix c.in_ok-count.ensures.bytes.0 in
    let p = err_from_is_err_and c.from_residual-in_err-extend_from_slice.result c.from_residual-in_err-extend_from_slice.ensures.1 in
    rw (p.1, p.2) (record {
      ok = tt;
      too_long = λ wrong. absurd cc;
      failed = λ wrong. absurd cc;
      cause = λ wrong. absurd cc;
      memory = λ _. (all ++ more, record { prefix = prefix; some = omega (arith, size, length-append all more); bound = omega (arith, size, length-append all more) });
      prefix = (all ++ more, prefix);
      no_error = λ _. c.in_ok-count.ensures.cause.ok ∙ c.loop-all.invariant.no_error;
    })
