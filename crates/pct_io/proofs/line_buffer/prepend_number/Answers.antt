use Rattle.std.proofs.Common.{◌≡◌, ◌+◌, ◌-◌, ◌++◌, drop, decimal, arith, length-set}
use Rattle.std.specs.Prelude.{slice_set}
use Rattle.std.proofs.lemmas.Fmt.{decimal_digit}
use Rattle.std.proofs.lemmas.List.{drop-set}
use Rattle.pct_io.proofs.line_buffer.prepend_number.Goals as goal

pub returns-then-end-gt0 : goal.returns-then-end-gt0
returns-then-end-gt0 c =
    let number = c.args.number in
    let buffer = c.args.buffer.now in
    let at = c.args.end - 1 in
    let e : at + 1 ≡ c.args.end = omega (arith, c.if-end-gt0.true) in
    let written : drop at (slice_set buffer at (48 + number)) ≡ decimal number ++ drop c.args.end buffer =
    rw (drop-set buffer at (48 + number) (omega arith), e, decimal_digit number c.if-number-lt10.true)
    in record { len = length-set buffer at (48 + number); start = omega arith; written = written; none = _ }
