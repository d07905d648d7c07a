use Rattle.std.proofs.Common.{◌≡◌, ◌+◌, ◌-◌, ◌/◌, ◌%◌, ◌++◌, drop, decimal, arith, rules, length-set}
use Rattle.std.specs.Prelude.{slice_set}
use Rattle.std.proofs.lemmas.Fmt.{length-decimal-le}
use Rattle.std.proofs.lemmas.List.{drop-set}
use Rattle.pct_io.proofs.TwoDigits.{decimal_two}
use Rattle.pct_io.proofs.line_buffer.prepend_digits.Goals as goal

pub returns-then-number-lt100 : goal.returns-then-number-lt100
returns-then-number-lt100 c =
    let number = c.args.number in
    let buffer = c.args.buffer.now in
    let last = c.args.end - 1 in
    let first = c.args.end - 2 in
    let ones = 48 + number % 10 in
    let tens = 48 + number / 10 in
    let begun = slice_set buffer last ones in
    let end_is : last + 1 ≡ c.args.end = omega arith in
    let last_is : first + 1 ≡ last = omega arith in
    let len = length-set begun first tens in
    let begun_len = length-set buffer last ones in
    let written : drop first (slice_set begun first tens) ≡ decimal number ++ drop c.args.end buffer =
    rw (drop-set begun first tens (omega (arith, begun_len)), last_is, drop-set buffer last ones (omega arith), end_is, decimal_two number c.if-number-ge10.true c.if-number-lt100.true)
    in record { len = omega (arith, len, begun_len); start = omega arith; written = written; none = _ }

pub write_digits-requires : goal.write_digits-requires
write_digits-requires c = search (rules, length-decimal-le 20)
