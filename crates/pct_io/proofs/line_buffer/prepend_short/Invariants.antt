use Rattle.std.proofs.Common.{◌≡◌, ◌+◌, ◌≤◌, ◌++◌, length, take, drop}
use Rattle.pct_io.proofs.line_buffer.prepend_short.Given as goal

-- the bytes from this index on precede the old content of the buffer
abbrev pub invariant-loop-position : goal.invariant-loop-position
invariant-loop-position l = record {
  within : l.position ≤ length l.text;
  len : length l.buffer ≡ length l.initial.buffer;
  start : l.start + length l.text ≡ l.end + l.position;
  written : l.text ++ drop l.end l.initial.buffer ≡ take l.position l.text ++ drop l.start l.buffer;
}
