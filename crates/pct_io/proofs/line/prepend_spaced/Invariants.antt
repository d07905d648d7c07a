use Rattle.std.proofs.Common.{◌≡◌, ◌≤◌, ◌∷◌, ◌++◌, length, take, drop}
use Rattle.std.specs.List.{flat_map}
use Rattle.pct_io.specs.Fields.{field_text}
use Rattle.pct_io.proofs.line.prepend_spaced.Given as goal

-- the fields from this index on precede the old content of the buffer
abbrev pub invariant-loop-position : goal.invariant-loop-position
invariant-loop-position l = record {
  within : l.position ≤ length l.fields;
  len : length l.buffer ≡ length l.initial.buffer;
  start : l.start ≤ l.end;
  written : flat_map (λ field. 32 ∷ field_text field) l.fields ++ drop l.end l.initial.buffer ≡ flat_map (λ field. 32 ∷ field_text field) (take l.position l.fields) ++ drop l.start l.buffer;
}
