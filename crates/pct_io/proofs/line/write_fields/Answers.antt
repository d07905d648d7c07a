use Rattle.std.proofs.lemmas.List.{nil_from_length}
use Rattle.pct_io.specs.Fields.{field_text}
use Rattle.pct_io.proofs.WritesInTurn.{Writes-then, Writes-nothing}
use Rattle.pct_io.proofs.Joined.{joined}
use Rattle.pct_io.proofs.line.write_fields.Goals as goal

pub returns-in-None : goal.returns-in-None
returns-in-None g c = rw (nil_from_length c.args.fields.now c.in-None.ensures.cases) (Writes-nothing c.args.sink.now)

pub returns-in_ok-write_field-in-Some : goal.returns-in_ok-write_field-in-Some
returns-in_ok-write_field-in-Some g c = rw (c.in-Some.ensures.cases.0, joined field_text c.in-Some.first.now c.in-Some.rest.now) (Writes-then _ c.in_ok-write_field-in-Some.ensures c.write_spaced.ensures)
