use Rattle.pct_names.proofs.Names.{[], ap, arith, err_from_is_err_and, length, lines_of, refl, sym, ◌∙◌, ◌∷◌, ◌≡◌}
use Rattle.std.proofs.Common.{length-append}
use Rattle.std.proofs.lemmas.Bool.{eqb-true}
use Rattle.std.proofs.lemmas.List.{nil_from_length}
use Rattle.pct_schedule.proofs.LineByLine.{entries_in_to, unended}
use Rattle.pct_schedule.proofs.ByEntries.{from_first}
use Rattle.pct_schedule.proofs.LineLoops.{reads_line, at_last_line, at_entry_line, no_end, goes_on, stays_failed, first_is_entry, first_stays}
use Rattle.pct_schedule.proofs.FirstEntries.{reads_first, read_first}
use Rattle.pct_schedule_reader.proofs.reader.read_entries.Goals as goal

pub loop-rest-init : goal.loop-rest-init
loop-rest-init c = record {
  read = from_first c.args.end c.args.lines.first c.args.config (lines_of c.args.lines.text.now) ∙ ap (λ entries. entries_in_to c.args.end c.args.lines.first c.args.config entries (lines_of c.args.lines.text.now)) (sym c.new-entries.ensures.items);
  bound = omega arith;
  start = λ _. refl;
  memory = λ some. absurd (omega (arith, some, ap length c.new-entries.ensures.items));
}

pub returns-in_err-end_at-clause-read : goal.returns-in_err-end_at-clause-read
returns-in_err-end_at-clause-read c =
    let first = rw c.unwrap.ensures at c.first_line.ensures in
    let reads = reads_line c.loop-rest.rest.now c.unwrap.result.0.now c.strip_cr-line.result.now c.unwrap.result.1.now first c.strip_cr-line.ensures in
    let many : c.len-then-begins_with.result ≡ length c.loop-rest.entries.items = omega (arith, c.len-then-begins_with.ensures, c.loop-rest.entries.ok.0) in
    let p = err_from_is_err_and c.from_residual-in_err-end_at.result c.from_residual-in_err-end_at.ensures.1 in
    rw (p.1, p.2)
    (stays_failed c.in_err-end_at.field-0.0 _ _ _
    (at_last_line c.args.end c.loop-rest.number c.len-then-begins_with.result c.args.config c.loop-rest.entries.items _ _ _ _ reads (sym c.if-begins_with.ensures) c.loop-rest.invariant.read many)
    c.in_err-end_at.ensures)

pub returns-then-begins_with-clause-read : goal.returns-then-begins_with-clause-read
returns-then-begins_with-clause-read c =
    let first = rw c.unwrap.ensures at c.first_line.ensures in
    let reads = reads_line c.loop-rest.rest.now c.unwrap.result.0.now c.strip_cr-line.result.now c.unwrap.result.1.now first c.strip_cr-line.ensures in
    let many : c.len-then-begins_with.result ≡ length c.loop-rest.entries.items = omega (arith, c.len-then-begins_with.ensures, c.loop-rest.entries.ok.0) in
    rw c.of.ensures
    (goes_on _ _ [] _
    (at_last_line c.args.end c.loop-rest.number c.len-then-begins_with.result c.args.config c.loop-rest.entries.items _ _ _ _ reads (sym c.if-begins_with.ensures) c.loop-rest.invariant.read many)
    c.in_ok-end_at.ensures)

pub returns-in_err-entry-clause-read : goal.returns-in_err-entry-clause-read
returns-in_err-entry-clause-read c =
    let first = rw c.unwrap.ensures at c.first_line.ensures in
    let reads = reads_line c.loop-rest.rest.now c.unwrap.result.0.now c.strip_cr-line.result.now c.unwrap.result.1.now first c.strip_cr-line.ensures in
    let many : c.len-in-loop-rest.result ≡ length c.loop-rest.entries.items = omega (arith, c.len-in-loop-rest.ensures, c.loop-rest.entries.ok.0) in
    let p = err_from_is_err_and c.from_residual-in_err-entry.result c.from_residual-in_err-entry.ensures.1 in
    rw (p.1, p.2)
    (stays_failed c.in_err-entry.field-0.0 _ _ _
    (at_entry_line c.args.end c.loop-rest.number c.len-in-loop-rest.result c.args.config c.loop-rest.entries.items _ _ _ _ reads (sym c.if-begins_with.ensures) c.loop-rest.invariant.read many)
    c.in_err-entry.ensures)

pub returns-in_err-add_entry-2-clause-memory : goal.returns-in_err-add_entry-2-clause-memory
returns-in_err-add_entry-2-clause-memory c = λ _.
    let first = rw c.unwrap.ensures at c.first_line.ensures in
    let reads = reads_line c.loop-rest.rest.now c.unwrap.result.0.now c.strip_cr-line.result.now c.unwrap.result.1.now first c.strip_cr-line.ensures in
    first_stays c.args.config.format (length c.loop-rest.entries.items) c.args.lines.text.now c.loop-rest.rest.now c.loop-rest.invariant.start c.loop-rest.invariant.memory
    (first_is_entry c.args.config.format c.loop-rest.number c.args.config.budget c.len-in-loop-rest.result _ _ _ c.in_ok-entry.entry reads (sym c.if-begins_with.ensures) c.in_ok-entry.ensures)

pub loop-rest-preserved : goal.loop-rest-preserved
loop-rest-preserved c =
    let first = rw c.unwrap.ensures at c.first_line.ensures in
    let reads = reads_line c.loop-rest.rest.now c.unwrap.result.0.now c.strip_cr-line.result.now c.unwrap.result.1.now first c.strip_cr-line.ensures in
    let many : c.len-in-loop-rest.result ≡ length c.loop-rest.entries.items = omega (arith, c.len-in-loop-rest.ensures, c.loop-rest.entries.ok.0) in
    record {
      read =
          rw c.in_ok-add_entry-2.ensures.items
          (goes_on _ _ c.in_ok-entry.entry _
          (at_entry_line c.args.end c.loop-rest.number c.len-in-loop-rest.result c.args.config c.loop-rest.entries.items _ _ _ _ reads (sym c.if-begins_with.ensures) c.loop-rest.invariant.read many)
          c.in_ok-entry.ensures);
      bound = omega (arith, first.shorter, c.loop-rest.invariant.bound);
      start = λ none. absurd (omega (arith, none, ap length c.in_ok-add_entry-2.ensures.items, length-append c.loop-rest.entries.items (c.in_ok-entry.entry ∷ [])));
      memory = λ _.
          first_stays c.args.config.format (length c.loop-rest.entries.items) c.args.lines.text.now c.loop-rest.rest.now c.loop-rest.invariant.start c.loop-rest.invariant.memory
          (first_is_entry c.args.config.format c.loop-rest.number c.args.config.budget c.len-in-loop-rest.result _ _ _ c.in_ok-entry.entry reads (sym c.if-begins_with.ensures) c.in_ok-entry.ensures);
    }

pub returns-in-Required-clause-read : goal.returns-in-Required-clause-read
returns-in-Required-clause-read c =
    let rest = c.loop-rest.rest.now in
    let none : rest ≡ [] = nil_from_length rest (eqb-true (length rest) 0 (sym c.is_empty.ensures ∙ c.loop-rest-test.false)) in
    no_end c.args.end c.loop-rest.number c.args.config c.loop-rest.entries.items rest _ none c.loop-rest.invariant.read
    ∙ ap (λ to. unended to c.loop-rest.number c.args.config c.loop-rest.entries.items) c.in-Required.is

pub returns-in-Optional-clause-read : goal.returns-in-Optional-clause-read
returns-in-Optional-clause-read c =
    let rest = c.loop-rest.rest.now in
    let none : rest ≡ [] = nil_from_length rest (eqb-true (length rest) 0 (sym c.is_empty.ensures ∙ c.loop-rest-test.false)) in
    rw c.of-in-Optional.ensures
    (no_end c.args.end c.loop-rest.number c.args.config c.loop-rest.entries.items rest _ none c.loop-rest.invariant.read
    ∙ ap (λ to. unended to c.loop-rest.number c.args.config c.loop-rest.entries.items) c.in-Optional.is)

pub returns-in_err-add_entry-clause-memory : goal.returns-in_err-add_entry-clause-memory
returns-in_err-add_entry-clause-memory c = λ _.
    let first = c.in-Some.ensures in
    let reads = reads_first c.loop-rest.rest.now c.in-Some.entry c.in-Some.after.now first in
    let read = read_first c.loop-rest.number c.args.config.budget c.len.result c.args.config.format c.loop-rest.rest.now c.in-Some.entry c.in-Some.after.now first c.if-len-config.true in
    first_stays c.args.config.format (length c.loop-rest.entries.items) c.args.lines.text.now c.loop-rest.rest.now c.loop-rest.invariant.start c.loop-rest.invariant.memory
    (first_is_entry c.args.config.format c.loop-rest.number c.args.config.budget c.len.result _ _ _ c.in-Some.entry reads first.goes_on read)

pub loop-rest-preserved-in-loop-rest : goal.loop-rest-preserved-in-loop-rest
loop-rest-preserved-in-loop-rest c =
    let first = c.in-Some.ensures in
    let reads = reads_first c.loop-rest.rest.now c.in-Some.entry c.in-Some.after.now first in
    let read = read_first c.loop-rest.number c.args.config.budget c.len.result c.args.config.format c.loop-rest.rest.now c.in-Some.entry c.in-Some.after.now first c.if-len-config.true in
    let many : c.len.result ≡ length c.loop-rest.entries.items = omega (arith, c.len.ensures, c.loop-rest.entries.ok.0) in
    record {
      read =
          rw c.in_ok-add_entry.ensures.items
          (goes_on _ _ c.in-Some.entry _
          (at_entry_line c.args.end c.loop-rest.number c.len.result c.args.config c.loop-rest.entries.items _ _ _ _ reads first.goes_on c.loop-rest.invariant.read many)
          read);
      bound = omega (arith, first.first.shorter, c.loop-rest.invariant.bound);
      start = λ none. absurd (omega (arith, none, ap length c.in_ok-add_entry.ensures.items, length-append c.loop-rest.entries.items (c.in-Some.entry ∷ [])));
      memory = λ _.
          first_stays c.args.config.format (length c.loop-rest.entries.items) c.args.lines.text.now c.loop-rest.rest.now c.loop-rest.invariant.start c.loop-rest.invariant.memory
          (first_is_entry c.args.config.format c.loop-rest.number c.args.config.budget c.len.result _ _ _ c.in-Some.entry reads first.goes_on read);
    }
