use Rattle.pct_names.proofs.Names.{◌++◌, ◌-◌, [], ap, arith, false, length, lines_of, List, map, strip_cr, sym, true, ◌∙◌, ◌≡◌, ◌∷◌, ℕ}
use Rattle.std.proofs.lemmas.List.{append-nil, append_assoc}
use Rattle.pct_expect.specs.declared.span.Span.{Span}
use Rattle.pct_report_reader.specs.Reading.{begins_verdict, event_lines_from, span_of}
use Rattle.pct_report_reader.proofs.EventPlaces.{after_title, line_fits, no_title, place_first, place_none}
use Rattle.pct_report_reader.proofs.reader.event_spans.Goals as goal

span_stored : (items : List Span) (span : Span) (more grown : List Span) → grown ≡ items ++ span ∷ [] → items ++ (span ∷ more) ≡ grown ++ more
span_stored items span more grown e = sym (append_assoc items (span ∷ []) more) ∙ ap (λ (all : List Span). all ++ more) (sym e)

pub returns-in_default : goal.returns-in_default
returns-in_default c = c.new-spans.ensures.items ∙ sym (ap (map span_of) (no_title c.args.text.now c.in_default.ensures))

pub loop-raw-init : goal.loop-raw-init
loop-raw-init c =
    let rest = map span_of (event_lines_from (length c.args.text.now - length c.in-Some.after.now) (lines_of c.in-Some.after.now)) in
    record {
      spans = ap (map span_of) (after_title c.args.text.now c.in-Some.field-0-0.now c.in-Some.after.now c.in-Some.ensures) ∙ sym (ap (λ (items : List Span). items ++ rest) c.new-spans.ensures.items);
      within = omega (arith, c.in-Some.ensures.shorter);
    }

pub returns-then-begins_verdict : goal.returns-then-begins_verdict
returns-then-begins_verdict c =
    let items = c.loop-raw.spans.items in
    let ends = place_first (length c.args.text.now) c.loop-raw.rest.now c.in-Some-first_line.raw.now c.in-Some-first_line.after.now c.in-Some-first_line.ensures c.loop-raw.invariant.within
    true (ap begins_verdict (sym c.strip_cr-line.ensures) ∙ sym c.if-begins_verdict.ensures) in
    sym (c.loop-raw.invariant.spans ∙ ap (λ (lines : List (ℕ × List ℕ)). items ++ map span_of lines) ends ∙ append-nil items)

pub overflow_cast-start-in-Some-first_line : goal.overflow_cast-start-in-Some-first_line
overflow_cast-start-in-Some-first_line c =
    let fits = line_fits c.loop-raw.rest.now c.in-Some-first_line.raw.now c.in-Some-first_line.after.now c.in-Some-first_line.ensures in
    omega (arith, c.requires, c.loop-raw.invariant.within, ap length c.strip_cr-line.ensures, fits)

pub loop-raw-preserved : goal.loop-raw-preserved
loop-raw-preserved c =
    let size = length c.args.text.now in
    let offset = size - length c.loop-raw.rest.now in
    let after = c.in-Some-first_line.after.now in
    let items = c.loop-raw.spans.items in
    let goes = place_first size c.loop-raw.rest.now c.in-Some-first_line.raw.now after c.in-Some-first_line.ensures c.loop-raw.invariant.within
    false (ap begins_verdict (sym c.strip_cr-line.ensures) ∙ sym c.if-begins_verdict.ensures) in
    let stored = c.in_ok-push.ensures.items ∙ ap (λ (line : List ℕ). items ++ span_of (offset, line) ∷ []) c.strip_cr-line.ensures in
    record {
      spans =
          c.loop-raw.invariant.spans ∙ ap (λ (lines : List (ℕ × List ℕ)). items ++ map span_of lines) goes
          ∙ span_stored items (span_of (offset, strip_cr c.in-Some-first_line.raw.now)) (map span_of (event_lines_from (size - length after) (lines_of after))) c.push.new.self.items stored;
      within = omega (arith, c.in-Some-first_line.ensures.shorter, c.loop-raw.invariant.within);
    }

pub returns : goal.returns
returns c =
    let items = c.loop-raw.spans.items in
    let none = place_none (length c.args.text.now - length c.loop-raw.rest.now) c.loop-raw.rest.now c.in_default-first_line.ensures in
    sym (c.loop-raw.invariant.spans ∙ ap (λ (lines : List (ℕ × List ℕ)). items ++ map span_of lines) none ∙ append-nil items)
