use Rattle.pct_names.proofs.Names.{ap, List, None, Numbered, option_map, slice_get, Some, spelled_lines, sym, ℕ, ◌∙◌, ◌≡◌}
use Rattle.pct_expect.specs.declared.fault.ExpectWhy.TheVariants as why
use Rattle.pct_expect.specs.Reading.{bad_line}
use Rattle.pct_expect.proofs.LinesRead.{fault_at, fault_bad, fault_last, fault_many, few_enough, rule_missing, rule_there, too_many_at}
use Rattle.pct_expect.proofs.reader.fault_in.Goals as goal

pub returns-in-Some : goal.returns-in-Some
returns-in-Some c =
    let bad = ap bad_line (sym c.of.ensures) ∙ sym c.in-Some.ensures in
    sym (fault_bad (spelled_lines c.args.text.now) (fault_at c.in-Some.line why.BadLine) bad)

pub returns-in-Some-line_after : goal.returns-in-Some-line_after
returns-in-Some-line_after c =
    let lines = spelled_lines c.args.text.now in
    let bad : bad_line lines ≡ None = ap bad_line (sym c.of.ensures) ∙ sym c.in_default.ensures in
    let many : option_map (λ l. l.0) (slice_get lines 64) ≡ Some c.in-Some-line_after.line =
    ap (λ (ls : List (Numbered (List ℕ))). option_map (λ l. l.0) (slice_get ls 64)) (sym c.of-2.ensures) ∙ sym c.in-Some-line_after.ensures in
    sym (fault_many lines (fault_at c.in-Some-line_after.line why.TooMany) bad (too_many_at lines c.in-Some-line_after.line many))

pub returns-in-Some-line_after-2 : goal.returns-in-Some-line_after-2
returns-in-Some-line_after-2 c =
    let lines = spelled_lines c.args.text.now in
    let bad : bad_line lines ≡ None = ap bad_line (sym c.of.ensures) ∙ sym c.in_default.ensures in
    let few : option_map (λ l. l.0) (slice_get lines 64) ≡ None =
    ap (λ (ls : List (Numbered (List ℕ))). option_map (λ l. l.0) (slice_get ls 64)) (sym c.of-2.ensures) ∙ sym c.in_default-line_after.ensures in
    let one : option_map (λ l. l.0) (slice_get lines 0) ≡ Some c.in-Some-line_after-2.field-0 =
    ap (λ (ls : List (Numbered (List ℕ))). option_map (λ l. l.0) (slice_get ls 0)) (sym c.of-3.ensures) ∙ sym c.in-Some-line_after-2.ensures in
    sym (fault_last lines None bad (few_enough lines few) (rule_there lines c.in-Some-line_after-2.field-0 one))

pub returns-in-None : goal.returns-in-None
returns-in-None c =
    let lines = spelled_lines c.args.text.now in
    let bad : bad_line lines ≡ None = ap bad_line (sym c.of.ensures) ∙ sym c.in_default.ensures in
    let few : option_map (λ l. l.0) (slice_get lines 64) ≡ None =
    ap (λ (ls : List (Numbered (List ℕ))). option_map (λ l. l.0) (slice_get ls 64)) (sym c.of-2.ensures) ∙ sym c.in_default-line_after.ensures in
    let none : option_map (λ l. l.0) (slice_get lines 0) ≡ None =
    ap (λ (ls : List (Numbered (List ℕ))). option_map (λ l. l.0) (slice_get ls 0)) (sym c.of-3.ensures) ∙ sym c.in-None.ensures in
    sym (fault_last lines (Some (fault_at 1 why.NoRule)) bad (few_enough lines few) (rule_missing lines none))
