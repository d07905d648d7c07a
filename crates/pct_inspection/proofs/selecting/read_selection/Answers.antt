use Rattle.pct_names.proofs.Names.{ap, arith, if◌then◌else◌, is_some, map, None, Option, option_map, Some, string_bytes, sym, ◌∙◌}
use Rattle.pct_inspection.specs.declared.selecting.SelectionOption.{SelectionOption}
use Rattle.pct_inspection.specs.SelectionValues.{begun_value, selection_value}
use Rattle.pct_inspection.proofs.Selections.{after_last_word, asked_by, with_next_word}
use Rattle.pct_inspection.proofs.selecting.read_selection.Goals as goal

pub returns-in_err-begun : goal.returns-in_err-begun
returns-in_err-begun c =
    ap (option_map selection_value) c.from_residual.ensures
    ∙ asked_by None (map string_bytes c.args.words.now)
    (with_next_word string_bytes c.args.words.now c.loop-word.word-index c.word-item.result (begun_value c.loop-word.begun) None c.loop-word-test.true c.word-item.is (rw c.as_bytes.ensures.value at c.in_err-begun.ensures)
    ∙ c.loop-word.invariant)

pub loop-word-preserved : goal.loop-word-preserved
loop-word-preserved c =
    with_next_word string_bytes c.args.words.now c.loop-word.word-index c.word-item.result (begun_value c.loop-word.begun) (Some (begun_value c.in_ok-begun.begun)) c.loop-word-test.true c.word-item.is (rw c.as_bytes.ensures.value at c.in_ok-begun.ensures)
    ∙ c.loop-word.invariant

pub returns-in-None : goal.returns-in-None
returns-in-None c =
    ap (λ (o : Option SelectionOption). if is_some o then None else Some (selection_value c.loop-word.begun.selection)) (sym c.in-None.is)
    ∙ asked_by (Some (begun_value c.loop-word.begun)) (map string_bytes c.args.words.now)
    (after_last_word string_bytes c.args.words.now c.loop-word.word-index (begun_value c.loop-word.begun) (omega (arith, c.loop-word-test.false)) ∙ c.loop-word.invariant)

pub returns-in-Some : goal.returns-in-Some
returns-in-Some c =
    ap (λ (o : Option SelectionOption). if is_some o then None else Some (selection_value c.loop-word.begun.selection)) (sym c.in-Some.is)
    ∙ asked_by (Some (begun_value c.loop-word.begun)) (map string_bytes c.args.words.now)
    (after_last_word string_bytes c.args.words.now c.loop-word.word-index (begun_value c.loop-word.begun) (omega (arith, c.loop-word-test.false)) ∙ c.loop-word.invariant)
