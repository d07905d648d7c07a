use Rattle.pct_names.proofs.Names.{ap, false, map, option_map, RunOptions, string_bytes, sym, true, ◌∙◌}
use Rattle.pct_inspection.proofs.OptionWords.{any_of_words, asked_with, run_is}
use Rattle.pct_inspection.proofs.words.config_asked.Goals as goal

pub returns-then-are_of_one_run : goal.returns-then-are_of_one_run
returns-then-are_of_one_run c =
    let words = map string_bytes c.args.options.now in
    sym (asked_with words true (sym (any_of_words c.args.options.now) ∙ sym c.if-are_of_one_run.ensures))

pub returns-in_err-read_options : goal.returns-in_err-read_options
returns-in_err-read_options c =
    let words = map string_bytes c.args.options.now in
    c.from_residual.ensures
    ∙ sym (asked_with words false (sym (any_of_words c.args.options.now) ∙ sym c.if-are_of_one_run.ensures) ∙ ap (option_map (λ (run : RunOptions). run.config)) (run_is words ∙ sym c.in_err-read_options.ensures.value))

pub returns-in_ok-read_options : goal.returns-in_ok-read_options
returns-in_ok-read_options c =
    let words = map string_bytes c.args.options.now in
    sym (asked_with words false (sym (any_of_words c.args.options.now) ∙ sym c.if-are_of_one_run.ensures) ∙ ap (option_map (λ (run : RunOptions). run.config)) (run_is words ∙ sym c.in_ok-read_options.ensures.value))
