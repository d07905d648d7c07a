use Rattle.pct_names.proofs.Names.{ap, Fault, option_map, sym, ◌∙◌}
use Rattle.pct_grammar.proofs.Misspelled.{not_misspelled}
use Rattle.pct_script_lines.proofs.stored_lines.store_spelled.Goals as goal

pub returns-clause-spelled : goal.returns-clause-spelled
returns-clause-spelled c =
    ap (option_map {U = Fault} (λ why. (c.args.number, why))) (not_misspelled c.args.line.now c.in-Some.parsed (sym c.in_ok-parsed.ensures ∙ c.in-Some.is))
