-- The text of the answers to rules, part by part.
use Rattle.pct_names.proofs.Names.{◌++◌, [], ap, flat_map-map, line_text, map, text_of, ◌∙◌, ◌≡◌}
use Rattle.std.proofs.Common.{append-nil, List, ◌∷◌}
use Rattle.std.proofs.lemmas.Grind.{flat_map-append}
use Rattle.std.specs.Prelude.{codes, decimal}
use Rattle.std.specs.List.{flat_map}
use Rattle.pct_expect.specs.declared.verdict.Judged.{Judged}
use Rattle.pct_judgement.specs.AnswerTexts.{answer_line, answer_lines}
use Rattle.pct_judgement.specs.Judgements.{failed_count}

pub answers-text : (answers : List Judged) → text_of (answer_lines answers)
    ≡ flat_map (λ answer. line_text (answer_line answer)) answers ++ line_text (codes "failed" ∷ decimal (failed_count answers) ∷ [])
unfolding answer_lines
answers-text answers =
    let last = codes "failed" ∷ decimal (failed_count answers) ∷ [] in
    flat_map-append line_text (map answer_line answers) (last ∷ [])
    ∙ ap (λ text. text ++ text_of (last ∷ [])) (flat_map-map line_text answer_line answers)
    ∙ ap (λ text. flat_map (λ answer. line_text (answer_line answer)) answers ++ text) (append-nil (line_text last))
