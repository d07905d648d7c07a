use Rattle.pct_names.proofs.Names.{◌++◌, ap, codes, flat_map, func_name, List, zip, ℕ, ◌∙◌, ◌∷◌}
use Rattle.pct_view_texts.specs.Fields.{phrase_text}
use Rattle.pct_view_texts.specs.Positions.{locals_of}
use Rattle.pct_view_texts.specs.States.{value_words}
use Rattle.pct_view_texts.specs.TextBuffers.{text_in}
use Rattle.pct_view_texts.proofs.Appending.{as_text, then_text}
use Rattle.pct_view_texts.proofs.PhraseTexts.{named_values}
use Rattle.pct_view_texts.proofs.frames.push_frame.Goals as goal

pub returns : goal.returns
returns c =
    let script = c.args.script.now in
    let frame = c.args.frame.now in
    let name = func_name script frame.func in
    let locals = zip (locals_of script frame.func) frame.locals in
    let values : List ℕ = flat_map (λ v. 32 ∷ phrase_text (value_words v)) locals in
    as_text _ _ _ (codes ", " ++ (name ++ values)) _ (ap (λ (text : List ℕ). codes ", " ++ text) (named_values name locals))
    (then_text _ _ _ _ (codes ", ") (name ++ values) c.in_ok-push.ensures
    (then_text _ _ _ _ name values (c.in_ok-push_field.ensures ∙ ap (λ (word : List ℕ). text_in c.push.new.self ++ word) (c.func-name.ensures ∙ ap (func_name script) c.func.ensures)) c.push_locals.ensures))
