use Rattle.pct_names.proofs.Names.{◌++◌, ap, arith, List, MAX_KEYS, ℕ, ◌∙◌, ◌≡◌}
use Rattle.pct_view_texts.specs.States.{key_on}
use Rattle.pct_view_texts.specs.TextBuffers.{text_in}
use Rattle.pct_view_texts.proofs.PhraseTexts.{all_keys, next_place}
use Rattle.pct_view_texts.proofs.specific.push_each_key.Goals as goal

pub loop-place-preserved : goal.loop-place-preserved
loop-place-preserved c = next_place (key_on c.args.script.now c.args.keys.now.places) c.loop-place.place _ _ _ c.loop-place.invariant c.in_ok-push_key.ensures

pub returns : goal.returns
returns c =
    let end : c.loop-place.place ≡ MAX_KEYS = omega arith in
    c.loop-place.invariant ∙ ap (λ (text : List ℕ). text_in c.args.phrases.now ++ text) (all_keys c.args.script.now c.args.keys.now.places c.loop-place.place end)
