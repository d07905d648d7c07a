use Rattle.pct_names.proofs.Names.{◌++◌, ap, arith, List, MAX_KEYS, ℕ, ◌∙◌, ◌≡◌}
use Rattle.pct_keys.specs.Tables.{row_at}
use Rattle.pct_view_texts.specs.States.{specific_on}
use Rattle.pct_view_texts.specs.TextBuffers.{text_in}
use Rattle.pct_view_texts.proofs.PhraseTexts.{all_values, next_place}
use Rattle.pct_view_texts.proofs.specific.push_each_value.Goals as goal

pub loop-place-preserved : goal.loop-place-preserved
loop-place-preserved c = next_place (specific_on c.args.keys.now.places (row_at c.args.keys.now c.args.slot)) c.loop-place.place _ _ _ c.loop-place.invariant c.in_ok-push_value_on.ensures

pub returns : goal.returns
returns c =
    let end : c.loop-place.place ≡ MAX_KEYS = omega arith in
    c.loop-place.invariant ∙ ap (λ (text : List ℕ). text_in c.args.phrases.now ++ text) (all_values c.args.keys.now.places (row_at c.args.keys.now c.args.slot) c.loop-place.place end)
