use Rattle.pct_names.proofs.Names.{map, SemDecl, zip}
use Rattle.pct_view_texts.specs.States.{value_words}
use Rattle.pct_view_texts.proofs.PhraseTexts.{collected}
use Rattle.pct_view_texts.proofs.values.push_semaphores.Goals as goal

pub returns : goal.returns
returns c = c.push_phrases.ensures (map value_words (zip (map (λ (d : SemDecl). d.name) c.args.sems.now) c.args.counts.now)) (collected value_words (zip (map (λ (d : SemDecl). d.name) c.args.sems.now) c.args.counts.now) _ _ c.new-phrases.ensures c.in_ok-push_counts.ensures)
