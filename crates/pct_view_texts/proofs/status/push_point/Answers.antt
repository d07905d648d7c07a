use Rattle.pct_names.proofs.Names.{syntax_of}
use Rattle.pct_view_texts.proofs.status.push_point.Goals as goal

pub returns : goal.returns
unfolding syntax_of
returns c = rw c.point.ensures at c.push_words.ensures
