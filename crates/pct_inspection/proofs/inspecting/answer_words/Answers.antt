use Rattle.pct_names.proofs.Names.{map, string_bytes, sym}
use Rattle.pct_inspection.proofs.AskedSeeds.{is_accepted_asked}
use Rattle.pct_inspection.proofs.inspecting.answer_words.Goals as goal

pub answer_read-requires-clause-accepted : goal.answer_read-requires-clause-accepted
answer_read-requires-clause-accepted g c = λ _ _. is_accepted_asked (map string_bytes c.args.words.now) c.in-Some.asked (sym c.in-Some.ensures)
