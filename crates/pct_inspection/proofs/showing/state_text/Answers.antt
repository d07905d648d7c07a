use Rattle.pct_inspection.proofs.showing.state_text.Goals as goal

pub returns-in-Steps : goal.returns-in-Steps
returns-in-Steps c = λ after is. rw c.in-Steps.is c.new.ensures
