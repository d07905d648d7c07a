use Rattle.pct_names.proofs.Names.{◌++◌, is_some, length, run, take, true, ◌≡◌, ◌≤◌}
use Rattle.pct_view_texts.specs.NextSteps.{steps_text}
use Rattle.pct_view_texts.specs.TextBuffers.{text_in}
use Rattle.pct_view_texts.proofs.trace.push_steps.Given as goal

-- the steps of the entries so far were made, and their lines appended
abbrev pub invariant-loop-entry : goal.invariant-loop-entry
invariant-loop-entry l = record {
  number : l.number ≡ l.entry-index;
  within : l.entry-index ≤ length l.entries;
  made : l.engine ≡ record l.initial.engine { history = take l.entry-index l.entries };
  legal : is_some (run l.initial.engine.script l.initial.engine.config (take l.entry-index l.entries)) ≡ true;
  text : text_in l.text ≡ text_in l.initial.text ++ steps_text l.lines l.engine;
}

abbrev pub ghosts-push_next : goal.ghosts-push_next
ghosts-push_next a = record { name = a.blank.name; parts = a.blank.parts }
