use Rattle.pct_names.proofs.Names.{◌+◌, ◌≡◌, ◌≤◌, length, true}
use Rattle.pct_model.specs.EventTexts.{EventNames}
use Rattle.pct_report_reader.specs.Forms.{words_left}
use Rattle.pct_report_reader.specs.Texts.{are_words}
use Rattle.pct_event_reader.specs.Numberings.{IsNumberings, name_count}
use Rattle.pct_event_reader.specs.Values.{values_of}
use Rattle.pct_event_reader.proofs.WordValues.{ReadSoFar}
use Rattle.pct_event_reader.proofs.event.read_words.Given as goal

abbrev pub invariant-loop-kind : goal.invariant-loop-kind
invariant-loop-kind l = record {
  read : (before : EventNames) → IsNumberings l.initial.names before → ReadSoFar (values_of l.kinds before (words_left l.words)) l.names l.values.items l.left (words_left l.rest);
  kinds : are_words l.left (words_left l.rest) ≡ true;
  few : length l.values.items + length l.left ≤ 4;
  count : name_count l.names ≤ name_count l.initial.names + length l.values.items;
}

abbrev pub decreases-loop-kind : goal.decreases-loop-kind
decreases-loop-kind l = length l.left
