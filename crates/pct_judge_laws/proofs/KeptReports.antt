-- In a report whose events keep the laws nothing is found.
use Rattle.pct_names.proofs.Names.{◌≡◌, ℕ, Bool, true, List, length, map, reverse, Option, Some, None, Config, Event}
use Rattle.pct_names.proofs.Names.{ap, le_refl, length-map, option_map, subst, sym, ◌∙◌}
use Rattle.std.proofs.lemmas.List.{take_all}
use Rattle.pct_model.specs.EventTexts.{EventNames}
use Rattle.pct_name_numbers.specs.EventReading.{Reading, events_of, no_names}
use Rattle.pct_report_reader.specs.EventWords.{event_words_in}
use Rattle.pct_report_reader.specs.Reading.{event_lines, report_in, span_of}
use Rattle.pct_event_laws.specs.EventLaws.{EventLaws}
use Rattle.pct_event_reader.specs.EventReports.{event_report_in, report_events, with_events}
use Rattle.pct_read_laws.specs.RunsRead.{IsLawfulReport}
use Rattle.pct_laws.specs.Each.{each}
use Rattle.pct_audit.specs.AuditOf.{first_events}
use Rattle.pct_process_monitors.proofs.LeftoverEvents.{followed_at}
use Rattle.pct_event_judge.specs.Findings.{AreFindings, all_kept}
use Rattle.pct_judge_laws.specs.RunsKeep.{KeepsLaws}

-- a law that all events keep
all_allowed : (allows : Event → List Event → Bool) (events : List Event) → each allows (reverse events) ≡ true → each allows (first_events (length events) events) ≡ true
all_allowed allows events kept = subst (λ (all : List Event). each allows (reverse all) ≡ true) (sym (take_all (length events) events (le_refl (length events)))) kept

none_found : (passes slots : ℕ) (events : List Event) → EventLaws passes slots (reverse events) → AreFindings passes slots events all_kept
none_found passes slots events laws = record {
  laws = record {
    once = all_allowed _ events laws.once;
    ran_all = all_allowed _ events laws.ran_all;
    after_end = all_allowed _ events laws.after_end;
    process = all_allowed _ events laws.processes;
    slot = all_allowed _ events laws.creations;
    join = all_allowed _ events laws.joins;
    cond = all_allowed _ events laws.conds;
    call_once = all_allowed _ events laws.controls;
    requests = all_allowed _ events laws.requests;
    keys = all_allowed _ events laws.keys;
  };
  leftover = followed_at events laws.leftovers;
}

events_are : (text : List ℕ) (names : EventNames) (events : List Event) → events_of no_names (event_words_in text) ≡ Some (names, events) → report_events text ≡ Some events
unfolding report_events
events_are text names events read = ap (λ (r : Reading (List Event)). option_map (λ x. x.1) r) read

pub keeps_laws : (config : Config) (count : ℕ) (text : List ℕ) → IsLawfulReport config count text → KeepsLaws config count text
unfolding event_report_in
keeps_laws config count text lawful = record {
  events = lawful.events;
  lines = map span_of (event_lines text);
  read = ap (λ (events : Option (List Event)). with_events events (report_in text)) (events_are text lawful.names lawful.events lawful.read)
      ∙ ap (with_events (Some lawful.events)) lawful.report;
  events_count = lawful.events_count;
  lines_count = length-map (event_lines text) span_of ∙ lawful.lines_count;
  are_kept = none_found config.passes config.slots lawful.events lawful.laws;
}
