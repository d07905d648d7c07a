-- The answer for `event_lines_are_read_back`.
use Rattle.pct_names.proofs.Names.{event_names}
use Rattle.pct_name_numbers.specs.EventReading.{no_names}
use Rattle.pct_event_bounds.proofs.ScriptNames.{names_of_scripts}
use Rattle.pct_event_lines.proofs.NamesRead.{after_all, naming}
use Rattle.pct_event_lines.proofs.Numbers.{tells_apart}
use Rattle.pct_event_lines.proofs.EventsAgain.{all-refl, events_again, have_texts}
use Rattle.pct_event_lines.proofs.law.event_lines_are_read_back.Goals as goal

pub returns : goal.returns
returns c = λ script events items fit.
    let s = event_names script in
    let read = after_all s no_names events in
    let has = names_of_scripts script in
    record {
      names = read;
      naming = naming s read;
      read = events_again script no_names read events (have_texts script events items fit) (all-refl read);
      apart = record {
        functions = tells_apart s.functions read.functions has.functions.different;
        mutexes = tells_apart s.mutexes read.mutexes has.mutexes.different;
        conds = tells_apart s.conds read.conds has.conds.different;
        sems = tells_apart s.sems read.sems has.sems.different;
        onces = tells_apart s.onces read.onces has.onces.different;
      };
    }
