-- An input of `replay`, built from a script and a schedule.
use Rattle.pct_names.proofs.Names.{◌+◌, ◌++◌, [], ap, arith, Bool, canon, codes, cond, Config, contents_of, drop, drop-append-add, Entry}
use Rattle.pct_names.proofs.Names.{is_asked, keyword_text, length, lines_of, List, marker_in, Ok, replay_parts, Run, run, sched_of}
use Rattle.pct_names.proofs.Names.{schedule_lines, schedule_part, Script, script_lines, script_part, Some, split_at_marker, take}
use Rattle.pct_names.proofs.Names.{take-append_seam, text_of, ℕ, ◌∙◌, ◌∷◌, ◌≡◌, ◌≤◌}
use Rattle.std.proofs.Common.{le-leb, length-append}
use Rattle.pct_model.specs.declared.keyword.Keyword.TheVariants as keyword
use Rattle.pct_schedule.specs.Schedules.{IsSchedule}
use Rattle.pct_schedule_laws.specs.ReplayInput.{replay_input, IsSplit, IsReplayInput}
use Rattle.pct_schedule.proofs.ByEntries.{by_lines}
use Rattle.pct_schedule_laws.proofs.FirstMarker.{marker_after}
use Rattle.pct_schedule_laws.proofs.ScriptLines.{script_is_lines}
use Rattle.pct_schedule_laws.proofs.ReadBack.{schedule_again, run_is_schedule}
use Rattle.pct_schedule_laws.proofs.Sizes.{schedule_size}
use Rattle.pct_schedule_laws.proofs.CanonSize.{canon_size}
use Rattle.pct_schedule.proofs.WithinLimits.{sched_within}

-- the marker is after the canonical text
marker_at : (script : Script) (text : List ℕ) → marker_in 0 (lines_of (replay_input script text)) ≡ Some (length (canon script), length (canon script) + 3)
unfolding replay_input
marker_at script text = marker_after (script_lines (contents_of script)) text 0 (length (canon script)) (script_is_lines script) (omega arith)

input_size : (script : Script) (text : List ℕ) → length (replay_input script text) ≡ length (canon script) + 3 + length text
unfolding replay_input
input_size script text = omega (arith, length-append (canon script) (codes "%%\n" ++ text))

parts_are : (script : Script) (text : List ℕ) → replay_parts (replay_input script text) ≡ (length (canon script), length (canon script) + 3)
unfolding replay_parts
parts_are script text =
    let end = length (canon script) in
    let size = length (replay_input script text) in
    let within : end + 3 ≤ size = omega (arith, input_size script text) in
    ap (split_at_marker size) (marker_at script text) ∙ ap (λ (b : Bool). (end, cond b (end + 3) size)) (le-leb (end + 3) size within)

script_again : (script : Script) (text : List ℕ) → script_part (keyword_text keyword.Replay ∷ []) (replay_input script text) ≡ canon script
unfolding script_part is_asked keyword_text replay_input
script_again script text =
    ap (λ (parts : ℕ × ℕ). take parts.0 (replay_input script text)) (parts_are script text) ∙ take-append_seam (canon script) (codes "%%\n" ++ text)

text_again : (script : Script) (text : List ℕ) → schedule_part (replay_input script text) ≡ text
unfolding schedule_part replay_input
text_again script text =
    ap (λ (parts : ℕ × ℕ). drop parts.1 (replay_input script text)) (parts_are script text) ∙ drop-append-add (canon script) (codes "%%\n" ++ text) 3

-- such an input is split into the canonical text and the text after the marker
pub replay_input_is_split : (script : Script) (text : List ℕ) → IsSplit script text
replay_input_is_split script text = record { script_is = script_again script text; text_is = text_again script text }

schedule_read : (config : Config) (entries : List Entry) → IsSchedule config entries → sched_of (text_of (schedule_lines config entries)) ≡ Ok (config, entries)
schedule_read config entries is = by_lines (text_of (schedule_lines config entries)) ∙ schedule_again config entries is 1

-- there is such an input for each schedule
pub replay_input_exists : (script : Script) (config : Config) (entries : List Entry) → IsSchedule config entries → IsReplayInput script config entries
replay_input_exists script config entries is =
    let text = text_of (schedule_lines config entries) in
    record {
      script_is = script_again script text;
      schedule_is = ap sched_of (text_again script text) ∙ schedule_read config entries is;
      fits = omega (arith, input_size script text, canon_size script, schedule_size config entries is);
    }

-- for that of each run
pub run_has_input : (script : Script) (config : Config) (entries : List Entry) (after : Run) → run script config entries ≡ Some after → IsReplayInput script config entries
run_has_input script config entries after is = replay_input_exists script config entries (run_is_schedule script config entries after is)

-- and for each schedule that is read from a text
pub read_schedule_has_input : (script : Script) (text : List ℕ) (config : Config) (entries : List Entry) → sched_of text ≡ Ok (config, entries) → IsReplayInput script config entries
read_schedule_has_input script text config entries e = replay_input_exists script config entries (sched_within text config entries e)
