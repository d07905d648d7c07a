-- The text of a report, part by part.
use Rattle.pct_names.proofs.Names.{◌++◌, [], ap, Config, Entry, Event, event_line, line_text, List, map, report_lines, schedule_lines}
use Rattle.pct_names.proofs.Names.{Script, sym, text_of, title_line, Verdict, verdict_line, ◌∙◌, ◌∷◌, ◌≡◌}
use Rattle.std.proofs.Common.{append_assoc}
use Rattle.std.specs.List.{flat_map}
use Rattle.std.proofs.lemmas.Grind.{flat_map-append}
use Rattle.pct_schedule.proofs.ScheduleTexts.{one_line, framed}

pub report-text : (script : Script) (config : Config) (events : List Event) (v : Verdict) (entries : List Entry) → text_of (report_lines script config events v entries) ≡ (line_text (title_line config) ++ flat_map (λ e. line_text (event_line script e)) events) ++ (line_text (verdict_line v) ++ text_of (schedule_lines config entries))
unfolding report_lines
report-text script config events v entries =
    let read_back = flat_map (λ e. line_text (event_line script e)) events in
    let tail = schedule_lines config entries in
    flat_map-append line_text ((title_line config ∷ []) ++ map (event_line script) events ++ (verdict_line v ∷ [])) tail
    ∙ ap (λ text. text ++ text_of tail) (framed (title_line config) (event_line script) events (verdict_line v ∷ []))
    ∙ ap (λ text. (line_text (title_line config) ++ (read_back ++ text)) ++ text_of tail) (one_line (verdict_line v))
    ∙ ap (λ text. text ++ text_of tail) (sym (append_assoc (line_text (title_line config)) read_back (line_text (verdict_line v))))
    ∙ append_assoc (line_text (title_line config) ++ read_back) (line_text (verdict_line v)) (text_of tail)
