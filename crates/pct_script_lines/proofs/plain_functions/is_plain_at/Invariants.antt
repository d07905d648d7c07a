use Rattle.pct_names.proofs.Names.{[], false, functions_in, is_plain_section, length, option_map_or, slice_get, split_sections, ◌≡◌}
use Rattle.pct_script_lines.proofs.plain_functions.is_plain_at.Given as goal

abbrev pub invariant-loop-body : goal.invariant-loop-body
invariant-loop-body l = record { found : option_map_or is_plain_section (slice_get (functions_in l.rest) l.left) false ≡ option_map_or is_plain_section (slice_get (functions_in l.lines) l.at) false; prefix : (split_sections l.rest).preamble ≡ [] }

abbrev pub decreases-loop-body : goal.decreases-loop-body
decreases-loop-body l = length l.rest
