use Rattle.pct_names.proofs.Names.{[], first_in, first_that, length, names_other, not_plain, NotPlain, split_sections, ◌≡◌}
use Rattle.pct_script_lines.proofs.plain_functions.not_plain.Given as goal

abbrev pub invariant-loop-body : goal.invariant-loop-body
invariant-loop-body l = record { found : first_in NotPlain (λ section. first_that (names_other l.lines) section.body) l.rest ≡ not_plain l.lines; prefix : (split_sections l.rest).preamble ≡ [] }

abbrev pub decreases-loop-body : goal.decreases-loop-body
decreases-loop-body l = length l.rest
