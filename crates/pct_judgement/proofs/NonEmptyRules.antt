-- An input whose rules are read is not empty.
use Rattle.pct_names.proofs.Names.{◌<◌, [], arith, Err, false≢true, IsOk, length, lines_of, List, refl, spelled_lines, subst, ℕ, ◌∷◌, ◌≡◌}
use Rattle.pct_model.specs.Schedule.{marker_in, replay_parts}
use Rattle.pct_expect.specs.declared.fault.ExpectWhy.TheVariants as why
use Rattle.pct_expect.specs.Reading.{bad_line, expects_in, fault_in, no_rule, too_many}
use Rattle.pct_judgement.specs.Judgements.{rules_part}

empty_has_no_rule : expects_in (rules_part []) ≡ Err (1, why.NoRule)
unfolding expects_in fault_in bad_line too_many no_rule spelled_lines lines_of replay_parts marker_in
empty_has_no_rule = refl

pub some_rules : (input : List ℕ) → IsOk (expects_in (rules_part input)) → 0 < length input
some_rules [] read = absurd (false≢true (subst (λ r. IsOk r) empty_has_no_rule read))
some_rules (b ∷ bytes) read = omega arith
