use Rattle.pct_names.proofs.Names.{◌&&◌, ap, Bool, false, sym, words_in, ◌∙◌, ◌≡◌}
use Rattle.pct_expect.specs.Rules.{is_pattern, is_size}
use Rattle.pct_expect.proofs.RulesRead.{found_sides, two_none, two_read, two_refused}
use Rattle.pct_expect.proofs.parsing.two_patterns.Goals.{else-is_size-via-then-is_size+else-is_pattern, else-is_size-via-else-is_size}
use Rattle.pct_expect.proofs.parsing.two_patterns.Goals as goal

pub returns-in_err-count : goal.returns-in_err-count
returns-in_err-count c = λ n. rw c.from_residual.ensures (sym (two_none n c.args.kind (words_in c.args.bytes.now) (sym c.in_err-count.ensures)))

pub returns-then-is_pattern : goal.returns-then-is_pattern
returns-then-is_pattern c = λ n.
    let words = words_in c.args.bytes.now in
    let second = words_in c.in_ok-count.second.now in
    let found = found_sides words c.in_ok-count.count second (sym c.in_ok-count.ensures) in
    two_read n c.args.kind words c.in_ok-count.count second found (sym c.if-is_size.ensures) (sym c.if-is_pattern.ensures)

pub returns-else-is_size : goal.returns-else-is_size
returns-else-is_size c = λ n.
    let words = words_in c.args.bytes.now in
    let second = words_in c.in_ok-count.second.now in
    let found = found_sides words c.in_ok-count.count second (sym c.in_ok-count.ensures) in
    let not_both : (is_size c.in_ok-count.count && is_pattern second) ≡ false =
    elim c.else-is_size.branch [
      | else-is_size-via-then-is_size+else-is_pattern w ↦ ap (λ (t : Bool). t && is_pattern second) (sym w.if-is_size.ensures) ∙ sym w.if-is_pattern.ensures
      | else-is_size-via-else-is_size w ↦ ap (λ (t : Bool). t && is_pattern second) (sym w.if-is_size.ensures)
    ] in
    sym (two_refused n c.args.kind words c.in_ok-count.count second found not_both)
