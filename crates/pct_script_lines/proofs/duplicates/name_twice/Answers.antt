use Rattle.pct_names.proofs.Names.{ap, arith, drop, false, fault_at_line, length, Line, List, NameTwice, refl, sym, take, true, ◌∙◌, ◌∷◌}
use Rattle.pct_names.proofs.Names.{◌≡◌}
use Rattle.pct_script_lines.specs.DeclaredBefore.{is_wrong, first_twice}
use Rattle.pct_script_lines.proofs.DeclaredBefore.{twice_is, take_next, drop_next, first_here, first_after, first_none}
use Rattle.pct_script_lines.proofs.duplicates.name_twice.Goals as goal

pub loop-line-init : goal.loop-line-init
loop-line-init c = record { found = twice_is c.args.lines.now; whole = refl; few = omega arith }

pub returns-then-is_wrong : goal.returns-then-is_wrong
returns-then-is_wrong c =
    let prefix = take c.loop-line.at c.args.lines.now in
    let line = c.in-Some.line.now in
    let wrong : is_wrong prefix line.1 ≡ true = ap (λ (ls : List Line). is_wrong ls line.1) (sym c.split_at.ensures.front) ∙ sym c.if-is_wrong.ensures in
    sym (ap (λ (ls : List Line). fault_at_line NameTwice (first_twice prefix ls)) c.in-Some.ensures.cases.0
    ∙ ap (fault_at_line NameTwice) (first_here prefix line c.in-Some.after.now wrong))
    ∙ c.loop-line.invariant.found

pub loop-line-preserved : goal.loop-line-preserved
loop-line-preserved c =
    let at = c.loop-line.at in
    let lines = c.args.lines.now in
    let line = c.in-Some.line.now in
    let after = c.in-Some.after.now in
    let right : is_wrong (take at lines) line.1 ≡ false = ap (λ (ls : List Line). is_wrong ls line.1) (sym c.split_at.ensures.front) ∙ sym c.if-is_wrong.ensures in
    let left : drop at lines ≡ line ∷ after = c.loop-line.invariant.whole ∙ c.in-Some.ensures.cases.0 in
    record {
      found =
          ap (λ (ls : List Line). fault_at_line NameTwice (first_twice ls after)) (take_next lines at line after left)
          ∙ ap (fault_at_line NameTwice) (sym (first_after (take at lines) line after right))
          ∙ ap (λ (ls : List Line). fault_at_line NameTwice (first_twice (take at lines) ls)) (sym c.in-Some.ensures.cases.0)
          ∙ c.loop-line.invariant.found;
      whole = drop_next lines at line after left;
      few = omega (arith, ap length c.in-Some.ensures.cases.0);
    }

pub returns : goal.returns
returns c =
    let prefix = take c.loop-line.at c.args.lines.now in
    sym (ap (fault_at_line NameTwice) (first_none prefix c.loop-line.rest.now c.in_default.ensures.cases)) ∙ c.loop-line.invariant.found
