use Rattle.pct_names.proofs.Names.{◌++◌, [], ap, List, nil_from_length, strip_cr, sym, ℕ, ◌∙◌, ◌∷◌, ◌≡◌, ◌≢◌}
use Rattle.pct_text.proofs.Lines.{strip_cr-drops, strip_cr-keeps}
use Rattle.pct_text.proofs.line.strip_cr.Goals as goal

nothing_kept : (line : List ℕ) → line ≡ [] → line ≡ strip_cr line
unfolding strip_cr
nothing_kept line e = e ∙ sym (ap strip_cr e)

dropped : (line prefix : List ℕ) (last : ℕ) → line ≡ prefix ++ last ∷ [] → last ≡ 13 → prefix ≡ strip_cr line
dropped line prefix last e is = sym (ap strip_cr (e ∙ ap (λ (b : ℕ). prefix ++ b ∷ []) is) ∙ strip_cr-drops prefix)

kept : (line prefix : List ℕ) (last : ℕ) → line ≡ prefix ++ last ∷ [] → last ≢ 13 → line ≡ strip_cr line
kept line prefix last e other = e ∙ sym (ap strip_cr e ∙ strip_cr-keeps prefix last other)

pub returns-in-Some : goal.returns-in-Some
returns-in-Some c = dropped c.args.line.now c.in-Some.prefix.now c.in-Some.last.now c.in-Some.ensures.cases.0 c.if-last-eq13.true

pub returns-in_default : goal.returns-in_default
returns-in_default c = kept c.args.line.now c.in-Some.prefix.now c.in-Some.last.now c.in-Some.ensures.cases.0 c.if-last-eq13.false

pub returns-in_default-2 : goal.returns-in_default-2
returns-in_default-2 c = nothing_kept c.args.line.now (nil_from_length c.args.line.now (rw c.in_default.is at c.split_last.ensures.cases))
