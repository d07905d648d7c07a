-- A text of rules, line by line.
use Rattle.std.proofs.lemmas.List.{append_assoc}
use Rattle.pct_names.proofs.Names.{◌++◌, [], ap, Bool, cond, cons_option, Err, false, find, is_none, IsOk, List, None, Numbered, Ok}
use Rattle.pct_names.proofs.Names.{Option, option_map, option_or, refl, Result, same_Some, slice_get, Some, spelled_lines, subst, sym, true, ℕ, ◌∙◌, ◌∷◌, ◌≡◌}
use Rattle.pct_expect.specs.declared.fault.ExpectWhy.{ExpectWhy}
use Rattle.pct_expect.specs.declared.fault.ExpectWhy.TheVariants as why
use Rattle.pct_expect.specs.declared.rule.Rule.{Rule}
use Rattle.pct_expect.specs.Reading.{Fault, bad_line, expects_in, fault_in, no_rule, rules_in, too_many, unless}
use Rattle.pct_expect.specs.Rules.{rule_in}

some_is_none : {A : Type 0} (x : A) → Some x ≡ None → ⊥
some_is_none x e = cc

pub none_mapped : {A B : Type 0} (f : A → B) (found : Option A) → is_none (option_map f found) ≡ is_none found
none_mapped f None = refl
none_mapped f (Some x) = refl

-- ---- the first line that is no rule

abbrev is_bad : Numbered (List ℕ) → Bool
is_bad l = is_none (rule_in l.0 l.1)

abbrev as_fault : ExpectWhy → Numbered (List ℕ) → Fault
as_fault reason l = (l.0, reason)

abbrev numbered : ℕ → List ℕ → Numbered (List ℕ)
numbered n line = (n, line)

abbrev pub fault_at : ℕ → ExpectWhy → Fault
fault_at n reason = (n, reason)

pub bad_first : (lines : List (Numbered (List ℕ))) (n : ℕ) (line : List ℕ) (rest : List (Numbered (List ℕ))) → lines ≡ (n, line) ∷ rest → is_none (rule_in n line) ≡ true → bad_line lines ≡ Some (fault_at n why.BadLine)
unfolding bad_line
bad_first lines n line rest e is = ap bad_line e ∙ ap (λ (t : Bool). option_map (as_fault why.BadLine) (cond t (Some (numbered n line)) (find is_bad rest))) is

pub bad_later : (lines : List (Numbered (List ℕ))) (n : ℕ) (line : List ℕ) (rest : List (Numbered (List ℕ))) → lines ≡ (n, line) ∷ rest → is_none (rule_in n line) ≡ false → bad_line lines ≡ bad_line rest
unfolding bad_line
bad_later lines n line rest e is = ap bad_line e ∙ ap (λ (t : Bool). option_map (as_fault why.BadLine) (cond t (Some (numbered n line)) (find is_bad rest))) is

pub bad_none : (lines : List (Numbered (List ℕ))) → lines ≡ [] → bad_line lines ≡ None
unfolding bad_line
bad_none lines e = ap bad_line e

-- ---- the other checks

many_at : (found : Option (Numbered (List ℕ))) (n : ℕ) → option_map (λ l. l.0) found ≡ Some n → option_map (as_fault why.TooMany) found ≡ Some (fault_at n why.TooMany)
many_at None n e = absurd (some_is_none n (sym e))
many_at (Some l) n e = ap (λ (m : ℕ). Some (fault_at m why.TooMany)) (same_Some l.0 n e)

many_none : (found : Option (Numbered (List ℕ))) → option_map (λ l. l.0) found ≡ None → option_map (as_fault why.TooMany) found ≡ None
many_none None e = refl
many_none (Some l) e = absurd (some_is_none l.0 e)

pub too_many_at : (lines : List (Numbered (List ℕ))) (n : ℕ) → option_map (λ l. l.0) (slice_get lines 64) ≡ Some n → too_many lines ≡ Some (fault_at n why.TooMany)
unfolding too_many
too_many_at lines n e = many_at (slice_get lines 64) n e

pub few_enough : (lines : List (Numbered (List ℕ))) → option_map (λ l. l.0) (slice_get lines 64) ≡ None → too_many lines ≡ None
unfolding too_many
few_enough lines e = many_none (slice_get lines 64) e

pub rule_missing : (lines : List (Numbered (List ℕ))) → option_map (λ l. l.0) (slice_get lines 0) ≡ None → no_rule lines ≡ Some (fault_at 1 why.NoRule)
unfolding no_rule
rule_missing [] e = refl
rule_missing (l ∷ lines) e = absurd (some_is_none l.0 e)

pub rule_there : (lines : List (Numbered (List ℕ))) (n : ℕ) → option_map (λ l. l.0) (slice_get lines 0) ≡ Some n → no_rule lines ≡ None
unfolding no_rule
rule_there [] n e = absurd (some_is_none n (sym e))
rule_there (l ∷ lines) n e = refl

-- ---- the first fault

pub fault_bad : (lines : List (Numbered (List ℕ))) (fault : Fault) → bad_line lines ≡ Some fault → fault_in lines ≡ Some fault
unfolding fault_in
fault_bad lines fault bad = ap (λ (o : Option Fault). option_or o (option_or (too_many lines) (no_rule lines))) bad

pub fault_many : (lines : List (Numbered (List ℕ))) (fault : Fault) → bad_line lines ≡ None → too_many lines ≡ Some fault → fault_in lines ≡ Some fault
unfolding fault_in
fault_many lines fault bad many =
    ap (λ (o : Option Fault). option_or o (option_or (too_many lines) (no_rule lines))) bad ∙ ap (λ (o : Option Fault). option_or o (no_rule lines)) many

pub fault_last : (lines : List (Numbered (List ℕ))) (last : Option Fault) → bad_line lines ≡ None → too_many lines ≡ None → no_rule lines ≡ last → fault_in lines ≡ last
unfolding fault_in
fault_last lines last bad many none =
    ap (λ (o : Option Fault). option_or o (option_or (too_many lines) (no_rule lines))) bad ∙ ap (λ (o : Option Fault). option_or o (no_rule lines)) many ∙ none

-- ---- the rules

-- a rule is stored after the others
pub stored_after : (rules : List Rule) (rule : Rule) (rest more : List Rule) → more ≡ rules ++ rule ∷ [] → rules ++ (rule ∷ rest) ≡ more ++ rest
stored_after rules rule rest more e = sym (append_assoc rules (rule ∷ []) rest) ∙ ap (λ (items : List Rule). items ++ rest) (sym e)

pub rules_first : (lines : List (Numbered (List ℕ))) (n : ℕ) (line : List ℕ) (rest : List (Numbered (List ℕ))) (rule : Rule) → lines ≡ (n, line) ∷ rest → rule_in n line ≡ Some rule → rules_in lines ≡ rule ∷ rules_in rest
unfolding rules_in
rules_first lines n line rest rule e is = ap rules_in e ∙ ap (λ (o : Option Rule). cons_option o (rules_in rest)) is

pub rules_later : (lines : List (Numbered (List ℕ))) (n : ℕ) (line : List ℕ) (rest : List (Numbered (List ℕ))) → lines ≡ (n, line) ∷ rest → rule_in n line ≡ None → rules_in lines ≡ rules_in rest
unfolding rules_in
rules_later lines n line rest e is = ap rules_in e ∙ ap (λ (o : Option Rule). cons_option o (rules_in rest)) is

pub rules_none : (lines : List (Numbered (List ℕ))) → lines ≡ [] → rules_in lines ≡ []
unfolding rules_in
rules_none lines e = ap rules_in e

-- ---- the whole text

pub text_refused : (text : List ℕ) (fault : Fault) → fault_in (spelled_lines text) ≡ Some fault → expects_in text ≡ Err fault
unfolding expects_in
text_refused text fault e = ap (λ (o : Option Fault). unless o (rules_in (spelled_lines text))) e

pub text_read : (text : List ℕ) → fault_in (spelled_lines text) ≡ None → expects_in text ≡ Ok (rules_in (spelled_lines text))
unfolding expects_in
text_read text e = ap (λ (o : Option Fault). unless o (rules_in (spelled_lines text))) e

pub text_accepted : (text : List ℕ) → fault_in (spelled_lines text) ≡ None → IsOk (expects_in text)
text_accepted text e = subst (λ (r : Result (List Rule) Fault). IsOk r) (sym (text_read text e)) refl
