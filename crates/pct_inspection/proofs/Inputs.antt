-- The script and the prefix of an input.
use Rattle.pct_names.proofs.Names.{◌-◌, ap, between_to_end, drop, is_some, le_refl, length, List, None, none-some, Option, refl, replay_parts, same_Some, Script, Some}
use Rattle.pct_names.proofs.Names.{Spells, subst, sym, take, take-length, true, ℕ, ◌∙◌, ◌≡◌, ◌≢◌, ◌≤◌}
use Rattle.std.proofs.lemmas.Bool.{true≢false}
use Rattle.pct_inspection.specs.declared.words.Inspection.{Inspection}
use Rattle.pct_inspection.specs.declared.words.Inspection.TheVariants as inspection
use Rattle.pct_inspection.specs.Words.{is_inspection}
use Rattle.pct_inspection.specs.Inputs.{script_in, prefix_in}
use Rattle.pct_inspection.specs.Inspection.{follows_prefix, script_asked}
use Rattle.pct_inspection.specs.TallyOutcomes.{IsOfScript, parts_for}
use Rattle.pct_inspection.specs.Answer.{AsksFor, HasParts}

-- words that ask for something are accepted
pub is_accepted : (words : List (List ℕ)) (what : Inspection) → AsksFor words what → is_inspection words ≡ true
is_accepted words what asked = ap is_some asked

-- ---- what the words ask for

-- what is asked for: 1 for what follows a prefix, 2 for a tally, 3 for a sum, 4 for a survey, 5 for a judgement
abbrev pub kind : Inspection → ℕ
kind (inspection.Continue seed) = 1
kind (inspection.Show shown) = 1
kind (inspection.Tally seeds) = 2
kind inspection.Sum = 3
kind (inspection.Survey seeds config) = 4
kind inspection.Judge = 5

-- words ask for one thing
pub same_kind : (words : List (List ℕ)) (one other : Inspection) → AsksFor words one → AsksFor words other → kind one ≡ kind other
same_kind words one other a b = ap kind (same_Some one other (sym a ∙ b))

-- words that ask to follow a prefix are accepted, and ask for something of the script before the line `%%`
pub follows_accepted : (asked : Option Inspection) → follows_prefix asked ≡ true → is_some asked ≡ true
follows_accepted (Some asked) follows = refl
follows_accepted None follows = follows

pub follows_script : (asked : Option Inspection) (input : List ℕ) → follows_prefix asked ≡ true → script_asked asked input ≡ Some (script_in input)
follows_script (Some (inspection.Continue seed)) input follows = refl
follows_script (Some (inspection.Show shown)) input follows = refl
follows_script (Some (inspection.Tally seeds)) input follows = absurd (true≢false (sym follows))
follows_script (Some inspection.Sum) input follows = absurd (true≢false (sym follows))
follows_script (Some (inspection.Survey seeds config)) input follows = absurd (true≢false (sym follows))
follows_script (Some inspection.Judge) input follows = absurd (true≢false (sym follows))
follows_script None input follows = absurd (true≢false (sym follows))

-- words that ask for something of a script are accepted
pub script_accepted : (asked : Option Inspection) (input part : List ℕ) → script_asked asked input ≡ Some part → is_some asked ≡ true
script_accepted (Some asked) input part is = refl
script_accepted None input part is = absurd (none-some part is)

-- ---- the parts of an input

-- the script of an input that was split
pub is_script : (input : List ℕ) (parts : ℕ × ℕ) → parts ≡ replay_parts input → take parts.0 input ≡ script_in input
unfolding script_in
is_script input parts same = ap (λ (p : ℕ × ℕ). take p.0 input) same

-- the script and the prefix of an input that was split
pub has-parts : (input : List ℕ) (script : Script) (parts : ℕ × ℕ) → length input ≤ 16777216 → parts ≡ replay_parts input → Spells (take parts.0 input) script → HasParts input script (take (length input - parts.1) (drop parts.1 input))
unfolding prefix_in
has-parts input script parts fits same spelled = record {
  has_script = record { fits = fits; spelled = subst (λ (part : List ℕ). Spells part script) (is_script input parts same) spelled };
  rest = between_to_end input parts.1 (length input) (le_refl _) ∙ ap (λ (p : ℕ × ℕ). drop p.1 input) same;
}

-- the script of an input that was split as the words ask
pub script_part : (asked : Inspection) (input : List ℕ) (parts : ℕ × ℕ) → IsOfScript asked → parts ≡ parts_for asked input → script_asked (Some asked) input ≡ Some (take parts.0 input)
unfolding script_in
script_part (inspection.Continue seed) input parts of_script same = ap (λ (p : ℕ × ℕ). Some (take p.0 input)) (sym same)
script_part (inspection.Show shown) input parts of_script same = ap (λ (p : ℕ × ℕ). Some (take p.0 input)) (sym same)
script_part (inspection.Tally seeds) input parts of_script same = ap Some (sym (take-length input)) ∙ ap (λ (p : ℕ × ℕ). Some (take p.0 input)) (sym same)
script_part inspection.Sum input parts of_script same = absurd of_script
script_part (inspection.Survey seeds config) input parts of_script same = ap (λ (p : ℕ × ℕ). Some (take p.0 input)) (sym same)
script_part inspection.Judge input parts of_script same = absurd of_script

-- what is asked for is of a script, unless it is a sum or a judgement
pub of_script : (asked : Inspection) → asked ≢ inspection.Sum → asked ≢ inspection.Judge → IsOfScript asked
of_script (inspection.Continue seed) no_sum no_judgement = tt
of_script (inspection.Show shown) no_sum no_judgement = tt
of_script (inspection.Tally seeds) no_sum no_judgement = tt
of_script inspection.Sum no_sum no_judgement = no_sum refl
of_script (inspection.Survey seeds config) no_sum no_judgement = tt
of_script inspection.Judge no_sum no_judgement = no_judgement refl
