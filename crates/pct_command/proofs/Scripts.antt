-- The script of a text, and that of an input.
use Rattle.pct_names.proofs.Names.{◌-◌, ap, between_to_end, drop, FirstFault, le_refl, length, List, none-some, ParseWhy, Script, Spells}
use Rattle.pct_names.proofs.Names.{subst, sym, take, ℕ, ◌∙◌, ◌≡◌, ◌≤◌}
use Rattle.pct_grammar.proofs.Scripts.{spelled_is_faultless}
use Rattle.pct_command.specs.declared.words.Job.{Job}
use Rattle.pct_command.specs.Words.{Asks, parts_of_job}
use Rattle.pct_command.specs.Answer.{HasParts}
use Rattle.pct_command.proofs.AskedWords.{is_part}

-- a text that spells a script has no first fault
pub spelled_or_fault : (text : List ℕ) (script : Script) (line : ℕ) (why : ParseWhy) → Spells text script → FirstFault text line why → ⊥
spelled_or_fault text script line why spelled first = none-some (line, why) (sym (spelled_is_faultless text script spelled) ∙ first)

-- the script and the schedule of an input that was split
pub has-parts : (words : List (List ℕ)) (job : Job) (input : List ℕ) (script : Script) (parts : ℕ × ℕ) → Asks words job → length input ≤ 16777216 → parts ≡ parts_of_job job input → Spells (take parts.0 input) script → HasParts words job input script (take (length input - parts.1) (drop parts.1 input))
has-parts words job input script parts asks fits same spelled = record {
  has_script = record { fits = fits; spelled = subst (λ (part : List ℕ). Spells part script) (is_part words job input parts asks same) spelled };
  rest = between_to_end input parts.1 (length input) (le_refl _) ∙ ap (λ (p : ℕ × ℕ). drop p.1 input) same;
}
