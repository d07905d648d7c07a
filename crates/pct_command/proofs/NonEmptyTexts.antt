-- Texts that are not empty.
use Rattle.pct_names.proofs.Names.{◌<◌, [], arith, checks, first_fault, first_wrong, keyword_text, length, lines_of, List, name_twice}
use Rattle.pct_names.proofs.Names.{nesting_in, no_main, None, none-some, not_plain, parsed_lines, refl, return_in_push, Some, spelled_lines}
use Rattle.pct_names.proofs.Names.{spelling, split_sections, suc, sym, take, too_many, unknown_name, zero, ℕ, ◌∙◌, ◌∷◌, ◌≡◌}
use Rattle.pct_model.specs.declared.refusal.ParseWhy.TheVariants as fault
use Rattle.pct_script_lines.specs.Fault.{NeedsMemory}

-- an empty text has no line that spells something
empty_spells_nothing : spelled_lines [] ≡ []
unfolding spelled_lines lines_of
empty_spells_nothing = refl

-- it has no function `main`
empty_is_faulty : first_fault [] ≡ Some (1, fault.NoMain)
unfolding keyword_text lines_of spelled_lines spelling parsed_lines split_sections nesting_in first_wrong too_many name_twice unknown_name return_in_push not_plain no_main checks first_fault
empty_is_faulty = refl

-- a text whose check needs memory
pub needs_bytes : (text : List ℕ) → NeedsMemory text → 0 < length text
needs_bytes [] needs = absurd (needs.some empty_spells_nothing)
needs_bytes (b ∷ bytes) needs = omega arith

-- a text without a fault
pub faultless_bytes : (text : List ℕ) → first_fault text ≡ None → 0 < length text
faultless_bytes [] none = absurd (none-some (1, fault.NoMain) (sym none ∙ empty_is_faulty))
faultless_bytes (b ∷ bytes) none = omega arith

-- a text with a prefix that is not empty
pub some_of_prefix : (n : ℕ) (text : List ℕ) → 0 < length (take n text) → 0 < length text
some_of_prefix zero [] some = some
some_of_prefix (suc n) [] some = some
some_of_prefix n (b ∷ bytes) some = omega arith
