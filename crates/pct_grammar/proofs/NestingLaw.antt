-- Whether the lines of a text nest: line by line, and function by function.
use Rattle.pct_names.proofs.Names.{◌&&◌, [], and_parts, ap, are_in_functions, are_nested, AreContents, Block, Blocks, Bool, Change}
use Rattle.pct_names.proofs.Names.{change_at, cond, Contents, declares_by, Err, false, Fault, faulty_or, filter, functions_in, inside}
use Rattle.pct_names.proofs.Names.{is_declaration, is_empty, is_function, is_none, is_statement, kinds_of, Line, List, list_all, map}
use Rattle.pct_names.proofs.Names.{nesting, nesting_in, nests, nests_or, not, not-false, Numbered, Ok, open_after, open_after_line, Option}
use Rattle.pct_names.proofs.Names.{outside, ParseWhy, refl, Result, Role, role_in, roles, Section, Sections, sections_of, SpellsBody}
use Rattle.pct_names.proofs.Names.{split_sections, Stays, sym, true, ◌||◌, ℕ, ◌∙◌, ◌∷◌, ◌≡◌}
use Rattle.pct_model.specs.declared.role.Block.TheVariants as block
use Rattle.pct_model.specs.declared.role.Role.TheVariants as role
use Rattle.pct_model.specs.declared.line_kind.SymbolKind.TheVariants as kind
use Rattle.pct_grammar.proofs.SectionSplits.{all_statements, are_sections, prefix_if}
use Rattle.pct_grammar.proofs.FirstFaults.{and_assoc, swap}
use Rattle.pct_grammar.proofs.Roles.{without_numbers, roles_same, all_from_zip}

-- ---- without the lines' numbers

kinds_after : (blocks : Blocks) (n : ℕ) (change : Change) → kinds_of (open_after_line blocks n change) ≡ open_after (kinds_of blocks) change
unfolding open_after_line open_after
kinds_after [] n Stays = refl
kinds_after [] n _ = refl
kinds_after (b ∷ blocks) n Stays = refl
kinds_after (b ∷ blocks) n _ = refl

one_line : (blocks : Blocks) (l : Numbered Role) (lines : List (Numbered Role)) → nesting_in blocks (l ∷ lines) ≡ faulty_or l.0 (change_at (kinds_of blocks) l.1) (λ change. nesting_in (open_after_line blocks l.0 change) lines)
unfolding nesting_in
one_line [] l lines = refl
one_line (b ∷ blocks) l lines = refl

one_role : (blocks : List Block) (r : Role) (rs : List Role) → are_nested blocks (r ∷ rs) ≡ nests_or (change_at blocks r) (λ change. are_nested (open_after blocks change) rs)
unfolding are_nested
one_role [] r rs = refl
one_role (b ∷ blocks) r rs = refl

same_answer : (n : ℕ) (answer : Result Change ParseWhy) (f : Change → Option Fault) (g : Change → Bool) → ((change : Change) → is_none (f change) ≡ g change) → is_none (faulty_or n answer f) ≡ nests_or answer g
same_answer n (Ok change) f g e = e change
same_answer n (Err why) f g e = refl

nesting_in_is : (blocks : Blocks) (lines : List (Numbered Role)) → is_none (nesting_in blocks lines) ≡ are_nested (kinds_of blocks) (map (λ (l : Numbered Role). l.1) lines)
unfolding nesting_in are_nested
nesting_in_is [] [] = refl
nesting_in_is (b ∷ blocks) [] = refl
nesting_in_is blocks (l ∷ lines) =
    let rs = map (λ (r : Numbered Role). r.1) lines in
    ap (λ (o : Option Fault). is_none o) (one_line blocks l lines)
    ∙ same_answer l.0 (change_at (kinds_of blocks) l.1) (λ change. nesting_in (open_after_line blocks l.0 change) lines) (λ change. are_nested (open_after (kinds_of blocks) change) rs)
    (λ (change : Change). nesting_in_is (open_after_line blocks l.0 change) lines ∙ ap (λ (bs : List Block). are_nested bs rs) (kinds_after blocks l.0 change))
    ∙ sym (one_role (kinds_of blocks) l.1 rs)

-- the check finds no fault if and only if the lines nest
pub nesting_is : (lines : List Line) → is_none (nesting (roles lines)) ≡ are_nested [] (map (λ l. role_in l.1) lines)
nesting_is lines = nesting_in_is [] (roles lines) ∙ ap (λ (rs : List Role). are_nested [] rs) (without_numbers lines)

-- ---- section by section

abbrev roles_of : List Line → List Role
roles_of lines = map (λ (l : Line). role_in l.1) lines

-- the blocks of a function nest, and its last `end` closes it
abbrev pub section_nests : Section → Bool
section_nests section = are_nested (block.Function ∷ []) (roles_of section.body)

abbrev is_whole : Section → Bool
is_whole section = is_function section || is_empty section.body

-- the sections have statements in functions alone, and the functions nest
abbrev sections_nest : List Section → Bool
sections_nest sections = list_all is_whole sections && list_all section_nests (filter is_function sections)

-- so do a section whose header has this role, and these sections
abbrev first_nests : Role → Section → List Section → Bool
first_nests r section sections =
    (declares_by kind.Function r || is_empty section.body) && list_all is_whole sections && list_all section_nests (cond (declares_by kind.Function r) (section ∷ filter is_function sections) (filter is_function sections))

not_outside : (r : Role) (f : Change → Bool) → not (is_declaration r) ≡ true → nests_or (outside r) f ≡ false
unfolding outside
not_outside (role.Declares k) f e = absurd cc
not_outside _ f e = refl

-- there is no statement outside of functions
none_outside : (lines : List Line) → all_statements lines ≡ true → are_nested [] (roles_of lines) ≡ is_empty lines
unfolding are_nested change_at
none_outside [] are = refl
none_outside (l ∷ lines) are = not_outside (role_in l.1) (λ change. are_nested (open_after [] change) (roles_of lines)) (and_parts (is_statement l.1) (all_statements lines) are).0

both : (answer : Result Change ParseWhy) (f g : Change → Bool) (t : Bool) → ((change : Change) → f change ≡ (g change && t)) → nests_or answer f ≡ (nests_or answer g && t)
both (Ok change) f g t e = e change
both (Err why) f g t e = refl

and_true : (t : Bool) → t ≡ (t && true)
and_true true = refl
and_true false = refl

-- a declaration before lines: they nest if and only if the statements after it do, and the sections after these
declaration_first : (blocks : List Block) (r : Role) (rs : List Role) (section : Section) (sections : List Section) → is_declaration r ≡ true → all_statements section.body ≡ true
    → ((bs : List Block) → are_nested bs rs ≡ (are_nested bs (roles_of section.body) && sections_nest sections)) → are_nested blocks (r ∷ rs) ≡ (are_nested blocks [] && first_nests r section sections)
unfolding are_nested change_at outside inside open_after
declaration_first [] (role.Declares kind.Function) rs section sections e are more =
    more (block.Function ∷ []) ∙ swap (section_nests section) (list_all is_whole sections) (list_all section_nests (filter is_function sections))
declaration_first [] (role.Declares k) rs section sections e are more =
    more [] ∙ ap (λ (t : Bool). t && sections_nest sections) (none_outside section.body are) ∙ and_assoc (is_empty section.body) (list_all is_whole sections) (list_all section_nests (filter is_function sections))
declaration_first (b ∷ blocks) (role.Declares k) rs section sections e are more = refl
declaration_first _ _ rs section sections e are more = absurd cc

one_more : (l : Line) (rs : List Role) (p : Sections) (blocks : List Block) (t : Bool) → is_statement l.1 ≡ t → all_statements p.preamble ≡ true
    → ((bs : List Block) → are_nested bs rs ≡ (are_nested bs (roles_of p.preamble) && sections_nest p.sections))
    → are_nested blocks (role_in l.1 ∷ rs) ≡ (are_nested blocks (roles_of (prefix_if t l p).preamble) && sections_nest (prefix_if t l p).sections)
one_more l rs p blocks true e are more =
    one_role blocks (role_in l.1) rs
    ∙ both (change_at blocks (role_in l.1)) _ (λ change. are_nested (open_after blocks change) (roles_of p.preamble)) (sections_nest p.sections) (λ (change : Change). more (open_after blocks change))
    ∙ sym (ap (λ (b : Bool). b && sections_nest p.sections) (one_role blocks (role_in l.1) (roles_of p.preamble)))
one_more l rs p blocks false e are more =
    declaration_first blocks (role_in l.1) rs (record { header = l; body = p.preamble }) p.sections (not-false (is_declaration (role_in l.1)) e) are more

-- lines nest where blocks are open if and only if the statements before the first section close them, and the sections nest
by_sections : (lines : List Line) (blocks : List Block) → are_nested blocks (roles_of lines) ≡ (are_nested blocks (roles_of (split_sections lines).preamble) && sections_nest (sections_of lines))
unfolding split_sections
by_sections [] blocks = and_true (are_nested blocks [])
by_sections (l ∷ lines) blocks = one_more l (roles_of lines) (split_sections lines) blocks (is_statement l.1) refl (are_sections lines).prefix_is (by_sections lines)

-- the check finds no fault if and only if each statement is in a function and each function nests
pub nesting_by_sections : (lines : List Line) → is_none (nesting (roles lines)) ≡ (are_in_functions lines && list_all section_nests (functions_in lines))
nesting_by_sections lines =
    nesting_is lines ∙ by_sections lines []
    ∙ ap (λ (t : Bool). t && sections_nest (sections_of lines)) (none_outside (split_sections lines).preamble (are_sections lines).prefix_is)
    ∙ and_assoc (is_empty (split_sections lines).preamble) (list_all is_whole (sections_of lines)) (list_all section_nests (functions_in lines))

-- ---- the functions that the lines spell

-- the check finds no fault if and only if each function nests
pub nesting_law : (lines : List Line) (c : Contents) → AreContents lines c → is_none (nesting (roles lines)) ≡ list_all nests c.funcs
nesting_law lines c are =
    nesting_by_sections lines ∙ ap (λ (t : Bool). t && list_all section_nests (functions_in lines)) are.in_functions
    ∙ all_from_zip (SpellsBody c) section_nests nests (λ section f e. ap (λ (rs : List Role). are_nested (block.Function ∷ []) rs) (roles_same c section f e))
    (functions_in lines) c.funcs are.bodies
