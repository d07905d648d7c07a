-- The lines before the first section of a text are statements, and so are those of a section after its header; the headers are
-- the declarations.
use Rattle.pct_names.proofs.Names.{◌&&◌, [], and_from, ap, Bool, cond, declares, declares_by, declaring, false, filter, functions_in}
use Rattle.pct_names.proofs.Names.{headers, is_declaration, is_function, is_statement, Line, List, list_all, map, not, not-false, refl}
use Rattle.pct_names.proofs.Names.{Role, role_in, Section, Sections, sections_of, split_sections, sym, SymbolKind, true, ◌∙◌, ◌∷◌, ◌≡◌}
use Rattle.pct_model.specs.declared.line_kind.SymbolKind.TheVariants as kind
use Rattle.pct_model.specs.declared.role.Role.TheVariants as role

-- one more line at the start, a statement or not
abbrev pub prefix_if : Bool → Line → Sections → Sections
prefix_if t l p = cond t (record { preamble = l ∷ p.preamble; sections = p.sections }) (record { preamble = []; sections = record { header = l; body = p.preamble } ∷ p.sections })

-- lines that are all statements
abbrev pub all_statements : List Line → Bool
all_statements lines = list_all (λ l. is_statement l.1) lines

-- a section is a declaration with statements after it
abbrev pub is_section : Section → Bool
is_section section = is_declaration (role_in section.header.1) && all_statements section.body

-- statements before the first section, and sections
pub record AreSections (p : Sections) : Type 0 where
  pub prefix_is : all_statements p.preamble ≡ true
  pub sections_are : list_all is_section p.sections ≡ true

one_more : (l : Line) (p : Sections) (t : Bool) → is_statement l.1 ≡ t → AreSections p → AreSections (prefix_if t l p)
one_more l p true e are = record {
  prefix_is = and_from (is_statement l.1) (all_statements p.preamble) e are.prefix_is;
  sections_are = are.sections_are;
}
one_more l p false e are = record {
  prefix_is = refl;
  sections_are = and_from (is_declaration (role_in l.1) && all_statements p.preamble) (list_all is_section p.sections)
      (and_from (is_declaration (role_in l.1)) (all_statements p.preamble) (not-false (is_declaration (role_in l.1)) e) are.prefix_is) are.sections_are;
}

-- the lines of every text split so
pub are_sections : (lines : List Line) → AreSections (split_sections lines)
unfolding split_sections
are_sections [] = record { prefix_is = refl; sections_are = refl }
are_sections (l ∷ lines) = one_more l (split_sections lines) (is_statement l.1) refl (are_sections lines)

-- ---- headers

-- the headers of sections
abbrev pub outlines_of : List Section → List Line
outlines_of sections = map (λ section. section.header) sections

one_header : (l : Line) (p : Sections) (t : Bool) → outlines_of (prefix_if (not t) l p).sections ≡ cond t (l ∷ outlines_of p.sections) (outlines_of p.sections)
one_header l p true = refl
one_header l p false = refl

-- the headers of the sections are the declarations
pub headers_are : (lines : List Line) → headers lines ≡ filter (λ (l : Line). is_declaration (role_in l.1)) lines
unfolding split_sections
headers_are [] = refl
headers_are (l ∷ lines) = one_header l (split_sections lines) (is_declaration (role_in l.1)) ∙ ap (λ (ls : List Line). cond (is_declaration (role_in l.1)) (l ∷ ls) ls) (headers_are lines)

-- a statement declares nothing
pub no_kind : (k : SymbolKind) (r : Role) → not (is_declaration r) ≡ true → declares_by k r ≡ false
no_kind k (role.Declares j) e = absurd cc
no_kind k _ e = refl

declaring_step : (k : SymbolKind) (l : Line) (p : Sections) (t : Bool) → is_statement l.1 ≡ t → declaring k (outlines_of (prefix_if t l p).sections) ≡ declaring k (l ∷ outlines_of p.sections)
declaring_step k l p true e =
    let others : List Line = declaring k (outlines_of p.sections) in
    sym (ap (λ (is : Bool). cond is (l ∷ others) others) (no_kind k (role_in l.1) e))
declaring_step k l p false e = refl

-- the declarations of a kind are among the headers of the sections
pub declaring_headers : (k : SymbolKind) (lines : List Line) → declaring k (headers lines) ≡ declaring k lines
unfolding split_sections
declaring_headers k [] = refl
declaring_headers k (l ∷ lines) =
    declaring_step k l (split_sections lines) (is_statement l.1) refl ∙ ap (λ (others : List Line). cond (declares k l.1) (l ∷ others) others) (declaring_headers k lines)

function_step : (section : Section) (sections : List Section) (others : List Line) (t : Bool) → outlines_of sections ≡ others → outlines_of (cond t (section ∷ sections) sections) ≡ cond t (section.header ∷ others) others
function_step section sections others true e = ap (λ (ls : List Line). section.header ∷ ls) e
function_step section sections others false e = e

headers_kept : (sections : List Section) → outlines_of (filter is_function sections) ≡ declaring kind.Function (outlines_of sections)
headers_kept [] = refl
headers_kept (section ∷ sections) = function_step section (filter is_function sections) (declaring kind.Function (outlines_of sections)) (is_function section) (headers_kept sections)

-- the headers of the functions are the lines that declare a function
pub function_headers : (lines : List Line) → outlines_of (functions_in lines) ≡ declaring kind.Function lines
function_headers lines = headers_kept (sections_of lines) ∙ declaring_headers kind.Function lines
