-- In a text that spells a script, the lines of a function are those that spell its statements.
use Rattle.pct_names.proofs.Names.{[], All, All-cons, All-contains_itself, All-filter, All-get_or, All-head, All-nil, All-tail, AllZip, ap}
use Rattle.pct_names.proofs.Names.{Bool, cond, Contains, Contents, contents_of, encode, encoded, EncodedStmt, false, Frame, Func}
use Rattle.pct_names.proofs.Names.{functions_in, get_or_from_slice_get, is_function, is_some, is_statement, IsSomeAnd, Line, List, None}
use Rattle.pct_names.proofs.Names.{Option, option_and_then, option_map, parsed_lines, refl, Script, Section, Sections, sections_of}
use Rattle.pct_names.proofs.Names.{slice_get, slice_get-map, slice_get_within, Some, Spells, SpellsBody, split_sections, statement_at, Stmt}
use Rattle.pct_names.proofs.Names.{subst, suc, sym, true, zero, ℕ, ◌∙◌, ◌∷◌, ◌≡◌}
use Rattle.pct_grammar.proofs.OptionFacts.{mapped_some}
use Rattle.pct_script_lines.specs.StatementLines.{SpellsStatement, function_lines, line_at, numbers_in, statement_lines}

-- ---- the lines of a section are among all lines

-- what is true of all items is true of the item at an index
item_at : {A : Type 0} (P : A → Type 0) (items : List A) (i : ℕ) (item : A) → All P items → slice_get items i ≡ Some item → P item
item_at P items i item all found = subst P (get_or_from_slice_get items i item item found) (All-get_or P items i item (slice_get_within items i item found) all)

module _ (P : Line → Type 0) where
  -- what is true of all lines of a section
  abbrev InBody : Section → Type 0
  InBody section = All P section.body

  -- what is true of all lines of sections
  abbrev InSections : Sections → Type 0
  InSections p = All P p.preamble × All InBody p.sections

  -- one more line before the sections
  with_line : (t : Bool) (l : Line) (p : Sections) → P l → InSections p
      → InSections (cond t (record { preamble = l ∷ p.preamble; sections = p.sections }) (record { preamble = []; sections = record { header = l; body = p.preamble } ∷ p.sections }))
  with_line true l p here others = (All-cons P l p.preamble here others.0, others.1)
  with_line false l p here others = (All-nil P, All-cons InBody (record { header = l; body = p.preamble }) p.sections others.0 others.1)

  -- what is true of all lines is true of all lines of their sections
  in_sections : (lines : List Line) → All P lines → InSections (split_sections lines)
  unfolding split_sections
  in_sections [] all = (All-nil P, All-nil InBody)
  in_sections (l ∷ lines) all = with_line (is_statement l.1) l (split_sections lines) (All-head P l lines all) (in_sections lines (All-tail P l lines all))

-- a line of a function is among the lines
among_lines : (lines : List Line) (func pc : ℕ) (section : Section) (l : Line) → slice_get (functions_in lines) func ≡ Some section → slice_get section.body pc ≡ Some l → Contains lines l
among_lines lines func pc section l found here =
    let each : All (InBody (Contains lines)) (functions_in lines) =
    All-filter is_function (InBody (Contains lines)) (sections_of lines) (in_sections (Contains lines) lines (All-contains_itself lines)).1 in
    item_at (Contains lines) section.body pc l (item_at (InBody (Contains lines)) (functions_in lines) func section each found) here

-- ---- the line of a statement

-- two lists have items at the same indexes, and they are related
abbrev BothAt : {A B : Type 0} → (A → B → Type 0) → Option A → Option B → Type 0
BothAt R None None = Unit {0}
BothAt R None (Some y) = ⊥
BothAt R (Some x) None = ⊥
BothAt R (Some x) (Some y) = R x y

-- related lists are related at each index
zipped_at : {A B : Type 0} (R : A → B → Type 0) (xs : List A) (ys : List B) (i : ℕ) → AllZip R xs ys → BothAt R (slice_get xs i) (slice_get ys i)
zipped_at R [] [] i all = tt
zipped_at R (x ∷ xs) (y ∷ ys) zero all = all.0
zipped_at R (x ∷ xs) (y ∷ ys) (suc i) all = zipped_at R xs ys i all.1
zipped_at R _ _ i all = absurd all

-- the number at a program counter, in the function with these lines
abbrev number_in : Option Section → ℕ → Option ℕ
number_in section pc = option_and_then (λ numbers. slice_get numbers pc) (option_map (λ (s : Section). numbers_in s.body) section)

-- the number is looked up in the section of the function
line_in_section : (lines : List Line) (func pc : ℕ) → line_at (function_lines lines) func pc ≡ number_in (slice_get (functions_in lines) func) pc
line_in_section lines func pc = ap (option_and_then (λ numbers. slice_get numbers pc)) (slice_get-map (λ (s : Section). numbers_in s.body) (functions_in lines) func)

-- the encodings at a program counter are equal
same_encodings : (c : Contents) (section : Section) (f : Func) (pc : ℕ) → SpellsBody c section f
    → option_map (λ (l : Line). encoded c f.locals l.1) (slice_get section.body pc) ≡ option_map (λ (s : Stmt). Some (encode s)) (slice_get f.body pc)
same_encodings c section f pc spells =
    sym (slice_get-map (λ (l : Line). encoded c f.locals l.1) section.body pc) ∙ ap (λ (all : List (Option EncodedStmt)). slice_get all pc) spells
    ∙ slice_get-map (λ (s : Stmt). Some (encode s)) f.body pc

-- the line of a statement in a section whose body spells the function
in_body : (text : List ℕ) (script : Script) (section : Section) (f : Func) (s : Stmt) (func pc : ℕ) (line : Option Line) → slice_get (functions_in (parsed_lines text)) func ≡ Some section
    → slice_get section.body pc ≡ line → option_map (λ (l : Line). encoded (contents_of script) f.locals l.1) line ≡ Some (Some (encode s))
    → IsSomeAnd (option_map (λ (l : Line). l.0) line) (SpellsStatement text script f.locals s)
in_body text script section f s func pc None found at spells = absurd cc
in_body text script section f s func pc (Some l) found at spells =
    record { line = l; among = among_lines (parsed_lines text) func pc section l found at; numbered = refl; spelled = cc }

-- the line of a statement in the section of its function, if there is one
in_section : (text : List ℕ) (script : Script) (func pc : ℕ) (f : Func) (s : Stmt) (section : Option Section) → slice_get (functions_in (parsed_lines text)) func ≡ section
    → BothAt (SpellsBody (contents_of script)) section (Some f) → slice_get f.body pc ≡ Some s → IsSomeAnd (number_in section pc) (SpellsStatement text script f.locals s)
in_section text script func pc f s None found both at = absurd both
in_section text script func pc f s (Some section) found both at =
    let spells = same_encodings (contents_of script) section f pc both ∙ ap (option_map (λ (s : Stmt). Some (encode s))) at in
    subst (λ o. IsSomeAnd o (SpellsStatement text script f.locals s)) (sym (slice_get-map (λ (l : Line). l.0) section.body pc))
    (in_body text script section f s func pc (slice_get section.body pc) found refl spells)

-- each statement has a line, which spells it
pub lines_spell : (text : List ℕ) (script : Script) → Spells text script → (func pc : ℕ) (f : Func) (s : Stmt) → slice_get script.funcs func ≡ Some f → slice_get f.body pc ≡ Some s
    → IsSomeAnd (line_at (statement_lines text) func pc) (SpellsStatement text script f.locals s)
unfolding statement_lines
lines_spell text script spells func pc f s found at =
    let lines = parsed_lines text in
    let both = subst (BothAt (SpellsBody (contents_of script)) (slice_get (functions_in lines) func)) found
    (zipped_at (SpellsBody (contents_of script)) (functions_in lines) script.funcs func spells.are_contents.bodies) in
    subst (λ o. IsSomeAnd o (SpellsStatement text script f.locals s)) (sym (line_in_section lines func pc))
    (in_section text script func pc f s (slice_get (functions_in lines) func) refl both at)

-- ---- lines and statements are at the same places

-- in a section that spells a function there is a line exactly where the function has a statement
same_places : (c : Contents) (pc : ℕ) (section : Option Section) (f : Option Func) → BothAt (SpellsBody c) section f
    → is_some (number_in section pc) ≡ is_some (option_and_then (λ (g : Func). slice_get g.body pc) f)
same_places c pc None None both = refl
same_places c pc (Some section) (Some f) both =
    ap is_some (slice_get-map (λ (l : Line). l.0) section.body pc) ∙ mapped_some (λ (l : Line). l.0) (slice_get section.body pc)
    ∙ sym (mapped_some (λ (l : Line). encoded c f.locals l.1) (slice_get section.body pc)) ∙ ap is_some (same_encodings c section f pc both)
    ∙ mapped_some (λ (s : Stmt). Some (encode s)) (slice_get f.body pc)
same_places c pc _ _ both = absurd both

-- there is a line exactly where there is a statement
pub lines_of_statements : (text : List ℕ) (script : Script) → Spells text script → (frame : Frame) → is_some (line_at (statement_lines text) frame.func frame.pc) ≡ is_some (statement_at script frame)
unfolding statement_lines statement_at
lines_of_statements text script spells frame =
    let lines = parsed_lines text in
    ap is_some (line_in_section lines frame.func frame.pc)
    ∙ same_places (contents_of script) frame.pc (slice_get (functions_in lines) frame.func) (slice_get script.funcs frame.func)
    (zipped_at (SpellsBody (contents_of script)) (functions_in lines) script.funcs frame.func spells.are_contents.bodies)
