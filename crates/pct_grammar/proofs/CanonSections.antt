-- The sections of a text of declarations, where the statements of a function follow its `fn` line.
use Rattle.pct_names.proofs.Names.{◌+◌, ◌++◌, [], AllZip, and_from, and_parts, ap, Bool, cond, Contents, declares, declares_by, declaring}
use Rattle.pct_names.proofs.Names.{encode, encoded, EncodedStmt, enumerate_from, false, filter, filter-append, Func, is_declaration}
use Rattle.pct_names.proofs.Names.{is_empty, is_function, is_same, is_statement, Line, List, list_all, map, map-append, not, Option}
use Rattle.pct_names.proofs.Names.{ParsedLine, prepend_line, refl, role_in, Section, Sections, Some, SpellsBody, split_sections, subst, sym}
use Rattle.pct_names.proofs.Names.{SymbolKind, syntax_of, Token, true, ◌||◌, ℕ, ◌∙◌, ◌∷◌, ◌≡◌}
use Rattle.pct_model.specs.declared.line_kind.SymbolKind.TheVariants as kind
use Rattle.pct_grammar.proofs.CanonLineParsing.{declared_line}
use Rattle.pct_grammar.proofs.SharedWords.{role_of_kind}
use Rattle.pct_grammar.proofs.SectionSplits.{no_kind}

-- ---- lines without their numbers

-- the tokens of the lines that declare something of a kind
abbrev pub words_declared : SymbolKind → List ParsedLine → List (List Token)
words_declared k lines = map (λ line. line.tokens) (filter (declares k) lines)

numbered_step : (k : SymbolKind) (n : ℕ) (line : ParsedLine) (lines : List Line) (others : List ParsedLine) (t : Bool) → map (λ (l : Line). l.1.tokens) (declaring k lines) ≡ words_declared k others
    → map (λ (l : Line). l.1.tokens) (cond t ((n, line) ∷ declaring k lines) (declaring k lines)) ≡ map (λ (s : ParsedLine). s.tokens) (cond t (line ∷ filter (declares k) others) (filter (declares k) others))
numbered_step k n line lines others true e = ap (λ ws. line.tokens ∷ ws) e
numbered_step k n line lines others false e = e

-- what lines declare does not depend on their numbers
pub declared_numbered : (k : SymbolKind) (n : ℕ) (lines : List ParsedLine) → map (λ l. l.1.tokens) (declaring k (enumerate_from n lines)) ≡ words_declared k lines
declared_numbered k n [] = refl
declared_numbered k n (line ∷ lines) = numbered_step k n line (enumerate_from (n + 1) lines) lines (declares k line) (declared_numbered k (n + 1) lines)

pub both_declare : (k : SymbolKind) (one other : List ParsedLine) → words_declared k (one ++ other) ≡ words_declared k one ++ words_declared k other
both_declare k one other =
    ap (map (λ (s : ParsedLine). s.tokens)) (filter-append (declares k) one other) ∙ map-append (λ (s : ParsedLine). s.tokens) (filter (declares k) one) (filter (declares k) other)

-- statements declare nothing
pub statements_declare : (k : SymbolKind) (body : List ParsedLine) → list_all is_statement body ≡ true → words_declared k body ≡ []
statements_declare k [] all = refl
statements_declare k (line ∷ body) all =
    let sections = and_parts (is_statement line) (list_all is_statement body) all in
    let others = filter (declares k) body in
    ap (λ t. map (λ (s : ParsedLine). s.tokens) (cond t (line ∷ others) others)) (no_kind k (role_in line) sections.0) ∙ statements_declare k body sections.1

kind_declares : (k other : SymbolKind) (words : List Token) → declares k (declared_line other words) ≡ is_same k other
unfolding syntax_of
kind_declares k other words = ap (declares_by k) (role_of_kind other)

first_step : (line : ParsedLine) (others : List ParsedLine) (all : List (List Token)) (t : Bool) → map (λ (s : ParsedLine). s.tokens) others ≡ cond t all []
    → map (λ (s : ParsedLine). s.tokens) (cond t (line ∷ others) others) ≡ cond t (line.tokens ∷ all) []
first_step line others all true e = ap (λ ws. line.tokens ∷ ws) e
first_step line others all false e = e

-- a declaration before others of its kind
pub declares_first : (k other : SymbolKind) (words : List Token) (all : List (List Token)) (rest : List ParsedLine) → words_declared k rest ≡ cond (is_same k other) all []
    → words_declared k (declared_line other words ∷ rest) ≡ cond (is_same k other) (words ∷ all) []
declares_first k other words all rest e =
    let others = filter (declares k) rest in
    ap (λ t. map (λ (s : ParsedLine). s.tokens) (cond t (declared_line other words ∷ others) others)) (kind_declares k other words) ∙ first_step (declared_line other words) others all (is_same k other) e

-- nothing of any kind
pub none_of : (t : Bool) → [] ≡ cond {A = List (List Token)} t [] []
none_of true = refl
none_of false = refl

-- declarations of one kind
pub kinds_declare : (k other : SymbolKind) (all : List (List Token)) → words_declared k (map (declared_line other) all) ≡ cond (is_same k other) all []
kinds_declare k other [] = none_of (is_same k other)
kinds_declare k other (words ∷ all) = declares_first k other words all (map (declared_line other) all) (kinds_declare k other all)

-- ---- sections

-- the lines are the statements of this body, and then sections with these functions
pub record StatementsThen (c : Contents) (p : Sections) (body : List ParsedLine) (funcs : List Func) : Type 0 where
  pub prefix : map (λ l. l.1) p.preamble ≡ body
  pub bodies : AllZip (SpellsBody c) (filter is_function p.sections) funcs
  pub within : list_all (λ section. is_function section || is_empty section.body) p.sections ≡ true

-- no lines are no functions
pub nothing_after : (c : Contents) (n : ℕ) → StatementsThen c (split_sections (enumerate_from n [])) [] []
unfolding split_sections
nothing_after c n = record { prefix = refl; bodies = tt; within = refl }

put_statement : (l : Line) (p : Sections) → is_statement l.1 ≡ true → prepend_line l p ≡ record { preamble = l ∷ p.preamble; sections = p.sections }
put_statement l p e = ap (λ (t : Bool). cond {A = Sections} t (record { preamble = l ∷ p.preamble; sections = p.sections }) (record { preamble = []; sections = record { header = l; body = p.preamble } ∷ p.sections })) e

put_declaration : (l : Line) (p : Sections) → is_statement l.1 ≡ false → prepend_line l p ≡ record { preamble = []; sections = record { header = l; body = p.preamble } ∷ p.sections }
put_declaration l p e = ap (λ (t : Bool). cond {A = Sections} t (record { preamble = l ∷ p.preamble; sections = p.sections }) (record { preamble = []; sections = record { header = l; body = p.preamble } ∷ p.sections })) e

-- statements before other lines
pub statements_after : (c : Contents) (funcs : List Func) (body rest : List ParsedLine) (n : ℕ) → list_all is_statement body ≡ true → ((m : ℕ) → StatementsThen c (split_sections (enumerate_from m rest)) [] funcs)
    → StatementsThen c (split_sections (enumerate_from n (body ++ rest))) body funcs
unfolding split_sections
statements_after c funcs [] rest n all after = after n
statements_after c funcs (line ∷ body) rest n all after =
    let sections = and_parts (is_statement line) (list_all is_statement body) all in
    let p = split_sections (enumerate_from (n + 1) (body ++ rest)) in
    let more = statements_after c funcs body rest (n + 1) sections.1 after in
    subst (λ (q : Sections). StatementsThen c q (line ∷ body) funcs) (sym (put_statement (n, line) p sections.0))
    (record { prefix = ap (λ (ls : List ParsedLine). line ∷ ls) more.prefix; bodies = more.bodies; within = more.within })

kind_is_no_statement : (k : SymbolKind) (words : List Token) → is_statement (declared_line k words) ≡ false
unfolding syntax_of
kind_is_no_statement k words = ap (λ r. not (is_declaration r)) (role_of_kind k)

-- no lines, without their numbers
pub nothing_before : (lines : List Line) → map (λ l. l.1) lines ≡ [] → is_empty lines ≡ true
nothing_before [] e = refl
nothing_before (l ∷ lines) e = absurd cc

-- a declaration that is not of a function, before other lines
declaration_after : (c : Contents) (funcs : List Func) (k : SymbolKind) (words : List Token) (n : ℕ) (p : Sections) → is_same kind.Function k ≡ false → StatementsThen c p [] funcs
    → StatementsThen c (prepend_line (n, declared_line k words) p) [] funcs
declaration_after c funcs k words n p other after =
    let l : Line = (n, declared_line k words) in
    let section : Section = record { header = l; body = p.preamble } in
    let is = kind_declares kind.Function k words ∙ other in
    subst (λ (q : Sections). StatementsThen c q [] funcs) (sym (put_declaration l p (kind_is_no_statement k words)))
    (record {
      prefix = refl;
      bodies = subst (λ (t : Bool). AllZip (SpellsBody c) (cond t (section ∷ filter is_function p.sections) (filter is_function p.sections)) funcs) (sym is) after.bodies;
      within = and_from (is_function section || is_empty p.preamble) (list_all (λ (q : Section). is_function q || is_empty q.body) p.sections)
          (ap (λ t. t || is_empty p.preamble) is ∙ nothing_before p.preamble after.prefix) after.within;
    })

-- declarations of a kind other than functions, before other lines
pub kinds_after : (c : Contents) (funcs : List Func) (k : SymbolKind) (all : List (List Token)) (rest : List ParsedLine) (n : ℕ) → is_same kind.Function k ≡ false → ((m : ℕ) → StatementsThen c (split_sections (enumerate_from m rest)) [] funcs)
    → StatementsThen c (split_sections (enumerate_from n (map (declared_line k) all ++ rest))) [] funcs
unfolding split_sections
kinds_after c funcs k [] rest n other after = after n
kinds_after c funcs k (words ∷ all) rest n other after =
    declaration_after c funcs k words n (split_sections (enumerate_from (n + 1) (map (declared_line k) all ++ rest))) other (kinds_after c funcs k all rest (n + 1) other after)

resolves_all : (c : Contents) (f : Func) (lines : List Line) (body : List ParsedLine) → map (λ l. l.1) lines ≡ body → map (λ l. encoded c f.locals l.1) lines ≡ map (encoded c f.locals) body
resolves_all c f [] body e = ap (map (encoded c f.locals)) e
resolves_all c f (l ∷ lines) [] e = absurd cc
resolves_all c f (l ∷ lines) (line ∷ body) e =
    let first : l.1 ≡ line = cc in
    let others : map (λ (x : Line). x.1) lines ≡ body = cc in
    ap (λ (s : ParsedLine). encoded c f.locals s ∷ map (λ (x : Line). encoded c f.locals x.1) lines) first ∙ ap (λ (ts : List (Option EncodedStmt)). encoded c f.locals line ∷ ts) (resolves_all c f lines body others)

-- a function before other lines
pub function_after : (c : Contents) (f : Func) (funcs : List Func) (words : List Token) (body rest : List ParsedLine) (n : ℕ) → list_all is_statement body ≡ true
    → map (encoded c f.locals) body ≡ map (λ s. Some (encode s)) f.body → ((m : ℕ) → StatementsThen c (split_sections (enumerate_from m rest)) [] funcs)
    → StatementsThen c (split_sections (enumerate_from n (declared_line kind.Function words ∷ body ++ rest))) [] (f ∷ funcs)
unfolding split_sections
function_after c f funcs words body rest n all resolves_to after =
    let l : Line = (n, declared_line kind.Function words) in
    let p = split_sections (enumerate_from (n + 1) (body ++ rest)) in
    let section : Section = record { header = l; body = p.preamble } in
    let more = statements_after c funcs body rest (n + 1) all after in
    let is = kind_declares kind.Function kind.Function words in
    let spells : SpellsBody c section f = resolves_all c f p.preamble body more.prefix ∙ resolves_to in
    subst (λ (q : Sections). StatementsThen c q [] (f ∷ funcs)) (sym (put_declaration l p (kind_is_no_statement kind.Function words)))
    (record {
      prefix = refl;
      bodies = subst (λ (t : Bool). AllZip (SpellsBody c) (cond t (section ∷ filter is_function p.sections) (filter is_function p.sections)) (f ∷ funcs)) (sym is) (spells, more.bodies);
      within = and_from (is_function section || is_empty p.preamble) (list_all (λ (q : Section). is_function q || is_empty q.body) p.sections) (ap (λ t. t || is_empty p.preamble) is) more.within;
    })
