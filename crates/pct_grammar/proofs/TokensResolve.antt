-- Resolving tokens and printing arguments are inverse: the arguments of resolved tokens have words, and the words of arguments
-- resolve to them.
use Rattle.pct_names.proofs.Names.{◌&&◌, ◌-◌, ◌<◌, [], and_from, and_parts, ap, Argument, argument_text, argument_texts, ArgumentKind}
use Rattle.pct_names.proofs.Names.{arith, Bool, bytes_eq, codes, cond, cond_some, Contents, decimal, decimal_is_IsNumeral, decimal_nonempty}
use Rattle.pct_names.proofs.Names.{digits_value, false, false_from_ne_true, get_or, has_word, have_words, index_among, is_declaration}
use Rattle.pct_names.proofs.Names.{is_digit, is_empty, is_found, is_item, is_name, is_name_byte, is_nothing, is_numeral, is_seen, is_some}
use Rattle.pct_names.proofs.Names.{is_variable, item, length, length-decimal-le, LineKind, List, list_all, list_all_at, min, name, name_at}
use Rattle.pct_names.proofs.Names.{names_of_kind, nat_eq, nat_le, nat_tests, None, not, not-true, numeral, Option, option_map}
use Rattle.pct_names.proofs.Names.{option_map_or, option_or, or_right, position-Some, refl, replicate, resolve, resolve_all, resolve_name}
use Rattle.pct_names.proofs.Names.{same_Some, Some, suc, sym, symbol_kind_at, SymbolKind, syntax_of, Token, token_at, tokens_at, true}
use Rattle.pct_names.proofs.Names.{true_from_ne_false, unwrap_or-slice_get, variable, zero, ◌||◌, ℕ, ◌∙◌, ◌∷◌, ◌≡◌, ◌≤◌}
use Rattle.std.proofs.Common.{le-leb, leb-true, true≢false}
use Rattle.pct_model.specs.declared.line_kind.LineKind.TheVariants as line_kind
use Rattle.pct_model.specs.declared.line_kind.SymbolKind.TheVariants as kind
use Rattle.pct_model.specs.declared.line_kind.ArgumentKind.TheVariants as argument_kind
use Rattle.pct_model.specs.declared.parsed_line.Argument.TheVariants as argument
use Rattle.pct_model.specs.declared.parsed_line.Token.TheVariants as token
use Rattle.pct_model.specs.Static.{is_value}
use Rattle.pct_model.proofs.Bytes.{same_bytes}
use Rattle.pct_text.proofs.Numbers.{digits_of_decimal}
use Rattle.pct_grammar.proofs.SharedWords.{NameLists, is_printable, is_word, role_of_kind}
use Rattle.pct_grammar.proofs.OptionFacts.{both_from, both_some}
use Rattle.pct_grammar.proofs.EncodeDecode.{number_there, same_number}

-- ---- names and their indices

-- the name at the index where a name is found
name_there : (names : List (List ℕ)) (w : List ℕ) (i : ℕ) → index_among names w ≡ Some i → name_at names i ≡ w
unfolding name_at
name_there names w i at =
    let first = position-Some (λ name. bytes_eq name w) names i [] at in
    unwrap_or-slice_get names i [] ∙ same_bytes (get_or names i []) w first.1

-- that name is found there again
found_again : (names : List (List ℕ)) (w : List ℕ) (i : ℕ) → index_among names w ≡ Some i → is_found names i ≡ true
found_again names w i at =
    ap (λ (v : List ℕ). option_map_or (nat_eq i) (index_among names v) false) (name_there names w i at) ∙ ap (λ (o : Option ℕ). option_map_or (nat_eq i) o false) at ∙ same_number i

index_of_name : (names : List (List ℕ)) (i : ℕ) → is_found names i ≡ true → index_among names (name_at names i) ≡ Some i
index_of_name names i h = number_there i (index_among names (name_at names i)) h

-- a name that is found is one of the names
found_name : (names : List (List ℕ)) (i : ℕ) → list_all is_name names ≡ true → is_found names i ≡ true → is_name (name_at names i) ≡ true
unfolding name_at
found_name names i all h =
    let first = position-Some (λ name. bytes_eq name (name_at names i)) names i [] (index_of_name names i h) in
    ap is_name (unwrap_or-slice_get names i []) ∙ true_from_ne_false (is_name (get_or names i [])) (λ e. true≢false (sym all ∙ list_all_at is_name names i [] first.0 e))

-- ---- resolved arguments have words

variable_by : (c : Contents) (locals : List (List ℕ)) (w : List ℕ) (a : Argument) (o p : Option ℕ) → index_among locals w ≡ o → index_among c.globals w ≡ p
    → option_or (option_map (λ (i : ℕ). argument.Local i) o) (option_map (λ (i : ℕ). argument.Global i) p) ≡ Some a → is_variable c locals a ≡ true
variable_by c locals w a (Some i) p at there is = ap (is_variable c locals) (sym (same_Some _ _ is)) ∙ found_again locals w i at
variable_by c locals w a None (Some i) at there is =
    let seen : is_seen c locals i ≡ true = and_from _ _ (found_again c.globals w i there) (ap (λ (v : List ℕ). not (is_some (index_among locals v))) (name_there c.globals w i there) ∙ ap (λ (o : Option ℕ). not (is_some o)) at) in
    ap (is_variable c locals) (sym (same_Some _ _ is)) ∙ seen
variable_by c locals w a None None at there is = absurd cc

variable_reads : (c : Contents) (locals : List (List ℕ)) (w : List ℕ) (a : Argument) → variable (names_of_kind c) locals w ≡ Some a → is_variable c locals a ≡ true
variable_reads c locals w a is = variable_by c locals w a (index_among locals w) (index_among c.globals w) refl refl is

item_by : (c : Contents) (locals : List (List ℕ)) (k : SymbolKind) (w : List ℕ) (a : Argument) (o : Option ℕ) → index_among (names_of_kind c k) w ≡ o → option_map (λ (i : ℕ). argument.Item i) o ≡ Some a → is_item c locals k a ≡ true
item_by c locals k w a None at is = absurd cc
item_by c locals k w a (Some i) at is = ap (is_item c locals k) (sym (same_Some _ _ is)) ∙ found_again (names_of_kind c k) w i at

item_reads : (c : Contents) (locals : List (List ℕ)) (k : SymbolKind) (w : List ℕ) (a : Argument) → item (names_of_kind c) locals k w ≡ Some a → is_item c locals k a ≡ true
item_reads c locals k w a is = item_by c locals k w a (index_among (names_of_kind c k) w) refl is

value_from : (c : Contents) (locals : List (List ℕ)) (a : Argument) → is_variable c locals a ≡ true → is_value c locals a ≡ true
value_from c locals (argument.Local i) h = h
value_from c locals (argument.Global i) h = h
value_from c locals _ h = absurd cc

-- a token that is a name resolves to the name's argument
named_word : (names : SymbolKind → List (List ℕ)) (locals : List (List ℕ)) (p : ArgumentKind) (w : List ℕ) (parsed : Token) (a : Argument) → name w ≡ Some parsed → resolve names locals p parsed ≡ Some a → resolve_name names locals p w ≡ Some a
unfolding resolve
named_word names locals p w parsed a is e = ap (resolve names locals p) (cond_some (is_name w) (token.Name w) parsed is).1 ∙ e

-- `-`, or the argument of a name
optional_word : (c : Contents) (locals : List (List ℕ)) (p : ArgumentKind) (w : List ℕ) (parsed : Token) (a : Argument) (t s : Bool) → option_or (cond t (Some token.Nothing) None) (name w) ≡ Some parsed
    → resolve (names_of_kind c) locals p parsed ≡ Some a → (resolve_name (names_of_kind c) locals p w ≡ Some a → s ≡ true) → (is_nothing c locals a || s) ≡ true
unfolding resolve
optional_word c locals p w parsed a true s is e more =
    ap (λ (x : Argument). is_nothing c locals x || s) (sym (same_Some _ _ (ap (resolve (names_of_kind c) locals p) (same_Some _ _ is) ∙ e)))
optional_word c locals p w parsed a false s is e more = or_right (is_nothing c locals a) s (more (named_word (names_of_kind c) locals p w parsed a is e))

number_fits : (w : List ℕ) (n : ℕ) → numeral w ≡ Some n → nat_le n 4294967295 ≡ true
unfolding numeral
number_fits w n is =
    let found = cond_some (is_numeral w) (digits_value 10 w) n is in
    let small = and_parts (not (is_empty w) && list_all is_digit w && nat_le (length w) 10) (nat_le (digits_value 10 w) 4294967295) found.0 in
    ap (λ (k : ℕ). nat_le k 4294967295) (sym found.1) ∙ small.1

operand_word : (c : Contents) (locals : List (List ℕ)) (w : List ℕ) (parsed : Token) (a : Argument) (o : Option ℕ) → numeral w ≡ o → option_or (option_map (λ (n : ℕ). token.Number n) o) (name w) ≡ Some parsed
    → resolve (names_of_kind c) locals argument_kind.Operand parsed ≡ Some a → is_value c locals a ≡ true
unfolding resolve resolve_name
operand_word c locals w parsed a (Some n) at is e =
    ap (is_value c locals) (sym (same_Some _ _ (ap (resolve (names_of_kind c) locals argument_kind.Operand) (same_Some _ _ is) ∙ e))) ∙ number_fits w n at
operand_word c locals w parsed a None at is e = value_from c locals a (variable_reads c locals w a (named_word (names_of_kind c) locals argument_kind.Operand w parsed a is e))

-- one of two fixed words
flag_parsed : (parsed : Token) (s t x y : Bool) → option_or (cond s (Some (token.Flag x)) None) (cond t (Some (token.Flag y)) None) ≡ Some parsed → (is_set : Bool) × (token.Flag is_set ≡ parsed)
flag_parsed parsed true t x y is = (x, same_Some _ _ is)
flag_parsed parsed false true x y is = (y, same_Some _ _ is)
flag_parsed parsed false false x y is = absurd cc

flag_resolves : (names : SymbolKind → List (List ℕ)) (locals : List (List ℕ)) (p : ArgumentKind) (parsed : Token) (a : Argument) (is_set : Bool) → token.Flag is_set ≡ parsed → resolve names locals p parsed ≡ Some a → argument.Flag is_set ≡ a
unfolding resolve
flag_resolves names locals p parsed a is_set is e = same_Some _ _ (ap (resolve names locals p) is ∙ e)

none_named : (names : SymbolKind → List (List ℕ)) (locals : List (List ℕ)) (p : ArgumentKind) (w : List ℕ) (parsed : Token) (a : Argument) → name w ≡ Some parsed → resolve names locals p parsed ≡ Some a → resolve_name names locals p w ≡ None → false ≡ true
none_named names locals p w parsed a is e none = absurd (cc (named_word names locals p w parsed a is e))

-- the argument kinds of statements: all except that of a count
abbrev pub is_no_count : ArgumentKind → Bool
is_no_count argument_kind.Count = false
is_no_count _ = true

-- the argument of a resolved token has a word, except for a count
pub word_reads : (c : Contents) (locals : List (List ℕ)) (p : ArgumentKind) (w : List ℕ) (parsed : Token) (a : Argument) → is_no_count p ≡ true → token_at p w ≡ Some parsed → resolve (names_of_kind c) locals p parsed ≡ Some a
    → has_word c locals p a ≡ true
unfolding token_at resolve_name has_word
word_reads c locals argument_kind.Declared w parsed a other is e = none_named (names_of_kind c) locals argument_kind.Declared w parsed a is e refl
word_reads c locals argument_kind.Local w parsed a other is e = none_named (names_of_kind c) locals argument_kind.Local w parsed a is e refl
word_reads c locals argument_kind.Count w parsed a other is e = absurd cc
word_reads c locals argument_kind.Operand w parsed a other is e = operand_word c locals w parsed a (numeral w) refl is e
word_reads c locals argument_kind.Variable w parsed a other is e = variable_reads c locals w a (named_word (names_of_kind c) locals argument_kind.Variable w parsed a is e)
word_reads c locals argument_kind.Dest w parsed a other is e = optional_word c locals argument_kind.Dest w parsed a (bytes_eq w (codes "-")) (is_variable c locals a) is e (λ found. variable_reads c locals w a found)
word_reads c locals (argument_kind.Item k) w parsed a other is e = item_reads c locals k w a (named_word (names_of_kind c) locals (argument_kind.Item k) w parsed a is e)
word_reads c locals argument_kind.OptionalFunction w parsed a other is e = optional_word c locals argument_kind.OptionalFunction w parsed a (bytes_eq w (codes "-")) (is_item c locals kind.Function a) is e (λ found. item_reads c locals kind.Function w a found)
word_reads c locals argument_kind.PlainFunction w parsed a other is e = item_reads c locals kind.Function w a (named_word (names_of_kind c) locals argument_kind.PlainFunction w parsed a is e)
word_reads c locals argument_kind.OptionalPlainFunction w parsed a other is e = optional_word c locals argument_kind.OptionalPlainFunction w parsed a (bytes_eq w (codes "-")) (is_item c locals kind.Function a) is e (λ found. item_reads c locals kind.Function w a found)
word_reads c locals argument_kind.State w parsed a other is e =
    let flag = flag_parsed parsed (bytes_eq w (codes "enable")) (bytes_eq w (codes "disable")) true false is in
    ap (has_word c locals argument_kind.State) (sym (flag_resolves (names_of_kind c) locals argument_kind.State parsed a flag.0 flag.1 e))
word_reads c locals argument_kind.Mode w parsed a other is e =
    let flag = flag_parsed parsed (bytes_eq w (codes "asynchronous")) (bytes_eq w (codes "deferred")) true false is in
    ap (has_word c locals argument_kind.Mode) (sym (flag_resolves (names_of_kind c) locals argument_kind.Mode parsed a flag.0 flag.1 e))
word_reads c locals argument_kind.Detached w parsed a other is e =
    ap (has_word c locals argument_kind.Detached) (sym (flag_resolves (names_of_kind c) locals argument_kind.Detached parsed a true (cond_some (bytes_eq w (codes "detached")) (token.Flag true) parsed is).1 e))

-- ---- several tokens

-- the arguments of resolved tokens have words, except for counts
pub words_read : (c : Contents) (locals : List (List ℕ)) (argument_kinds : List ArgumentKind) (ws : List (List ℕ)) (words : List Token) (args : List Argument) → list_all is_no_count argument_kinds ≡ true
    → tokens_at argument_kinds ws ≡ Some words → resolve_all (names_of_kind c) locals argument_kinds words ≡ Some args → have_words c locals argument_kinds args ≡ true
unfolding tokens_at resolve_all have_words
words_read c locals [] [] words args all is e =
    ap (have_words c locals []) (sym (same_Some _ _ (ap (resolve_all (names_of_kind c) locals []) (same_Some _ _ is) ∙ e)))
words_read c locals (p ∷ argument_kinds) (w ∷ ws) words args all is e =
    let good = and_parts (is_no_count p) (list_all is_no_count argument_kinds) all in
    let parsed = both_from (token_at p w) (tokens_at argument_kinds ws) words is in
    let stand = both_from (resolve (names_of_kind c) locals p parsed.first) (resolve_all (names_of_kind c) locals argument_kinds parsed.others) args (ap (resolve_all (names_of_kind c) locals (p ∷ argument_kinds)) (sym parsed.whole) ∙ e) in
    ap (have_words c locals (p ∷ argument_kinds)) stand.whole
    ∙ and_from (has_word c locals p stand.first) (have_words c locals argument_kinds stand.others)
    (word_reads c locals p w parsed.first stand.first good.0 parsed.one stand.one)
    (words_read c locals argument_kinds ws parsed.others stand.others good.1 parsed.rest stand.rest)
words_read c locals _ _ words args all is e = absurd cc

no_counts : (n : ℕ) (p : ArgumentKind) → is_no_count p ≡ true → list_all is_no_count (replicate n p) ≡ true
no_counts zero p h = refl
no_counts (suc n) p h = and_from (is_no_count p) (list_all is_no_count (replicate n p)) h (no_counts n p h)

-- no argument of a statement is a count
pub statement_kinds : (f : LineKind) (n : ℕ) → is_declaration (syntax_of f).role ≡ false → list_all is_no_count ((syntax_of f).argument_kinds n) ≡ true
unfolding syntax_of
statement_kinds (line_kind.Declares k) n other = absurd (true≢false (sym (ap is_declaration (role_of_kind k)) ∙ other))
statement_kinds line_kind.Create n other = no_counts (min 1 (n - 4)) argument_kind.Detached refl
statement_kinds _ n other = refl

-- there are as many tokens as argument kinds
pub words_at_lengths : (argument_kinds : List ArgumentKind) (ws : List (List ℕ)) (words : List Token) → tokens_at argument_kinds ws ≡ Some words → (length ws ≡ length argument_kinds) × (length words ≡ length argument_kinds)
unfolding tokens_at
words_at_lengths [] [] words is = (refl, ap length (sym (same_Some _ _ is)))
words_at_lengths (p ∷ argument_kinds) (w ∷ ws) words is =
    let parsed = both_from (token_at p w) (tokens_at argument_kinds ws) words is in
    let more = words_at_lengths argument_kinds ws parsed.others parsed.rest in
    (ap suc more.0, ap length parsed.whole ∙ ap suc more.1)
words_at_lengths _ _ words is = absurd cc

-- each token resolves to one argument
pub replaced_lengths : (names : SymbolKind → List (List ℕ)) (locals : List (List ℕ)) (argument_kinds : List ArgumentKind) (words : List Token) (args : List Argument) → resolve_all names locals argument_kinds words ≡ Some args → length args ≡ length words
unfolding resolve_all
replaced_lengths names locals [] [] args is = ap length (sym (same_Some _ _ is))
replaced_lengths names locals (p ∷ argument_kinds) [] args is = ap length (sym (same_Some _ _ is))
replaced_lengths names locals [] (w ∷ words) args is = absurd cc
replaced_lengths names locals (p ∷ argument_kinds) (w ∷ words) args is =
    let stand = both_from (resolve names locals p w) (resolve_all names locals argument_kinds words) args is in
    ap length stand.whole ∙ ap suc (replaced_lengths names locals argument_kinds words stand.others stand.rest)

-- ---- bytes that are printed

-- a weaker test of all bytes
pub all_more : (p q : ℕ → Bool) → ((b : ℕ) → p b ≡ true → q b ≡ true) → (bs : List ℕ) → list_all p bs ≡ true → list_all q bs ≡ true
all_more p q more [] all = refl
all_more p q more (b ∷ bs) all =
    let sections = and_parts (p b) (list_all p bs) all in
    and_from (q b) (list_all q bs) (more b sections.0) (all_more p q more bs sections.1)

pub digit_is_printed : (b : ℕ) → is_digit b ≡ true → is_printable b ≡ true
digit_is_printed b h =
    let sections = and_parts (nat_le 48 b) (nat_le b 57) h in
    and_from (nat_le 33 b) (nat_le b 126) (le-leb 33 b (omega (arith, leb-true 48 b sections.0))) (le-leb b 126 (omega (arith, leb-true b 57 sections.1)))

name_byte_is_printed : (b : ℕ) → is_name_byte b ≡ true → is_printable b ≡ true
name_byte_is_printed b h = grind (arith, nat_tests)

-- a name is a word
pub name_is_word : (w : List ℕ) → is_name w ≡ true → is_word w ≡ true
unfolding is_name
name_is_word [] h = absurd cc
name_is_word (b ∷ bs) h =
    let sections = and_parts (not (is_digit b) && list_all is_name_byte (b ∷ bs)) (nat_le (length (b ∷ bs)) 31) h in
    and_from _ _ (all_more is_name_byte is_printable name_byte_is_printed (b ∷ bs) (and_parts (not (is_digit b)) (list_all is_name_byte (b ∷ bs)) sections.0).1) sections.1

-- a name is no number
name_no_number : (w : List ℕ) → is_name w ≡ true → numeral w ≡ None
unfolding is_name numeral
name_no_number [] h = absurd cc
name_no_number (b ∷ bs) h =
    let sections = and_parts (not (is_digit b) && list_all is_name_byte (b ∷ bs)) (nat_le (length (b ∷ bs)) 31) h in
    let begins : is_digit b ≡ false = not-true (is_digit b) (and_parts (not (is_digit b)) (list_all is_name_byte (b ∷ bs)) sections.0).0 in
    ap (λ (t : Bool). cond (t && list_all is_digit bs && nat_le (length (b ∷ bs)) 10 && nat_le (digits_value 10 (b ∷ bs)) 4294967295) (Some (digits_value 10 (b ∷ bs))) None) begins

hyphen_no_name : is_name (codes "-") ≡ false
unfolding is_name
hyphen_no_name = refl

-- a name is not `-`
name_no_hyphen : (w : List ℕ) → is_name w ≡ true → bytes_eq w (codes "-") ≡ false
name_no_hyphen w h = false_from_ne_true (bytes_eq w (codes "-")) (λ (e : bytes_eq w (codes "-") ≡ true). true≢false (sym h ∙ ap is_name (same_bytes w (codes "-") e) ∙ hyphen_no_name))

filled : (w : List ℕ) → 0 < length w → not (is_empty w) ≡ true
filled [] some = absurd (omega arith)
filled (b ∷ w) some = refl

numeral_from : (w : List ℕ) (n : ℕ) → 0 < length w → list_all is_digit w ≡ true → length w ≤ 10 → digits_value 10 w ≡ n → n ≤ 4294967295 → numeral w ≡ Some n
unfolding numeral
numeral_from w n some digits short value fits =
    let within : digits_value 10 w ≤ 4294967295 = omega (arith, value, fits) in
    let is : is_numeral w ≡ true = and_from _ _ (and_from _ _ (and_from _ _ (filled w some) digits) (le-leb (length w) 10 short)) (le-leb (digits_value 10 w) 4294967295 within) in
    ap (λ (t : Bool). cond t (Some (digits_value 10 w)) None) is ∙ ap (λ (k : ℕ). Some k) value

-- the digits of a number parse to that number
pub decimal_is_numeral : (n : ℕ) → n ≤ 4294967295 → numeral (decimal n) ≡ Some n
decimal_is_numeral n fits =
    numeral_from (decimal n) n (decimal_nonempty n (omega arith)) (digits_of_decimal n) (length-decimal-le 10 n (omega arith) (omega arith) (omega arith)) (decimal_is_IsNumeral n (omega arith)).1 fits

-- the digits of a number are a word
pub decimal_is_word : (n : ℕ) → n ≤ 4294967295 → is_word (decimal n) ≡ true
decimal_is_word n fits =
    let short : length (decimal n) ≤ 10 = length-decimal-le 10 n (omega arith) (omega arith) (omega arith) in
    and_from _ _ (and_from _ _ (filled (decimal n) (decimal_nonempty n (omega arith))) (all_more is_digit is_printable digit_is_printed (decimal n) (digits_of_decimal n)))
    (le-leb (length (decimal n)) 31 (omega (arith, short)))

-- ---- the words of arguments

-- the argument kind takes names
abbrev takes_name : ArgumentKind → Bool
takes_name argument_kind.Count = false
takes_name argument_kind.State = false
takes_name argument_kind.Mode = false
takes_name argument_kind.Detached = false
takes_name _ = true

name_parses : (w : List ℕ) → is_name w ≡ true → name w ≡ Some (token.Name w)
name_parses w h = ap (λ (t : Bool). cond t (Some (token.Name w)) None) h

optional_parses : (w : List ℕ) → is_name w ≡ true → option_or (cond (bytes_eq w (codes "-")) (Some token.Nothing) None) (name w) ≡ Some (token.Name w)
optional_parses w h = ap (λ (t : Bool). option_or (cond t (Some token.Nothing) None) (name w)) (name_no_hyphen w h) ∙ name_parses w h

name_resolves : (p : ArgumentKind) (w : List ℕ) → takes_name p ≡ true → is_name w ≡ true → token_at p w ≡ Some (token.Name w)
unfolding token_at
name_resolves argument_kind.Declared w takes h = name_parses w h
name_resolves argument_kind.Local w takes h = name_parses w h
name_resolves argument_kind.Operand w takes h = ap (λ (o : Option ℕ). option_or (option_map (λ (n : ℕ). token.Number n) o) (name w)) (name_no_number w h) ∙ name_parses w h
name_resolves argument_kind.Variable w takes h = name_parses w h
name_resolves argument_kind.Dest w takes h = optional_parses w h
name_resolves (argument_kind.Item k) w takes h = name_parses w h
name_resolves argument_kind.OptionalFunction w takes h = optional_parses w h
name_resolves argument_kind.PlainFunction w takes h = name_parses w h
name_resolves argument_kind.OptionalPlainFunction w takes h = optional_parses w h
name_resolves _ w takes h = absurd cc

-- a printed word parses and resolves back
abbrev Prints : Contents → List (List ℕ) → ArgumentKind → Argument → List ℕ → Type 0
Prints c locals p a w = (parsed : Token) × (token_at p w ≡ Some parsed) × (resolve (names_of_kind c) locals p parsed ≡ Some a) × (is_word w ≡ true)

name_prints : (c : Contents) (locals : List (List ℕ)) (p : ArgumentKind) (a : Argument) (w : List ℕ) → takes_name p ≡ true → is_name w ≡ true → resolve_name (names_of_kind c) locals p w ≡ Some a → Prints c locals p a w
unfolding resolve
name_prints c locals p a w takes h is = (token.Name w, name_resolves p w takes h, is, name_is_word w h)

not_some : {X : Type 0} (o : Option X) → not (is_some o) ≡ true → o ≡ None
not_some None h = refl
not_some (Some x) h = absurd cc

-- the name of a variable, if the argument kind takes variables
variable_prints : (c : Contents) (locals : List (List ℕ)) (p : ArgumentKind) (a : Argument) → NameLists c locals → takes_name p ≡ true → ((w : List ℕ) → resolve_name (names_of_kind c) locals p w ≡ variable (names_of_kind c) locals w)
    → is_variable c locals a ≡ true → Prints c locals p a (argument_text c locals p a)
unfolding argument_text
variable_prints c locals p (argument.Local i) names takes by h =
    let w = name_at locals i in
    name_prints c locals p (argument.Local i) w takes (found_name locals i names.own h)
    (by w ∙ ap (λ (o : Option ℕ). option_or (option_map (λ (i : ℕ). argument.Local i) o) (option_map (λ (i : ℕ). argument.Global i) (index_among c.globals w))) (index_of_name locals i h))
variable_prints c locals p (argument.Global i) names takes by h =
    let w = name_at c.globals i in
    let sections = and_parts (is_found c.globals i) (not (is_some (index_among locals w))) h in
    name_prints c locals p (argument.Global i) w takes (found_name c.globals i (names.kinds kind.Global) sections.0)
    (by w ∙ ap (λ (o : Option ℕ). option_or (option_map (λ (i : ℕ). argument.Local i) o) (option_map (λ (i : ℕ). argument.Global i) (index_among c.globals w))) (not_some (index_among locals w) sections.1)
    ∙ ap (option_map (λ (i : ℕ). argument.Global i)) (index_of_name c.globals i sections.0))
variable_prints c locals p _ names takes by h = absurd cc

-- the name of an item, if the argument kind takes items of its kind
item_prints : (c : Contents) (locals : List (List ℕ)) (p : ArgumentKind) (a : Argument) → NameLists c locals → takes_name p ≡ true → ((w : List ℕ) → resolve_name (names_of_kind c) locals p w ≡ item (names_of_kind c) locals (symbol_kind_at p) w)
    → is_item c locals (symbol_kind_at p) a ≡ true → Prints c locals p a (argument_text c locals p a)
unfolding argument_text
item_prints c locals p (argument.Item i) names takes by h =
    let those = names_of_kind c (symbol_kind_at p) in
    let w = name_at those i in
    name_prints c locals p (argument.Item i) w takes (found_name those i (names.kinds (symbol_kind_at p)) h) (by w ∙ ap (option_map (λ (i : ℕ). argument.Item i)) (index_of_name those i h))
item_prints c locals p _ names takes by h = absurd cc

-- a value
value_prints : (c : Contents) (locals : List (List ℕ)) (a : Argument) → NameLists c locals → is_value c locals a ≡ true → Prints c locals argument_kind.Operand a (argument_text c locals argument_kind.Operand a)
unfolding argument_text token_at resolve_name resolve
value_prints c locals (argument.Number n) names h =
    let fits = leb-true n 4294967295 h in
    (token.Number n, ap (λ (o : Option ℕ). option_or (option_map (λ (n : ℕ). token.Number n) o) (name (decimal n))) (decimal_is_numeral n fits), refl, decimal_is_word n fits)
value_prints c locals a names h = variable_prints c locals argument_kind.Operand a names refl (λ w. refl) h

-- `-`, or what is printed without it
optional_prints : (c : Contents) (locals : List (List ℕ)) (p : ArgumentKind) (a : Argument) (t : Bool) → token_at p (codes "-") ≡ Some token.Nothing → (is_nothing c locals a || t) ≡ true
    → (t ≡ true → Prints c locals p a (argument_text c locals p a)) → Prints c locals p a (argument_text c locals p a)
unfolding argument_text resolve
optional_prints c locals p argument.Nothing t takes h more = (token.Nothing, takes, refl, refl)
optional_prints c locals p _ t takes h more = more h

-- the word of an argument resolves to the argument
pub word_prints : (c : Contents) (locals : List (List ℕ)) (p : ArgumentKind) (a : Argument) → NameLists c locals → has_word c locals p a ≡ true
    → (parsed : Token) × (token_at p (argument_text c locals p a) ≡ Some parsed) × (resolve (names_of_kind c) locals p parsed ≡ Some a) × (is_word (argument_text c locals p a) ≡ true)
unfolding has_word token_at resolve_name resolve argument_text
word_prints c locals argument_kind.Operand a names h = value_prints c locals a names h
word_prints c locals argument_kind.Variable a names h = variable_prints c locals argument_kind.Variable a names refl (λ w. refl) h
word_prints c locals argument_kind.Dest a names h = optional_prints c locals argument_kind.Dest a (is_variable c locals a) refl h (λ t. variable_prints c locals argument_kind.Dest a names refl (λ w. refl) t)
word_prints c locals (argument_kind.Item k) a names h = item_prints c locals (argument_kind.Item k) a names refl (λ w. refl) h
word_prints c locals argument_kind.OptionalFunction a names h = optional_prints c locals argument_kind.OptionalFunction a (is_item c locals kind.Function a) refl h (λ t. item_prints c locals argument_kind.OptionalFunction a names refl (λ w. refl) t)
word_prints c locals argument_kind.PlainFunction a names h = item_prints c locals argument_kind.PlainFunction a names refl (λ w. refl) h
word_prints c locals argument_kind.OptionalPlainFunction a names h = optional_prints c locals argument_kind.OptionalPlainFunction a (is_item c locals kind.Function a) refl h (λ t. item_prints c locals argument_kind.OptionalPlainFunction a names refl (λ w. refl) t)
word_prints c locals argument_kind.State (argument.Flag true) names h = (token.Flag true, refl, refl, refl)
word_prints c locals argument_kind.State (argument.Flag false) names h = (token.Flag false, refl, refl, refl)
word_prints c locals argument_kind.Mode (argument.Flag true) names h = (token.Flag true, refl, refl, refl)
word_prints c locals argument_kind.Mode (argument.Flag false) names h = (token.Flag false, refl, refl, refl)
word_prints c locals argument_kind.Detached (argument.Flag true) names h = (token.Flag true, refl, refl, refl)
word_prints c locals _ _ names h = absurd cc

-- the words of several arguments resolve to them
pub words_print : (c : Contents) (locals : List (List ℕ)) (argument_kinds : List ArgumentKind) (args : List Argument) → NameLists c locals → have_words c locals argument_kinds args ≡ true
    → (words : List Token) × (tokens_at argument_kinds (argument_texts c locals argument_kinds args) ≡ Some words) × (resolve_all (names_of_kind c) locals argument_kinds words ≡ Some args) × (list_all is_word (argument_texts c locals argument_kinds args) ≡ true)
unfolding have_words argument_texts tokens_at resolve_all
words_print c locals [] [] names h = ([], refl, refl, refl)
words_print c locals (p ∷ argument_kinds) (a ∷ args) names h =
    let sections = and_parts (has_word c locals p a) (have_words c locals argument_kinds args) h in
    let one = word_prints c locals p a names sections.0 in
    let more = words_print c locals argument_kinds args names sections.1 in
    let ws = argument_texts c locals argument_kinds args in (
      one.0 ∷ more.0,
      both_some (token_at p (argument_text c locals p a)) (tokens_at argument_kinds ws) one.0 more.0 one.1 more.1,
      both_some (resolve (names_of_kind c) locals p one.0) (resolve_all (names_of_kind c) locals argument_kinds more.0) a args one.2 more.2,
      and_from (is_word (argument_text c locals p a)) (list_all is_word ws) one.3 more.3,
    )
words_print c locals _ _ names h = absurd cc
