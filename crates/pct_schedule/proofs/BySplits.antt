-- Splitting a line at one space after the other gives what its words give.
use Rattle.pct_names.proofs.Names.{◌&&◌, ◌-◌, ◌<◌, ◌>>=◌, [], Alt, ap, arith, Bool, bytes_eq, choice_of, cond, Config, config_of, drop}
use Rattle.pct_names.proofs.Names.{entry_of, entry_of_parts, entry_of_words, false, Format, format_with, header_of, header_of_words}
use Rattle.pct_names.proofs.Names.{is_end_of_words, is_number, Keyword, keyword_text, length, List, nat_eq, nat_le, None, number_of}
use Rattle.pct_names.proofs.Names.{numbered_choice, Option, option_map, option_map_or, refl, Some, split_once, starts_with, sym, take}
use Rattle.pct_names.proofs.Names.{take_rest, true, words_of, ℕ, ◌∙◌, ◌∷◌, ◌≡◌}
use mathlib.Core.Bool.{and-false}
use Rattle.std.proofs.Common.{eq-eqb, eqb-true, ne_eqb, true≢false}
use Rattle.pct_model.specs.declared.keyword.Keyword.TheVariants as keyword
use Rattle.pct_model.specs.Schedule.{begins, is_end}
use Rattle.pct_model.proofs.Bytes.{same_bytes}
use Rattle.pct_text.specs.FirstNumber.{split_number}
use Rattle.pct_text.proofs.SplitOnce.{lacks-uncons}
use Rattle.pct_text.proofs.Numbers.{number_lacks}
use Rattle.pct_text.proofs.Lines.{words_of-split_once, words_of-last, words_of-some}
use Rattle.pct_schedule.proofs.Splits.{begins_with, header_in, choice_in, entry_in_line, end_in}

and_more : (first word space rest : Bool) → (word && space) ≡ rest → ((first && word) && space) ≡ (first && rest)
and_more true word space rest e = e
and_more false word space rest e = refl

or_none : {A : Type 0} (b : Bool) → cond b (let none : Option A = None in none) None ≡ None
or_none true = refl
or_none false = refl

eq_flip : (a b : ℕ) (t : Bool) → nat_eq a b ≡ t → t ≡ nat_eq b a
eq_flip a b true e = sym (eq-eqb b a (sym (eqb-true a b e)))
eq_flip a b false e = sym (ne_eqb b a (λ (same : b ≡ a). true≢false (sym (eq-eqb a b (sym same)) ∙ e)))

-- ---- the first word

abbrev first_is : List ℕ → Option (List ℕ × List ℕ) → Bool
first_is keyword o = option_map_or (λ parts. bytes_eq parts.0 keyword) o false

abbrev with_first : ℕ → List ℕ → Bool → Option (List ℕ × List ℕ) → Option (List ℕ × List ℕ)
with_first b bs blank later = cond blank (Some ([], bs)) (option_map (λ p. (b ∷ p.0, p.1)) later)

begins_end : (blank other : Bool) (b : ℕ) (bs : List ℕ) (later : Option (List ℕ × List ℕ)) → other ≡ blank → (other && true) ≡ first_is [] (with_first b bs blank later)
begins_end true other b bs later e = ap (λ x. x && true) e
begins_end false other b bs None e = ap (λ x. x && true) e
begins_end false other b bs (Some parts) e = ap (λ x. x && true) e

begins_more : (blank : Bool) (b c : ℕ) (bs cs : List ℕ) (later : Option (List ℕ × List ℕ)) (rest : Bool) → (blank ≡ true → nat_eq c b ≡ false) → nat_eq c b ≡ nat_eq b c
    → rest ≡ first_is cs later → (nat_eq c b && rest) ≡ first_is (c ∷ cs) (with_first b bs blank later)
begins_more true b c bs cs later rest lacks flipped e = ap (λ x. x && rest) (lacks refl)
begins_more false b c bs cs None rest lacks flipped e = ap (λ r. nat_eq c b && r) e ∙ and-false (nat_eq c b)
begins_more false b c bs cs (Some parts) rest lacks flipped e = ap (λ x. x && rest) flipped ∙ ap (λ r. nat_eq b c && r) e

-- a line begins with a word and a space where the word is before the first space
begins_by_split : (keyword line : List ℕ) → split_once 32 keyword ≡ None → begins keyword line ≡ first_is keyword (split_once 32 line)
unfolding split_once
begins_by_split [] [] lacks = refl
begins_by_split [] (b ∷ bs) lacks = begins_end (nat_eq b 32) (nat_eq 32 b) b bs (split_once 32 bs) (eq_flip 32 b (nat_eq 32 b) refl)
begins_by_split (c ∷ cs) [] lacks = refl
begins_by_split (c ∷ cs) (b ∷ bs) lacks =
    let parts = lacks-uncons 32 c cs lacks in
    begins_more (nat_eq b 32) b c bs cs (split_once 32 bs) (begins cs bs)
    (λ (blank : nat_eq b 32 ≡ true). ap (nat_eq c) (eqb-true b 32 blank) ∙ parts.0) (eq_flip c b (nat_eq c b) refl) (begins_by_split cs bs parts.1)

pub begins-schedule : (line : List ℕ) → begins_with (keyword_text keyword.Schedule) line ≡ begins (keyword_text keyword.Schedule) line
unfolding begins_with keyword_text split_once
begins-schedule line = sym (begins_by_split (keyword_text keyword.Schedule) line refl)

pub begins-end : (line : List ℕ) → begins_with (keyword_text keyword.End) line ≡ begins (keyword_text keyword.End) line
unfolding begins_with keyword_text split_once
begins-end line = sym (begins_by_split (keyword_text keyword.End) line refl)

-- a line begins with a word and a space where the word is at its start and the space after the word
begins_apart : (word line : List ℕ) → (starts_with nat_eq line word && starts_with nat_eq (drop (length word) line) (32 ∷ [])) ≡ begins word line
begins_apart [] line = refl
begins_apart (c ∷ cs) [] = refl
begins_apart (c ∷ cs) (b ∷ bs) = and_more (nat_eq c b) (starts_with nat_eq bs cs) (starts_with nat_eq (drop (length cs) bs) (32 ∷ [])) (begins cs bs) (begins_apart cs bs)

-- where the word is at the start of the line, the space after it decides
pub begins_after_word : (word line : List ℕ) (first space : Bool) → first ≡ starts_with nat_eq line word → first ≡ true
    → space ≡ starts_with nat_eq (take (length line - length word) (drop (length word) line)) (32 ∷ []) → space ≡ begins word line
begins_after_word word line first space is found after =
    after ∙ ap (λ (bytes : List ℕ). starts_with nat_eq bytes (32 ∷ [])) (take_rest line (length word))
    ∙ ap (λ t. t && starts_with nat_eq (drop (length word) line) (32 ∷ [])) (sym found ∙ is) ∙ begins_apart word line

pub begins_otherwise : (word line : List ℕ) (first : Bool) → first ≡ starts_with nat_eq line word → first ≡ false → first ≡ begins word line
begins_otherwise word line first is other =
    other ∙ ap (λ t. t && starts_with nat_eq (drop (length word) line) (32 ∷ [])) (sym other ∙ is) ∙ begins_apart word line

-- ---- the last word

none_is_none : (parts : List ℕ × List ℕ) → None ≡ Some parts → ⊥
none_is_none parts e = cc

-- a word with a space in it is not a number
no_number : (o : Option ℕ) (w : List ℕ) (parts : List ℕ × List ℕ) → number_of w ≡ o → split_once 32 w ≡ Some parts → o ≡ None
no_number None w parts e is = refl
no_number (Some n) w parts e is = absurd (none_is_none parts (sym (number_lacks 32 w n refl e) ∙ is))

-- ---- headers

no_config : (format : Option Format) (a b : Option ℕ) → config_of format a b None ≡ None
no_config None a b = refl
no_config (Some format) None b = refl
no_config (Some format) (Some most) None = refl
no_config (Some format) (Some most) (Some over) = refl

-- the header with these words after its first two
abbrev of_numbers : List ℕ → List ℕ → List (List ℕ) → Option Config
of_numbers title format words = header_of_words (title ∷ format ∷ words)

abbrev if_title : List ℕ → Option Config → Option Config
if_title title o = cond (bytes_eq title (keyword_text keyword.Schedule)) o None

too_many_words : (title format a b c : List ℕ) (words : List (List ℕ)) → 0 < length words → of_numbers title format (a ∷ b ∷ c ∷ words) ≡ None
too_many_words title format a b c [] some = absurd (omega arith)
too_many_words title format a b c (word ∷ words) some = refl

last_number : (title format budget passes slots : List ℕ) (o : Option (List ℕ × List ℕ)) → split_once 32 slots ≡ o
    → if_title title (config_of (format_with format) (number_of budget) (number_of passes) (number_of slots)) ≡ of_numbers title format (budget ∷ passes ∷ words_of slots)
last_number title format budget passes slots None e = rw (words_of-last slots e) refl
last_number title format budget passes slots (Some parts) e =
    ap (λ (o : Option ℕ). if_title title (config_of (format_with format) (number_of budget) (number_of passes) o)) (no_number (number_of slots) slots parts refl e)
    ∙ ap (if_title title) (no_config (format_with format) (number_of budget) (number_of passes))
    ∙ or_none (bytes_eq title (keyword_text keyword.Schedule))
    ∙ sym (too_many_words title format budget passes parts.0 (words_of parts.1) (words_of-some parts.1))
    ∙ ap (λ (words : List (List ℕ)). of_numbers title format (budget ∷ passes ∷ words)) (sym (words_of-split_once slots parts e))

header_by_four : (line : List ℕ) (title format budget : List ℕ × List ℕ) (o : Option (List ℕ × List ℕ)) → split_once 32 line ≡ Some title → split_once 32 title.1 ≡ Some format
    → split_once 32 format.1 ≡ Some budget → split_once 32 budget.1 ≡ o → header_in line ≡ header_of_words (words_of line)
unfolding header_in
header_by_four line title format budget None e f g h =
    rw (words_of-split_once line title e, words_of-split_once title.1 format f, words_of-split_once format.1 budget g, words_of-last budget.1 h, e, f, g, h) refl
header_by_four line title format budget (Some passes) e f g h =
    rw (words_of-split_once line title e, words_of-split_once title.1 format f, words_of-split_once format.1 budget g, words_of-split_once budget.1 passes h, e, f, g, h)
    (last_number title.0 format.0 budget.0 passes.0 passes.1 (split_once 32 passes.1) refl)

header_by_three : (line : List ℕ) (title format : List ℕ × List ℕ) (o : Option (List ℕ × List ℕ)) → split_once 32 line ≡ Some title → split_once 32 title.1 ≡ Some format
    → split_once 32 format.1 ≡ o → header_in line ≡ header_of_words (words_of line)
unfolding header_in
header_by_three line title format None e f g = rw (words_of-split_once line title e, words_of-split_once title.1 format f, words_of-last format.1 g, e, f, g) refl
header_by_three line title format (Some budget) e f g = header_by_four line title format budget (split_once 32 budget.1) e f g refl

header_by_two : (line : List ℕ) (title : List ℕ × List ℕ) (o : Option (List ℕ × List ℕ)) → split_once 32 line ≡ Some title → split_once 32 title.1 ≡ o → header_in line ≡ header_of_words (words_of line)
unfolding header_in
header_by_two line title None e f = rw (words_of-split_once line title e, words_of-last title.1 f, e, f) refl
header_by_two line title (Some format) e f = header_by_three line title format (split_once 32 format.1) e f refl

header_by_one : (line : List ℕ) (o : Option (List ℕ × List ℕ)) → split_once 32 line ≡ o → header_in line ≡ header_of_words (words_of line)
unfolding header_in
header_by_one line None e = rw (words_of-last line e, e) refl
header_by_one line (Some title) e = header_by_two line title (split_once 32 title.1) e refl

pub header_same : (line : List ℕ) → header_in line ≡ header_of line
unfolding header_of
header_same line = header_by_one line (split_once 32 line) refl

-- the same, from the words to the splits
pub header_by_splits : (line : List ℕ) → header_of line ≡ header_in line
header_by_splits line = sym (header_same line)

-- ---- entries

no_choice : (a b c : Option ℕ) → entry_of_parts a b c None ≡ None
no_choice None b c = refl
no_choice (Some worker) None c = refl
no_choice (Some worker) (Some pid) None = refl
no_choice (Some worker) (Some pid) (Some tid) = refl

many_words : (a b : List ℕ) (words : List (List ℕ)) → 0 < length words → choice_of (a ∷ b ∷ words) ≡ None
many_words a b [] some = absurd (omega arith)
many_words a b (word ∷ words) some = refl

numbered_same : (kind number : List ℕ) (o : Option (List ℕ × List ℕ)) → split_once 32 number ≡ o → (number_of number >>= λ n. numbered_choice kind n) ≡ choice_of (kind ∷ words_of number)
numbered_same kind number None e = rw (words_of-last number e) refl
numbered_same kind number (Some parts) e =
    ap (λ (o : Option ℕ). o >>= λ n. numbered_choice kind n) (no_number (number_of number) number parts refl e)
    ∙ sym (many_words kind parts.0 (words_of parts.1) (words_of-some parts.1)) ∙ ap (λ (words : List (List ℕ)). choice_of (kind ∷ words)) (sym (words_of-split_once number parts e))

-- words with a space are not the keyword, which has none
not_keyword : (k : Keyword) (words : List ℕ) (parts : List ℕ × List ℕ) (is : Bool) → split_once 32 (keyword_text k) ≡ None → split_once 32 words ≡ Some parts → bytes_eq words (keyword_text k) ≡ is → is ≡ false
not_keyword k words parts true lacks e is = absurd (none_is_none parts (sym lacks ∙ ap (split_once 32) (sym (same_bytes words (keyword_text k) is)) ∙ e))
not_keyword k words parts false lacks e is = refl

go_lacks : split_once 32 (keyword_text keyword.Go) ≡ None
unfolding split_once keyword_text
go_lacks = refl

expire_lacks : split_once 32 (keyword_text keyword.Expire) ≡ None
unfolding split_once keyword_text
expire_lacks = refl

choice_by_split : (words : List ℕ) (o : Option (List ℕ × List ℕ)) → split_once 32 words ≡ o → choice_in words ≡ choice_of (words_of words)
unfolding choice_in
choice_by_split words None e = rw (words_of-last words e, e) refl
choice_by_split words (Some parts) e =
    rw
    (words_of-split_once words parts e, e, not_keyword keyword.Go words parts (bytes_eq words (keyword_text keyword.Go)) go_lacks e refl, not_keyword keyword.Expire words parts (bytes_eq words (keyword_text keyword.Expire)) expire_lacks e refl)
    (numbered_same parts.0 parts.1 (split_once 32 parts.1) refl)

pub choice_same : (words : List ℕ) → choice_in words ≡ choice_of (words_of words)
choice_same words = choice_by_split words (split_once 32 words) refl

-- the same, from the words to the splits
pub choice_by_splits : (words : List ℕ) → choice_of (words_of words) ≡ choice_in words
choice_by_splits words = sym (choice_same words)

entry_by_numbers : (line : List ℕ) (first second third : List ℕ × List ℕ) (a b c : Option ℕ) → split_once 32 line ≡ Some first → split_once 32 first.1 ≡ Some second → split_once 32 second.1 ≡ Some third
    → number_of first.0 ≡ a → number_of second.0 ≡ b → number_of third.0 ≡ c → entry_in_line line ≡ entry_of_parts a b c (choice_in third.1)
unfolding entry_in_line split_number
entry_by_numbers line first second third None b c e f g x y z = rw (e, x) refl
entry_by_numbers line first second third (Some worker) None c e f g x y z = rw (e, x, f, y) refl
entry_by_numbers line first second third (Some worker) (Some pid) None e f g x y z = rw (e, x, f, y, g, z) refl
entry_by_numbers line first second third (Some worker) (Some pid) (Some tid) e f g x y z = rw (e, x, f, y, g, z) (by_choice (choice_in third.1))
  where
    by_choice : (o : Option Alt) → (o >>= λ choice. cond (nat_le worker 16) (Some (record { worker = worker; pid = pid; tid = tid; alt = choice })) None) ≡ entry_of_parts (Some worker) (Some pid) (Some tid) o
    by_choice None = refl
    by_choice (Some choice) = refl

no_third : (line : List ℕ) (first second : List ℕ × List ℕ) (a b : Option ℕ) → split_once 32 line ≡ Some first → split_once 32 first.1 ≡ Some second → split_once 32 second.1 ≡ None
    → number_of first.0 ≡ a → number_of second.0 ≡ b → entry_in_line line ≡ None
unfolding entry_in_line split_number
no_third line first second None b e f g x y = rw (e, x) refl
no_third line first second (Some worker) None e f g x y = rw (e, x, f, y) refl
no_third line first second (Some worker) (Some pid) e f g x y = rw (e, x, f, y, g) refl

no_second : (line : List ℕ) (first : List ℕ × List ℕ) (a : Option ℕ) → split_once 32 line ≡ Some first → split_once 32 first.1 ≡ None → number_of first.0 ≡ a → entry_in_line line ≡ None
unfolding entry_in_line split_number
no_second line first None e f x = rw (e, x) refl
no_second line first (Some worker) e f x = rw (e, x, f) refl

entry_by_three : (line : List ℕ) (first second : List ℕ × List ℕ) (o : Option (List ℕ × List ℕ)) → split_once 32 line ≡ Some first → split_once 32 first.1 ≡ Some second → split_once 32 second.1 ≡ o
    → entry_in_line line ≡ entry_of_words (words_of line)
entry_by_three line first second None e f g =
    rw (words_of-split_once line first e, words_of-split_once first.1 second f, words_of-last second.1 g)
    (no_third line first second (number_of first.0) (number_of second.0) e f g refl refl ∙ sym (no_choice (number_of first.0) (number_of second.0) (number_of second.1)))
entry_by_three line first second (Some third) e f g =
    rw (words_of-split_once line first e, words_of-split_once first.1 second f, words_of-split_once second.1 third g)
    (entry_by_numbers line first second third (number_of first.0) (number_of second.0) (number_of third.0) e f g refl refl refl
    ∙ ap (entry_of_parts (number_of first.0) (number_of second.0) (number_of third.0)) (choice_same third.1))

entry_by_two : (line : List ℕ) (first : List ℕ × List ℕ) (o : Option (List ℕ × List ℕ)) → split_once 32 line ≡ Some first → split_once 32 first.1 ≡ o → entry_in_line line ≡ entry_of_words (words_of line)
entry_by_two line first None e f = rw (words_of-split_once line first e, words_of-last first.1 f) (no_second line first (number_of first.0) e f refl)
entry_by_two line first (Some second) e f = entry_by_three line first second (split_once 32 second.1) e f refl

entry_by_one : (line : List ℕ) (o : Option (List ℕ × List ℕ)) → split_once 32 line ≡ o → entry_in_line line ≡ entry_of_words (words_of line)
unfolding entry_in_line split_number
entry_by_one line None e = rw (words_of-last line e, e) refl
entry_by_one line (Some first) e = entry_by_two line first (split_once 32 first.1) e refl

pub entry_same : (line : List ℕ) → entry_in_line line ≡ entry_of line
unfolding entry_of
entry_same line = entry_by_one line (split_once 32 line) refl

-- the same, from the words to the splits
pub entry_by_splits : (line : List ℕ) → entry_of line ≡ entry_in_line line
entry_by_splits line = sym (entry_same line)

-- ---- ends

many_end_words : (n : ℕ) (a b : List ℕ) (words : List (List ℕ)) → 0 < length words → is_end_of_words n (a ∷ b ∷ words) ≡ false
many_end_words n a b [] some = absurd (omega arith)
many_end_words n a b (word ∷ words) some = refl

end_number : (n : ℕ) (title number : List ℕ) (o : Option (List ℕ × List ℕ)) → split_once 32 number ≡ o
    → (bytes_eq title (keyword_text keyword.End) && is_number n (number_of number)) ≡ is_end_of_words n (title ∷ words_of number)
end_number n title number None e = rw (words_of-last number e) refl
end_number n title number (Some parts) e =
    ap (λ (o : Option ℕ). bytes_eq title (keyword_text keyword.End) && is_number n o) (no_number (number_of number) number parts refl e)
    ∙ and-false (bytes_eq title (keyword_text keyword.End))
    ∙ sym (many_end_words n title parts.0 (words_of parts.1) (words_of-some parts.1)) ∙ ap (λ (words : List (List ℕ)). is_end_of_words n (title ∷ words)) (sym (words_of-split_once number parts e))

end_by_one : (n : ℕ) (line : List ℕ) (o : Option (List ℕ × List ℕ)) → split_once 32 line ≡ o → end_in n line ≡ is_end_of_words n (words_of line)
unfolding end_in
end_by_one n line None e = rw (words_of-last line e, e) refl
end_by_one n line (Some parts) e = rw (words_of-split_once line parts e, e) (end_number n parts.0 parts.1 (split_once 32 parts.1) refl)

pub end_same : (n : ℕ) (line : List ℕ) → end_in n line ≡ is_end n line
unfolding is_end
end_same n line = end_by_one n line (split_once 32 line) refl

-- the same, from the words to the splits
pub end_by_splits : (n : ℕ) (line : List ℕ) → is_end n line ≡ end_in n line
end_by_splits n line = sym (end_same n line)
