-- Three numbers before spaces, the word `go` and an LF are the line of an entry.
use Rattle.pct_names.proofs.Names.{◌+◌, ◌++◌, ◌>>=◌, [], ap, arith, Bool, bytes_eq, Entry, entry_of, false, if_known}
use Rattle.pct_names.proofs.Names.{is_digit, keyword_text, length, lines_of, List, list_all, nat_eq, nat_le, None, number_of, Option, option_and_then}
use Rattle.pct_names.proofs.Names.{refl, same_Some, Some, split_once, sym, true, ℕ, inl, ◌∙◌, ◌∷◌, ◌≡◌}
use Rattle.std.proofs.Common.{append_assoc, length-append, true≢false}
use Rattle.pct_model.specs.declared.schedule.Alt.TheVariants as alt
use Rattle.pct_model.specs.declared.keyword.Keyword.TheVariants as keyword
use Rattle.pct_model.specs.Schedule.{begins}
use Rattle.pct_model.proofs.Bytes.{same_bytes}
use Rattle.pct_text.specs.FirstNumber.{split_number}
use Rattle.pct_text.proofs.Lines.{lines_of-line, strip_cr-lacks}
use Rattle.pct_text.proofs.Numbers.{number_lacks, number_takes, digits_of_decimal}
use Rattle.pct_text.proofs.SplitOnce.{split_joins, split_again, lacks-append, lacks-cons}
use Rattle.pct_schedule.specs.FirstEntry.{IsFirstEntry}
use Rattle.pct_schedule.proofs.Splits.{begins_with, choice_in, entry_in_line}
use Rattle.pct_schedule.proofs.BySplits.{begins-end, entry_same}

-- ---- one number

-- a text begins with a number and a space
pub record IsFirstNumber (text : List ℕ) (n : ℕ) (rest : List ℕ) : Type 0 where
  pub word : List ℕ
  pub is : number_of word ≡ Some n
  pub whole : text ≡ word ++ 32 ∷ rest

-- the number of a word, with the bytes after the word
abbrev with_rest : Option ℕ → List ℕ → Option (ℕ × List ℕ)
with_rest o bytes = o >>= λ n. Some (n, bytes)

-- the same of a text that is split
abbrev number_by : Option (List ℕ × List ℕ) → Option (ℕ × List ℕ)
number_by o = o >>= λ parts. with_rest (number_of parts.0) parts.1

by_number : (text : List ℕ) (n : ℕ) (rest : List ℕ) (parts : List ℕ × List ℕ) (o : Option ℕ) → split_once 32 text ≡ Some parts → number_of parts.0 ≡ o → with_rest o parts.1 ≡ Some (n, rest) → IsFirstNumber text n rest
by_number text n rest parts None e is h = absurd cc
by_number text n rest parts (Some m) e is h =
    let same = same_Some (m, parts.1) (n, rest) h in
    record {
      word = parts.0;
      is = is ∙ ap (λ (q : ℕ × List ℕ). Some q.0) same;
      whole = split_joins 32 text parts e ∙ ap (λ (q : ℕ × List ℕ). parts.0 ++ 32 ∷ q.1) same;
    }

by_split : (text : List ℕ) (n : ℕ) (rest : List ℕ) (o : Option (List ℕ × List ℕ)) → split_once 32 text ≡ o → number_by o ≡ Some (n, rest) → IsFirstNumber text n rest
by_split text n rest None e h = absurd cc
by_split text n rest (Some parts) e h = by_number text n rest parts (number_of parts.0) e refl h

pub number_first : (text : List ℕ) (n : ℕ) (rest : List ℕ) → split_number text ≡ Some (n, rest) → IsFirstNumber text n rest
unfolding split_number
number_first text n rest h = by_split text n rest (split_once 32 text) refl h

-- the number is read again before another rest
number_again : (word : List ℕ) (n : ℕ) (rest : List ℕ) → number_of word ≡ Some n → split_number (word ++ 32 ∷ rest) ≡ Some (n, rest)
unfolding split_number
number_again word n rest is = rw (split_again 32 word rest (number_lacks 32 word n refl is), is) refl

-- ---- the line

choice_go : choice_in (103 ∷ 111 ∷ []) ≡ Some alt.Go
unfolding choice_in keyword_text
choice_go = refl

not_end : (word : List ℕ) (is : Bool) → list_all is_digit word ≡ true → bytes_eq word (keyword_text keyword.End) ≡ is → is ≡ false
unfolding keyword_text
not_end word true digits e = absurd (true≢false (sym digits ∙ ap (list_all is_digit) (same_bytes word (keyword_text keyword.End) e)))
not_end word false digits e = refl

begins_no_end : (word rest : List ℕ) (n : ℕ) → number_of word ≡ Some n → begins (keyword_text keyword.End) (word ++ 32 ∷ rest) ≡ false
unfolding begins_with
begins_no_end word rest n is =
    let digits : list_all is_digit word ≡ true = ap (list_all is_digit) (number_takes word n is) ∙ digits_of_decimal n in
    sym (begins-end (word ++ 32 ∷ rest))
    ∙ rw (split_again 32 word rest (number_lacks 32 word n refl is)) (not_end word (bytes_eq word (keyword_text keyword.End)) digits refl)

-- the line of three words and `go`
abbrev line_with : List ℕ → List ℕ → List ℕ → List ℕ
line_with a b c = a ++ 32 ∷ (b ++ 32 ∷ (c ++ 32 ∷ 103 ∷ 111 ∷ []))

line_ends : (text words next last a b c after : List ℕ) → text ≡ a ++ 32 ∷ words → words ≡ b ++ 32 ∷ next → next ≡ c ++ 32 ∷ last → last ≡ 103 ∷ 111 ∷ 10 ∷ after → text ≡ line_with a b c ++ 10 ∷ after
line_ends text words next last a b c after e f g h =
    let third = c ++ 32 ∷ 103 ∷ 111 ∷ [] in
    let second = b ++ 32 ∷ third in
    let from_third : next ≡ third ++ 10 ∷ after = g ∙ ap (λ (xs : List ℕ). c ++ 32 ∷ xs) h ∙ sym (append_assoc c (32 ∷ 103 ∷ 111 ∷ []) (10 ∷ after)) in
    let from_second : words ≡ second ++ 10 ∷ after = f ∙ ap (λ (xs : List ℕ). b ++ 32 ∷ xs) from_third ∙ sym (append_assoc b (32 ∷ third) (10 ∷ after)) in
    e ∙ ap (λ (xs : List ℕ). a ++ 32 ∷ xs) from_second ∙ sym (append_assoc a (32 ∷ second) (10 ∷ after))

line_lacks : (d : ℕ) (a b c : List ℕ) (w p t : ℕ) → is_digit d ≡ false → nat_eq 32 d ≡ false → split_once d (32 ∷ 103 ∷ 111 ∷ []) ≡ None → number_of a ≡ Some w → number_of b ≡ Some p → number_of c ≡ Some t → split_once d (line_with a b c) ≡ None
line_lacks d a b c w p t digit space last x y z =
    let third = c ++ 32 ∷ 103 ∷ 111 ∷ [] in
    let second = b ++ 32 ∷ third in
    lacks-append d a (32 ∷ second) (number_lacks d a w digit x)
    (lacks-cons d 32 second space (lacks-append d b (32 ∷ third) (number_lacks d b p digit y)
    (lacks-cons d 32 third space (lacks-append d c (32 ∷ 103 ∷ 111 ∷ []) (number_lacks d c t digit z) last))))

no_lf : split_once 10 (32 ∷ 103 ∷ 111 ∷ []) ≡ None
unfolding split_once
no_lf = refl

no_cr : split_once 13 (32 ∷ 103 ∷ 111 ∷ []) ≡ None
unfolding split_once
no_cr = refl

line_entry : (a b c : List ℕ) (w p t : ℕ) → number_of a ≡ Some w → number_of b ≡ Some p → number_of c ≡ Some t → nat_le w 16 ≡ true
    → entry_in_line (line_with a b c) ≡ Some (record { worker = w; pid = p; tid = t; alt = alt.Go })
unfolding entry_in_line
line_entry a b c w p t x y z few =
    let third = c ++ 32 ∷ 103 ∷ 111 ∷ [] in
    let second = b ++ 32 ∷ third in
    rw (number_again a w second x, number_again b p third y, number_again c t (103 ∷ 111 ∷ []) z, choice_go, few) refl

-- the first line of the text is that of an entry with the choice `go`
pub go_line : (text words next last after : List ℕ) (w p t : ℕ) → split_number text ≡ Some (w, words) → split_number words ≡ Some (p, next) → split_number next ≡ Some (t, last) → last ≡ 103 ∷ 111 ∷ 10 ∷ after → nat_le w 16 ≡ true
    → IsFirstEntry text (record { worker = w; pid = p; tid = t; alt = alt.Go }) after
go_line text words next last after w p t e f g h few =
    let a = number_first text w words e in
    let b = number_first words p next f in
    let c = number_first next t last g in
    let line = line_with a.word b.word c.word in
    let entry : Entry = record { worker = w; pid = p; tid = t; alt = alt.Go } in
    let whole : text ≡ line ++ 10 ∷ after = line_ends text words next last a.word b.word c.word after a.whole b.whole c.whole h in
    let size : length text ≡ length line + length {A = ℕ} (10 ∷ after) = ap length whole ∙ length-append line (10 ∷ after) in
    let in_line : entry_of line ≡ Some entry = sym (entry_same line) ∙ line_entry a.word b.word c.word w p t a.is b.is c.is few in
    record {
      line = line;
      first = record {
        lines = ap lines_of whole ∙ lines_of-line line after (line_lacks 10 a.word b.word c.word w p t refl refl no_lf a.is b.is c.is);
        split = inl whole;
        shorter = omega (arith, size);
      };
      whole = strip_cr-lacks line (line_lacks 13 a.word b.word c.word w p t refl refl no_cr a.is b.is c.is);
      goes_on = begins_no_end a.word _ w a.is;
      entry = λ format. ap (λ (o : Option Entry). option_and_then (if_known format) o) in_line;
    }
