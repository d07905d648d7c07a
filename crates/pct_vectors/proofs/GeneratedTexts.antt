-- The canonical text of a generated script.
use Rattle.pct_names.proofs.Names.{◌%◌, ◌+◌, ◌++◌, ◌/◌, ◌<◌, [], ◌^◌, ap, argument_text, argument_texts, arith, codes, Contents, decimal}
use Rattle.pct_names.proofs.Names.{decimal_digit, decimal_step, declaration_line, declaration_syntax, encode, end_texts, first_globals}
use Rattle.pct_names.proofs.Names.{flat_map, flat_map-map, function_lines, function_texts, generated_lines, generated_text, join_with_byte}
use Rattle.pct_names.proofs.Names.{later_declarations, List, map, map-append, map-map, name_at, range_with_len, refl, round_texts}
use Rattle.pct_names.proofs.Names.{rounds_of, script_lines, Some, statement_words, Stmt, sym, syntax_of, text_of, threads_of, ℕ, ◌∙◌, ◌∷◌}
use Rattle.pct_names.proofs.Names.{◌≡◌, ◌≤◌}
use Rattle.std.proofs.lemmas.List.{append_assoc, append-nil}
use Rattle.pct_model.specs.declared.statement.Stmt.TheVariants as statement
use Rattle.pct_model.specs.declared.statement.Dest.TheVariants as dest
use Rattle.pct_model.specs.declared.line_kind.SymbolKind.TheVariants as kind
use Rattle.pct_vectors.specs.declared.calls.Call.{Call}
use Rattle.pct_vectors.specs.declared.calls.Call.TheVariants as call
use Rattle.pct_vectors.specs.GeneratedContents.{thread_name, statement_of, calls, set_rounds, rounds_body, end_body, main_body, global_names, generated_functions, generated_contents}
use Rattle.pct_vectors.proofs.Numbered.{same_each}
use Rattle.pct_vectors.proofs.ThreadNames.{thread_text, name_of_id}

-- the line of the global for the id of a thread
global_text : ℕ → List ℕ
global_text i = codes "global t" ++ decimal i

abbrev of_line : List (List ℕ) → List ℕ
of_line words = join_with_byte 32 words

-- the line of a call for a thread
abbrev call_text : Call → ℕ → List ℕ
call_text call.Create i = codes "pthread_create - t" ++ decimal i ++ codes " worker " ++ decimal i
call_text call.Cancel i = codes "pthread_cancel t" ++ decimal i
call_text call.Join i = codes "pthread_join t" ++ decimal i ++ codes " -"

-- a function of the items of joined lists
five : {X Y : Type 0} (g : X → Y) (a b c d e : List X) → map g (a ++ b ++ c ++ d ++ e) ≡ map g a ++ map g b ++ map g c ++ map g d ++ map g e
five g a b c d e =
    map-append g (a ++ b ++ c ++ d) e
    ∙ ap (λ ys. ys ++ map g e) (map-append g (a ++ b ++ c) d ∙ ap (λ ys. ys ++ map g d) (map-append g (a ++ b) c ∙ ap (λ ys. ys ++ map g c) (map-append g a b)))

six : {X Y : Type 0} (g : X → Y) (a b c d e f : List X) → map g (a ++ b ++ c ++ d ++ e ++ f) ≡ map g a ++ map g b ++ map g c ++ map g d ++ map g e ++ map g f
six g a b c d e f = map-append g (a ++ b ++ c ++ d ++ e) f ∙ ap (λ ys. ys ++ map g f) (five g a b c d e)

same_six : {X : Type 0} {a b c d e f g h i j k l : List X} → a ≡ g → b ≡ h → c ≡ i → d ≡ j → e ≡ k → f ≡ l → a ++ b ++ c ++ d ++ e ++ f ≡ g ++ h ++ i ++ j ++ k ++ l
same_six ag bh ci dj ek fl = cc

same_pair : {X : Type 0} {a b c d : List X} → a ≡ c → b ≡ d → a ++ b ≡ c ++ d
same_pair ac bd = cc

-- the first of joined lists, apart from the others
regrouped : {X : Type 0} (p a b c d e f : List X) → p ++ a ++ b ++ c ++ d ++ e ++ f ≡ p ++ (a ++ b ++ c ++ d ++ e ++ f)
regrouped p a b c d e f =
    ap (λ xs. xs ++ f)
    (ap (λ xs. xs ++ e)
    (ap (λ xs. xs ++ d)
    (ap (λ xs. xs ++ c) (append_assoc p a b) ∙ append_assoc p (a ++ b) c)
    ∙ append_assoc p (a ++ b ++ c) d)
    ∙ append_assoc p (a ++ b ++ c ++ d) e)
    ∙ append_assoc p (a ++ b ++ c ++ d ++ e) f

-- the text of a number of several digits
with_last : (n : ℕ) (text : List ℕ) → 10 ≤ n → n < 2 ^ 64 → decimal (n / 10) ≡ text → decimal n ≡ text ++ (48 + n % 10) ∷ []
with_last n text several fits is = decimal_step n several fits ∙ ap (λ digits. digits ++ (48 + n % 10) ∷ []) is

largest_text : decimal 4294967295 ≡ codes "4294967295"
largest_text =
    with_last 4294967295 _ (omega arith) (omega arith)
    (with_last 429496729 _ (omega arith) (omega arith)
    (with_last 42949672 _ (omega arith) (omega arith)
    (with_last 4294967 _ (omega arith) (omega arith)
    (with_last 429496 _ (omega arith) (omega arith)
    (with_last 42949 _ (omega arith) (omega arith)
    (with_last 4294 _ (omega arith) (omega arith)
    (with_last 429 _ (omega arith) (omega arith)
    (with_last 42 _ (omega arith) (omega arith) (decimal_digit 4 (omega arith))))))))))

module _ (threads rounds : ℕ) (few : threads ≤ 28) where
  -- the line of a statement of main
  main_line : Stmt → List ℕ
  main_line s = of_line (statement_words (generated_contents threads rounds) (codes "x" ∷ codes "n" ∷ []) s)

  declared_text : map (λ name. of_line (declaration_line kind.Global (name ∷ []))) (map thread_name (range_with_len 1 threads)) ≡ map global_text (range_with_len 1 threads)
  unfolding declaration_syntax global_text
  declared_text =
      map-map (λ name. of_line (declaration_line kind.Global (name ∷ []))) thread_name (range_with_len 1 threads)
      ∙ same_each (λ i. of_line (declaration_line kind.Global (thread_name i ∷ []))) global_text 1 threads (λ i from within. ap (λ name. of_line (declaration_line kind.Global (name ∷ []))) (thread_text i (omega (arith, within, few))))

  one_call : (c : Call) (i : ℕ) → name_at (generated_contents threads rounds).globals (2 + i) ≡ 116 ∷ decimal i → main_line (statement_of c i) ≡ call_text c i
  unfolding main_line statement_words argument_text argument_texts encode syntax_of name_at
  one_call call.Create i is = rw is (ap (λ text. codes "pthread_create - t" ++ text) (sym (append_assoc (decimal i) (codes " worker ") (decimal i))))
  one_call call.Cancel i is = rw is refl
  one_call call.Join i is = rw is refl

  called_text : (c : Call) → map main_line (calls c threads) ≡ map (call_text c) (range_with_len 1 threads)
  called_text c =
      map-map main_line (statement_of c) (range_with_len 1 threads)
      ∙ same_each (λ i. main_line (statement_of c i)) (call_text c) 1 threads (λ i from within. one_call c i (name_of_id threads i from (omega (arith, within)) few))

  rounds_text : map main_line (set_rounds rounds ∷ rounds_body) ≡ (codes "set n " ++ decimal rounds) ∷ round_texts
  unfolding main_line statement_words argument_text argument_texts encode syntax_of name_at round_texts
  rounds_text = rw largest_text refl

  ends_text : map main_line end_body ≡ end_texts
  unfolding main_line statement_words argument_text argument_texts encode syntax_of name_at
  ends_text = rw (decimal_digit 0 (omega arith)) refl

  key_text : map main_line (statement.KeyCreate dest.Drop (dest.Global 0) (Some 1) ∷ []) ≡ codes "pthread_key_create - key bye" ∷ []
  unfolding main_line statement_words argument_text argument_texts encode syntax_of name_at
  key_text = refl

  -- the lines of main after its first
  abbrev main_texts : List (List ℕ)
  main_texts =
      (codes "pthread_key_create - key bye" ∷ [])
      ++ map (call_text call.Create) (range_with_len 1 threads)
      ++ ((codes "set n " ++ decimal rounds) ∷ round_texts)
      ++ map (call_text call.Cancel) (range_with_len 1 threads)
      ++ map (call_text call.Join) (range_with_len 1 threads)
      ++ end_texts

  main_lines : map main_line (main_body threads rounds) ≡ main_texts
  main_lines =
      six main_line (statement.KeyCreate dest.Drop (dest.Global 0) (Some 1) ∷ []) (calls call.Create threads) (set_rounds rounds ∷ rounds_body) (calls call.Cancel threads) (calls call.Join threads) end_body
      ∙ same_six key_text (called_text call.Create) rounds_text (called_text call.Cancel) (called_text call.Join) ends_text

  body_text : map of_line (map (statement_words (generated_contents threads rounds) (codes "x" ∷ codes "n" ∷ [])) (main_body threads rounds) ++ []) ≡ main_texts
  unfolding main_line
  body_text =
      ap (map of_line) (append-nil (map (statement_words (generated_contents threads rounds) (codes "x" ∷ codes "n" ∷ [])) (main_body threads rounds)))
      ∙ map-map of_line (statement_words (generated_contents threads rounds) (codes "x" ∷ codes "n" ∷ [])) (main_body threads rounds)
      ∙ main_lines

  front_text : map of_line (flat_map (function_lines (generated_contents threads rounds)) (generated_functions threads rounds))
      ≡ function_texts ++ map of_line (map (statement_words (generated_contents threads rounds) (codes "x" ∷ codes "n" ∷ [])) (main_body threads rounds) ++ [])
  unfolding function_lines statement_words argument_text argument_texts encode syntax_of declaration_syntax name_at function_texts
  front_text = rw (decimal_digit 1 (omega arith), decimal_digit 0 (omega arith)) refl

  functions_text : map of_line (flat_map (function_lines (generated_contents threads rounds)) (generated_functions threads rounds)) ≡ function_texts ++ main_texts
  functions_text = front_text ∙ ap (λ lines. function_texts ++ lines) body_text

  globals_text : map of_line (map (λ name. declaration_line kind.Global (name ∷ [])) (global_names threads)) ≡ first_globals ++ map global_text (range_with_len 1 threads)
  unfolding declaration_syntax
  globals_text = ap (λ lines. first_globals ++ lines) (map-map of_line (λ name. declaration_line kind.Global (name ∷ [])) (map thread_name (range_with_len 1 threads)) ∙ declared_text)

  script_text : map of_line (script_lines (generated_contents threads rounds)) ≡ generated_lines threads rounds
  unfolding script_lines declaration_syntax generated_lines global_text
  script_text =
      let front = first_globals ++ map global_text (range_with_len 1 threads) in
      six of_line (map (λ name. declaration_line kind.Global (name ∷ [])) (global_names threads)) (declaration_line kind.Mutex (codes "m" ∷ []) ∷ []) (declaration_line kind.Cond (codes "c" ∷ []) ∷ []) [] [] (flat_map (function_lines (generated_contents threads rounds)) (generated_functions threads rounds))
      ∙ same_pair
      (append-nil _ ∙ append-nil _ ∙ append_assoc (map of_line (map (λ name. declaration_line kind.Global (name ∷ [])) (global_names threads))) (codes "mutex m" ∷ []) (codes "cond c" ∷ []) ∙ ap (λ lines. lines ++ later_declarations) globals_text)
      functions_text
      ∙ sym (append_assoc (front ++ later_declarations) function_texts main_texts)
      ∙ sym (regrouped (front ++ later_declarations ++ function_texts) (codes "pthread_key_create - key bye" ∷ []) (map (call_text call.Create) (range_with_len 1 threads)) ((codes "set n " ++ decimal rounds) ∷ round_texts) (map (call_text call.Cancel) (range_with_len 1 threads)) (map (call_text call.Join) (range_with_len 1 threads)) end_texts)

-- the canonical text of the declarations is that of the lines
pub generated_canon : (threads rounds : ℕ) → threads ≤ 28 → text_of (script_lines (generated_contents threads rounds)) ≡ flat_map (λ line. line ++ 10 ∷ []) (generated_lines threads rounds)
generated_canon threads rounds few =
    sym (flat_map-map (λ line. line ++ 10 ∷ []) of_line (script_lines (generated_contents threads rounds)))
    ∙ ap (flat_map (λ line. line ++ 10 ∷ [])) (script_text threads rounds few)
