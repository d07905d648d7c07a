-- Parsing the words of a line, word by word.
use Rattle.pct_names.proofs.Names.{◌+◌, ◌++◌, ◌>>=◌, [], ap, ArgumentKind, arith, drop, List, None, Option, option_map, slice_get}
use Rattle.pct_names.proofs.Names.{slice_get_cases, Some, suc, Token, token_at, tokens_at, ℕ, ◌∙◌, ◌∷◌, ◌≡◌}
use Rattle.std.proofs.lemmas.List.{append-nil}
use Rattle.pct_script_lines.proofs.ResolvingTokens.{onto, regroup}
use Rattle.pct_script_lines.proofs.FaultyWords.{argument_kind_first, past}

-- a word past the last argument kind
pub words_past : (items : List Token) (argument_kinds : List ArgumentKind) (at : ℕ) (w : List ℕ) (words : List (List ℕ)) → slice_get argument_kinds at ≡ None → onto items (tokens_at (drop at argument_kinds) (w ∷ words)) ≡ None
unfolding tokens_at
words_past items argument_kinds at w words none = ap (λ ps. onto items (tokens_at ps (w ∷ words))) (past argument_kinds at none (slice_get_cases argument_kinds at).1)

-- a word that does not fit
pub word_wrong : (items : List Token) (argument_kinds : List ArgumentKind) (at : ℕ) (p : ArgumentKind) (w : List ℕ) (words : List (List ℕ)) → slice_get argument_kinds at ≡ Some p → token_at p w ≡ None
    → onto items (tokens_at (drop at argument_kinds) (w ∷ words)) ≡ None
unfolding tokens_at
word_wrong items argument_kinds at p w words here none =
    ap (λ ps. onto items (tokens_at ps (w ∷ words))) (argument_kind_first argument_kinds at p here)
    ∙ ap (λ (o : Option Token). onto items (o >>= λ first. option_map (λ others. first ∷ others) (tokens_at (drop (suc at) argument_kinds) words))) none

-- a word that fits
pub word_right : (items : List Token) (argument_kinds : List ArgumentKind) (at : ℕ) (p : ArgumentKind) (w : List ℕ) (words : List (List ℕ)) (x : Token) → slice_get argument_kinds at ≡ Some p → token_at p w ≡ Some x
    → onto items (tokens_at (drop at argument_kinds) (w ∷ words)) ≡ onto (items ++ x ∷ []) (tokens_at (drop (at + 1) argument_kinds) words)
unfolding tokens_at
word_right items argument_kinds at p w words x here e =
    let next : suc at ≡ at + 1 = omega arith in
    ap (λ ps. onto items (tokens_at ps (w ∷ words))) (argument_kind_first argument_kinds at p here)
    ∙ ap (λ (o : Option Token). onto items (o >>= λ first. option_map (λ others. first ∷ others) (tokens_at (drop (suc at) argument_kinds) words))) e
    ∙ regroup items x (tokens_at (drop (suc at) argument_kinds) words) ∙ ap (λ n. onto (items ++ x ∷ []) (tokens_at (drop n argument_kinds) words)) next

-- after the last word no argument kind is left
pub words_end : (items : List Token) (argument_kinds : List ArgumentKind) (at : ℕ) → slice_get argument_kinds at ≡ None → onto items (tokens_at (drop at argument_kinds) []) ≡ Some items
unfolding tokens_at
words_end items argument_kinds at none = ap (λ ps. onto items (tokens_at ps [])) (past argument_kinds at none (slice_get_cases argument_kinds at).1) ∙ ap (λ xs. Some xs) (append-nil items)

-- after the last word an argument kind is left
pub words_missing : (items : List Token) (argument_kinds : List ArgumentKind) (at : ℕ) (p : ArgumentKind) → slice_get argument_kinds at ≡ Some p → onto items (tokens_at (drop at argument_kinds) []) ≡ None
unfolding tokens_at
words_missing items argument_kinds at p here = ap (λ ps. onto items (tokens_at ps [])) (argument_kind_first argument_kinds at p here)
