-- The options of a survey, as bytes.
use Rattle.pct_names.proofs.Names.{◌||◌, [], ap, Bool, cond, given_after, keyword_text, List, list_any, map, None, option_and_then, option_map, options_of, refl, run_options, string_bytes, ℕ, ◌∷◌, ◌≡◌}
use Rattle.pct_model.specs.declared.keyword.Keyword.TheVariants as keyword
use Rattle.std.specs.declared.string.String.{String}
use Rattle.pct_inspection.specs.Words.{config_asked, is_of_one_run}

pub any_of_words : {Y : Type 0} (words : List (String Y)) → list_any (λ word. is_of_one_run (string_bytes word)) words ≡ list_any is_of_one_run (map string_bytes words)
any_of_words [] = refl
any_of_words (word ∷ words) = ap (λ (t : Bool). is_of_one_run (string_bytes word) || t) (any_of_words words)

-- the configuration, by whether a word is one of an option that a survey does not have
pub asked_with : (words : List (List ℕ)) (refused : Bool) → list_any is_of_one_run words ≡ refused
    → config_asked words ≡ cond refused None (option_map (λ run. run.config) (run_options (keyword_text keyword.Run ∷ words)))
unfolding config_asked
asked_with words refused is = ap (λ (b : Bool). cond b None (option_map (λ run. run.config) (run_options (keyword_text keyword.Run ∷ words)))) is

pub run_is : (words : List (List ℕ)) → run_options (keyword_text keyword.Run ∷ words) ≡ option_and_then options_of (given_after None words)
unfolding run_options keyword_text
run_is words = refl
