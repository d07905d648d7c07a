-- The declarations of a generated script are well-formed. The checks are computed for each number of threads.
use Rattle.pct_names.proofs.Names.{◌<◌, all_different, are_nested, arith, change_at, declaration_syntax, encode, has_each_name_once}
use Rattle.pct_names.proofs.Names.{has_first_word, has_line, has_lines, has_text, has_word, have_words, inside, is_name, is_static}
use Rattle.pct_names.proofs.Names.{keeps_limits, keyword_text, list_all, name_at, names_plain, nat_le, none_wrong, open_after, outside}
use Rattle.pct_names.proofs.Names.{range_with_len, refl, syntax_of, true, ℕ, ◌≡◌, ◌≤◌}
use Rattle.std.proofs.Common.{le-leb}
use Rattle.pct_vectors.specs.GeneratedContents.{thread_name, generated_contents}
use Rattle.pct_vectors.proofs.Numbered.{at_each}

each_static : (rounds : ℕ) → nat_le rounds 4294967295 ≡ true → list_all (λ threads. is_static (generated_contents threads rounds)) (range_with_len 1 28) ≡ true
unfolding is_static has_text has_lines has_line has_first_word have_words has_word is_name name_at encode syntax_of declaration_syntax keyword_text keeps_limits has_each_name_once all_different are_nested change_at outside inside open_after none_wrong names_plain thread_name
each_static rounds fits = rw fits refl

pub generated_is_static : (threads rounds : ℕ) → 1 ≤ threads → threads ≤ 28 → rounds ≤ 4294967295 → is_static (generated_contents threads rounds) ≡ true
generated_is_static threads rounds some few fits =
    at_each (λ n. is_static (generated_contents n rounds)) 1 28 threads (each_static rounds (le-leb rounds 4294967295 fits)) some (omega (arith, few))
