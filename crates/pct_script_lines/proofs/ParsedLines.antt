-- The parsed lines, line by line.
use Rattle.pct_names.proofs.Names.{◌++◌, ap, cons_option, filter_map, Line, List, None, Numbered, Option, parsed_numbered, refl, Some, sym}
use Rattle.pct_names.proofs.Names.{ℕ, ◌∙◌, ◌∷◌, ◌≡◌}
use Rattle.std.proofs.Common.{append_assoc}
use Rattle.std.specs.Prelude.{option_to_list}

prepend_entry : {A : Type 0} (o : Option A) (xs : List A) → cons_option o xs ≡ option_to_list o ++ xs
prepend_entry None xs = refl
prepend_entry (Some x) xs = refl

-- one more line
pub line_kept : (items : List Line) (l : Numbered (List ℕ)) (lines : List (Numbered (List ℕ))) → items ++ filter_map parsed_numbered (l ∷ lines) ≡ (items ++ option_to_list (parsed_numbered l)) ++ filter_map parsed_numbered lines
line_kept items l lines =
    ap (λ xs. items ++ xs) (prepend_entry (parsed_numbered l) (filter_map parsed_numbered lines)) ∙ sym (append_assoc items (option_to_list (parsed_numbered l)) (filter_map parsed_numbered lines))
