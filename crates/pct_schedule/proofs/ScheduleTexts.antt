-- The text of a schedule: its header, its entries and its last line.
use Rattle.pct_names.proofs.Names.{◌++◌, [], ap, Config, end_line, Entry, entry_line, flat_map-cons, flat_map-map, header_line, length}
use Rattle.pct_names.proofs.Names.{line_text, List, map, schedule_lines, text_of, ℕ, ◌∙◌, ◌∷◌, ◌≡◌}
use Rattle.std.proofs.Common.{append_assoc}
use Rattle.std.specs.List.{flat_map}
use Rattle.std.proofs.lemmas.List.{append-nil}
use Rattle.std.proofs.lemmas.Grind.{flat_map-append}

-- the text of one line
pub one_line : (line : List (List ℕ)) → text_of (line ∷ []) ≡ line_text line
one_line line = flat_map-cons line_text line [] ∙ append-nil (line_text line)

-- the text of lines, one for each item
pub lines-of : {X : Type 0} (line_of : X → List (List ℕ)) (xs : List X) → text_of (map line_of xs) ≡ flat_map (λ x. line_text (line_of x)) xs
lines-of line_of xs = flat_map-map line_text line_of xs

-- a line, a line for each item, and the lines after them
pub framed : {X : Type 0} (first : List (List ℕ)) (line_of : X → List (List ℕ)) (xs : List X) (after : List (List (List ℕ))) → text_of ((first ∷ []) ++ map line_of xs ++ after) ≡ line_text first ++ (flat_map (λ x. line_text (line_of x)) xs ++ text_of after)
framed first line_of xs after =
    flat_map-append line_text ((first ∷ []) ++ map line_of xs) after
    ∙ ap (λ text. text ++ text_of after) (flat_map-append line_text (first ∷ []) (map line_of xs))
    ∙ ap (λ text. (text ++ text_of (map line_of xs)) ++ text_of after) (one_line first)
    ∙ ap (λ text. (line_text first ++ text) ++ text_of after) (lines-of line_of xs)
    ∙ append_assoc (line_text first) (flat_map (λ x. line_text (line_of x)) xs) (text_of after)

pub schedule-text : (config : Config) (entries : List Entry) → text_of (schedule_lines config entries) ≡ line_text (header_line config) ++ (flat_map (λ e. line_text (entry_line e)) entries ++ line_text (end_line (length entries)))
unfolding schedule_lines
schedule-text config entries =
    framed (header_line config) entry_line entries (end_line (length entries) ∷ [])
    ∙ ap (λ text. line_text (header_line config) ++ (flat_map (λ e. line_text (entry_line e)) entries ++ text)) (one_line (end_line (length entries)))
