-- The text of a summary, line by line, and the total of a list of events.
use Rattle.pct_names.proofs.Names.{◌+◌, ◌++◌, ◌<◌, [], ap, decimal, emitted, Event, get_or, keyword_text, length, line_text, List}
use Rattle.pct_names.proofs.Names.{option_map_or, reverse, reverse-append, rounds_of, summary_lines, take, take_more, text_of, threads_of}
use Rattle.pct_names.proofs.Names.{total_of, Verdict, verdict_line, ℕ, ◌∙◌, ◌∷◌, ◌≡◌}
use Rattle.std.proofs.Common.{append-nil}
use Rattle.pct_model.specs.declared.keyword.Keyword.TheVariants as keyword

-- the lines before the verdict, and a text after them
abbrev pub numbers_then : ℕ → ℕ → ℕ → List ℕ → List ℕ
numbers_then number steps total rest =
    line_text (keyword_text keyword.Demo ∷ decimal number ∷ [])
    ++ (line_text (keyword_text keyword.Threads ∷ decimal (threads_of number) ∷ [])
    ++ (line_text (keyword_text keyword.Rounds ∷ decimal (rounds_of number) ∷ [])
    ++ (line_text (keyword_text keyword.Steps ∷ decimal steps ∷ [])
    ++ (line_text (keyword_text keyword.Total ∷ decimal total ∷ []) ++ rest))))

pub summary-text : (number steps total : ℕ) (v : Verdict) → text_of (summary_lines number steps total v) ≡ numbers_then number steps total (line_text (verdict_line v))
unfolding summary_lines
summary-text number steps total v = ap (numbers_then number steps total) (append-nil (line_text (verdict_line v)))

-- one event more
pub total-more : (events : List Event) (i : ℕ) (d : Event) → i < length events
    → total_of (reverse (take (i + 1) events)) ≡ option_map_or (λ value. value) (emitted (get_or events i d).what) (total_of (reverse (take i events)))
unfolding total_of
total-more events i d within = ap (λ (es : List Event). total_of (reverse es)) (take_more events i d within) ∙ ap total_of (reverse-append (take i events) (get_or events i d ∷ []))
