-- Texts that are appended in several calls.
use Rattle.pct_names.proofs.Names.{◌++◌, [], ap, Err, List, Ok, OnOk, Result, ℕ, ◌∙◌, ◌≡◌}
use Rattle.std.proofs.Common.{append_assoc}

-- the same text
pub as_text : {E : Type 0} (r : Result (Unit {0}) E) (old new a b : List ℕ) → a ≡ b → OnOk r (new ≡ old ++ a) → OnOk r (new ≡ old ++ b)
as_text (Ok x) old new a b e appends = appends ∙ ap (λ text. old ++ text) e
as_text (Err f) old new a b e appends = tt

-- a text was appended, and then the next one
pub both_texts : (old mid new a b : List ℕ) → mid ≡ old ++ a → new ≡ mid ++ b → new ≡ old ++ (a ++ b)
both_texts old mid new a b first next = next ∙ ap (λ text. text ++ b) first ∙ append_assoc old a b

-- the same, where there was nothing before
pub first_texts : (start mid new a b : List ℕ) → start ≡ [] → mid ≡ start ++ a → new ≡ mid ++ b → new ≡ a ++ b
first_texts start mid new a b none first next = both_texts start mid new a b first next ∙ ap (λ text. text ++ (a ++ b)) none

-- a text was appended, and then the next one, unless memory ran out
pub then_text : {E : Type 0} (r : Result (Unit {0}) E) (old mid new a b : List ℕ) → mid ≡ old ++ a → OnOk r (new ≡ mid ++ b) → OnOk r (new ≡ old ++ (a ++ b))
then_text (Ok x) old mid new a b first next = both_texts old mid new a b first next
then_text (Err f) old mid new a b first next = tt
