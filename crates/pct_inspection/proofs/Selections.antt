-- The threads of a selection, and its words, one after the other.
use Rattle.pct_names.proofs.Names.{◌&&◌, ◌+◌, ◌<◌, ◌>>=◌, ap, arith, drop, drop_all, drop_more, false, get_or, length, List, map, None}
use Rattle.pct_names.proofs.Names.{Option, refl, Some, split_once, suc, sym, zero, ℕ, ◌∙◌, ◌∷◌, ◌≡◌, ◌≤◌}
use Rattle.pct_inspection.specs.Selections.{BegunValue, all_selected, are_threads, begun_after, is_thread, selection_asked, selection_of, with_part, with_word}

-- ---- threads

-- without a comma the text names one thread
pub last_thread : (n : ℕ) (text : List ℕ) → 0 < n → None ≡ split_once 44 text → are_threads n text ≡ is_thread text
unfolding are_threads
last_thread zero text some none = absurd (omega (arith, some))
last_thread (suc n) text some none = rw (sym none) refl

-- with a comma it names one thread and those after the comma
pub next_thread : (n m : ℕ) (text : List ℕ) (first after : List ℕ) → n ≡ suc m → Some (first, after) ≡ split_once 44 text → are_threads n text ≡ (is_thread first && are_threads m after)
unfolding are_threads
next_thread n m text first after is parts = rw (is, sym parts) refl

-- a text names no 0 threads
pub no_threads : (n : ℕ) (text : List ℕ) → n ≡ 0 → false ≡ are_threads n text
unfolding are_threads
no_threads n text none = rw none refl

-- ---- words

-- the words that are left are the next one and those after it
pub with_next_word : {X : Type 0} (f : X → List ℕ) (xs : List X) (i : ℕ) (x : X) (b : BegunValue) (r : Option BegunValue)
    → i < length xs → x ≡ get_or xs i x → r ≡ with_word b (f x) → (r >>= λ c. begun_after c (map f (drop (i + 1) xs))) ≡ begun_after b (map f (drop i xs))
unfolding begun_after
with_next_word f xs i x b r less at is =
    ap (λ (o : Option BegunValue). o >>= λ c. begun_after c (map f (drop (i + 1) xs))) is
    ∙ sym (ap (λ l. begun_after b (map f l)) (drop_more xs i x less ∙ ap (λ y. y ∷ drop (i + 1) xs) (sym at)))

-- no word is left
pub after_last_word : {X : Type 0} (f : X → List ℕ) (xs : List X) (i : ℕ) (b : BegunValue) → length xs ≤ i → Some b ≡ begun_after b (map f (drop i xs))
unfolding begun_after
after_last_word f xs i b past = rw (drop_all i xs past) refl

-- what the words ask for
pub asked_by : (o : Option BegunValue) (words : List (List ℕ)) → o ≡ begun_after (with_part all_selected) words → (o >>= selection_of) ≡ selection_asked words
unfolding selection_asked
asked_by o words is = ap (λ (b : Option BegunValue). b >>= selection_of) is
