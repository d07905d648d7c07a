-- Events whose key is not the one that a pattern asks for are not matched.
use Rattle.pct_names.proofs.Names.{◌&&◌, ◌||◌, [], ap, Bool, bytes_eq, codes, false, false_from_ne_true, if◌then◌else◌, List, None, none-some, refl, same_Some, Some, sym, true, ℕ, ◌∙◌, ◌∷◌, ◌≡◌}
use Rattle.pct_model.proofs.Bytes.{same_bytes}
use Rattle.pct_expect.specs.Events.{matches, word_matches}
use Rattle.pct_expect.specs.Keys.{asked_key, asked_of, event_key, key_of}

asks : (key k : ℕ) (star : Bool) → (if star then None else Some key) ≡ Some k → (star ≡ false) × (key ≡ k)
asks key k true e = absurd (none-some k e)
asks key k false e = (refl, same_Some key k e)

word_refused : (asked word : List ℕ) (k : ℕ) → asked_of asked ≡ Some k → (key_of word ≡ k → ⊥) → word_matches asked word ≡ false
word_refused asked word k e other =
    let a = asks (key_of asked) k (bytes_eq asked (codes "*")) e in
    ap (λ (t : Bool). t || bytes_eq asked word) a.0
    ∙ false_from_ne_true (bytes_eq asked word) (λ same. other (ap key_of (sym (same_bytes asked word same)) ∙ a.1))

stays_false : (a b : Bool) → b ≡ false → (a && b) ≡ false
stays_false true b e = e
stays_false false b e = refl

pub refused : (pattern words : List (List ℕ)) (k : ℕ) → asked_key pattern ≡ Some k → (event_key words ≡ k → ⊥) → matches pattern words ≡ false
unfolding asked_key event_key matches
refused [] words k e other = absurd (none-some k e)
refused (asked ∷ []) words k e other = absurd (none-some k e)
refused (asked ∷ second ∷ pattern) [] k e other = refl
refused (asked ∷ second ∷ pattern) (word ∷ []) k e other = stays_false (word_matches asked word) false refl
refused (asked ∷ second ∷ pattern) (word ∷ next ∷ words) k e other =
    stays_false (word_matches asked word) (word_matches second next && matches pattern words)
    (ap (λ (t : Bool). t && matches pattern words) (word_refused second next k e other))
