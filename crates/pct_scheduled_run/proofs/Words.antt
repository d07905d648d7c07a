-- The words of a stream, drawn two by two.
use Rattle.pct_names.proofs.Names.{◌*◌, ◌+◌, ap, arith, refl, suc, sym, zero, ℕ, ◌∙◌, ◌≡◌}
use Rattle.rand_pcg.specs.Lcg.{Lcg}
use Rattle.rand_pcg.specs.Pcg.{pcg32}
use Rattle.pct_scheduled_run.specs.Streams.{after_words, draws, word_at}

after_words-next : (k : ℕ) (g : Lcg) → after_words k (pcg32 g).1 ≡ after_words (suc k) g
unfolding after_words
after_words-next zero g = refl
after_words-next (suc k) g = ap (λ (x : Lcg). (pcg32 x).1) (after_words-next k g)

-- a word is that of the generator after the words before it
word_at-is : (g : Lcg) (k : ℕ) → word_at g k ≡ (pcg32 (after_words k g)).0
unfolding word_at after_words
word_at-is g zero = refl
word_at-is g (suc k) = word_at-is (pcg32 g).1 k ∙ ap (λ (x : Lcg). (pcg32 x).0) (after_words-next k g)

-- the words of a turn are the first two after those of the turns before it
two_words : (g : Lcg) → draws g 0 ≡ ((pcg32 g).0, (pcg32 (pcg32 g).1).0)
unfolding word_at
two_words g = refl

pub draws_after : (g : Lcg) (turn : ℕ) → draws (after_words (2 * turn) g) 0 ≡ draws g turn
unfolding after_words
draws_after g turn =
    let before : Lcg = after_words (2 * turn) g in
    let second : suc (2 * turn) ≡ 2 * turn + 1 = omega arith in
    two_words before
    ∙ ap (λ (a : ℕ). (a, (pcg32 (pcg32 before).1).0)) (sym (word_at-is g (2 * turn)))
    ∙ ap (λ (b : ℕ). (word_at g (2 * turn), b)) (sym (word_at-is g (suc (2 * turn))) ∙ ap (word_at g) second)

-- and after them are those of the next turn
pub words_next : (g now then : Lcg) (turn : ℕ) → now ≡ after_words (2 * turn) g → then ≡ after_words 2 now → then ≡ after_words (2 * (turn + 1)) g
unfolding after_words
words_next g now then turn is drawn =
    let more : suc (suc (2 * turn)) ≡ 2 * (turn + 1) = omega arith in
    drawn ∙ ap (after_words 2) is ∙ ap (λ (k : ℕ). after_words k g) more

pub no_words : (g : Lcg) → after_words 0 g ≡ g
unfolding after_words
no_words g = refl

pub draws_rest : (g : Lcg) (turn : ℕ) → draws (after_words 2 g) turn ≡ draws g (suc turn)
unfolding word_at after_words
draws_rest g turn =
    let first : suc (suc (2 * turn)) ≡ 2 * suc turn = omega arith in
    let second : suc (suc (2 * turn + 1)) ≡ 2 * suc turn + 1 = omega arith in
    ap (λ (k : ℕ). (word_at g k, word_at g (suc (suc (2 * turn + 1))))) first ∙ ap (λ (k : ℕ). (word_at g (2 * suc turn), word_at g k)) second
