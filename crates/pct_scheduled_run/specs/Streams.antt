-- The words of random generators, two for each turn of a worker.
use Rattle.std.specs.Prelude.{ℕ, zero, suc, ◌+◌, ◌*◌}
use Rattle.rand_pcg.specs.Lcg.{Lcg, started, increment_of}
use Rattle.rand_pcg.specs.Pcg.{multiplier_64, pcg32}

-- the word of a generator's stream at an index
unfoldable pub word_at : Lcg → ℕ → ℕ
word_at g zero = (pcg32 g).0
word_at g (suc k) = word_at (pcg32 g).1 k

-- the two words of each turn
abbrev pub draws : Lcg → ℕ → ℕ × ℕ
draws g turn = (word_at g (2 * turn), word_at g (2 * turn + 1))

-- the generator after some words
unfoldable pub after_words : ℕ → Lcg → Lcg
after_words zero g = g
after_words (suc k) g = (pcg32 (after_words k g)).1

-- the generator of a worker's words
unfoldable pub stream_of : ℕ → ℕ → Lcg
stream_of seed worker = started 64 multiplier_64 seed (increment_of 64 worker)
