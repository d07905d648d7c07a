-- The digits of the digest of a script.
use Rattle.pct_names.proofs.Names.{◌%◌, ◌*◌, ◌/◌, ◌<◌, ◌≡◌, ◌∙◌, ◌∷◌, [], and_from, and_parts, ap, arith, Bool, length, List, list_all-append, nat_eq, nat_lt, refl, slice_index, suc, true, zero, ℕ}
use Rattle.std.proofs.Common.{eq-eqb, lt-ltb}
use Rattle.std.proofs.lemmas.Bool.{agree_below_at, ltb-true}
use Rattle.std.specs.Int.{byte_at, bytes_high_first, to_be_bytes, w32}
use Rattle.std.specs.List.{list_all}
use Rattle.hex.specs.Hex.{encode_lower, encode_with, lower_digits}
use Rattle.hex.proofs.HexLemmas.{length-encode_with}
use Rattle.sha2.specs.Sha256.{digest_bytes, final_hash, initial_hash_256, sha256}
use Rattle.sha2.proofs.Facts256.{length-sha256}
use Rattle.pct_tallies.specs.Readings.{is_digest, is_hex}

digit_is_hex : (d : ℕ) → d < 16 → is_hex (slice_index lower_digits d) ≡ true
digit_is_hex d low = agree_below_at (λ n. is_hex (slice_index lower_digits n)) (λ n. true) 16 d refl low

abbrev is_byte : ℕ → Bool
is_byte b = nat_lt b 256

bytes_in_hex : (bytes : List ℕ) → list_all is_byte bytes ≡ true → list_all is_hex (encode_lower bytes) ≡ true
unfolding encode_with
bytes_in_hex [] are = refl
bytes_in_hex (b ∷ bytes) are =
    let parts = and_parts (is_byte b) (list_all is_byte bytes) are in
    let below = ltb-true b 256 parts.0 in
    let high : is_hex (slice_index lower_digits (b / 16)) ≡ true = digit_is_hex (b / 16) (omega (arith, below)) in
    let low : is_hex (slice_index lower_digits (b % 16)) ≡ true = digit_is_hex (b % 16) (omega arith) in
    and_from (is_hex (slice_index lower_digits (b / 16))) (list_all is_hex (slice_index lower_digits (b % 16) ∷ encode_lower bytes)) high
    (and_from (is_hex (slice_index lower_digits (b % 16))) (list_all is_hex (encode_lower bytes)) low (bytes_in_hex bytes parts.1))

byte_is : (k n : ℕ) → is_byte (byte_at k n) ≡ true
byte_is zero n = lt-ltb (byte_at zero n) 256 (omega arith)
byte_is (suc k) n = lt-ltb (byte_at (suc k) n) 256 (omega arith)

bytes_are : (k n : ℕ) → list_all is_byte (bytes_high_first k n) ≡ true
bytes_are zero n = refl
bytes_are (suc k) n = and_from (is_byte (byte_at k n)) (list_all is_byte (bytes_high_first k n)) (byte_is k n) (bytes_are k n)

digest_in_bytes : (h : List ℕ) (n : ℕ) → list_all is_byte (digest_bytes h n) ≡ true
unfolding digest_bytes
digest_in_bytes h zero = refl
digest_in_bytes h (suc n) =
    list_all-append is_byte (digest_bytes h n) (to_be_bytes w32 (slice_index h n))
    ∙ and_from (list_all is_byte (digest_bytes h n)) (list_all is_byte (to_be_bytes w32 (slice_index h n))) (digest_in_bytes h n) (bytes_are 4 (slice_index h n))

sha_in_bytes : (m : List ℕ) → list_all is_byte (sha256 m) ≡ true
unfolding sha256
sha_in_bytes m = digest_in_bytes (final_hash initial_hash_256 m) 8

-- the text of a digest has 64 lower-case hexadecimal digits
pub digest_is_written : (m : List ℕ) → is_digest (encode_lower (sha256 m)) ≡ true
digest_is_written m =
    let digits = encode_lower (sha256 m) in
    and_from (nat_eq (length digits) 64) (list_all is_hex digits) (eq-eqb (length digits) 64 (length-encode_with lower_digits (sha256 m) ∙ ap (λ (n : ℕ). 2 * n) (length-sha256 m))) (bytes_in_hex (sha256 m) (sha_in_bytes m))
