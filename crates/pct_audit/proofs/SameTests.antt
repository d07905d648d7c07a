-- Tests that pass together.
use Rattle.std.proofs.Common.{◌≡◌, Bool, true, false, refl, sym}

-- two tests, each of which passes if the other one does
pub same_tests : (a b : Bool) → (a ≡ true → b ≡ true) → (b ≡ true → a ≡ true) → a ≡ b
same_tests true b there back = sym (there refl)
same_tests false true there back = back refl
same_tests false false there back = refl
