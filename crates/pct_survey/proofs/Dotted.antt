-- Bytes that begin with others, and two numbers with a dot between them.
use Rattle.pct_names.proofs.Names.{◌&&◌, ◌++◌, [], ap, ap₂, Bool, bytes_eq, drop, false, length, List, nat_eq, refl, sym, take, true, ℕ, ◌∙◌, ◌∷◌, ◌≡◌}

and_again : (a b c : Bool) → (a && (b && c)) ≡ ((a && b) && c)
and_again true b c = refl
and_again false b c = refl

-- bytes are two lists one after the other where each part is
pub two_parts : (bytes a ys : List ℕ) → bytes_eq bytes (a ++ ys) ≡ (bytes_eq (take (length a) bytes) a && bytes_eq (drop (length a) bytes) ys)
two_parts bytes [] ys = refl
two_parts [] (x ∷ a) ys = refl
two_parts (b ∷ bytes) (x ∷ a) ys = ap (λ (t : Bool). nat_eq b x && t) (two_parts bytes a ys) ∙ and_again (nat_eq b x) (bytes_eq (take (length a) bytes) a) (bytes_eq (drop (length a) bytes) ys)

module _ (bytes a ys : List ℕ) where
  -- they do not begin with the first
  pub not_begun : bytes_eq (take (length a) bytes) a ≡ false → false ≡ bytes_eq bytes (a ++ ys)
  not_begun lacks = sym (two_parts bytes a ys ∙ ap (λ (t : Bool). t && bytes_eq (drop (length a) bytes) ys) lacks)

  -- they do, and these are the rest
  begun : (rest : List ℕ) → bytes_eq (take (length a) bytes) a ≡ true → rest ≡ drop (length a) bytes → bytes_eq rest ys ≡ bytes_eq bytes (a ++ ys)
  begun rest is same = sym (two_parts bytes a ys ∙ ap₂ (λ (t : Bool) (left : List ℕ). t && bytes_eq left ys) is (sym same))

  pub none_left : (rest : List ℕ) (y : ℕ) (others : List ℕ) → ys ≡ y ∷ others → bytes_eq (take (length a) bytes) a ≡ true → rest ≡ drop (length a) bytes → rest ≡ [] → false ≡ bytes_eq bytes (a ++ ys)
  none_left rest y others is_y is same none = ap₂ bytes_eq (sym none) (sym is_y) ∙ begun rest is same

  pub some_left : (rest after others : List ℕ) (b y : ℕ) → ys ≡ y ∷ others → bytes_eq (take (length a) bytes) a ≡ true → rest ≡ drop (length a) bytes → rest ≡ b ∷ after
      → (nat_eq b y && bytes_eq after others) ≡ bytes_eq bytes (a ++ ys)
  some_left rest after others b y is_y is same some = ap₂ bytes_eq (sym some) (sym is_y) ∙ begun rest is same
