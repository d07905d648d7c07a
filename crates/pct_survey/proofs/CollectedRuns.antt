-- Results that are all `Ok`, and lists that are made of parts.
use Rattle.std.proofs.Common.{◌≡◌, ◌++◌, List, [], ◌∷◌, map, IfOk, ap, arith, subst, sym, max, Bor, ℕ, ◌<◌, ◌∙◌}
use Rattle.std.specs.Prelude.{Result, Ok}
use Rattle.std.specs.List.{AllZip, flat_map}
use Rattle.rayon.specs.Lists.{chunks_of}
use Rattle.rayon.proofs.ToStd.{chunks_of-concat}

module _ {X Y : Type 0} (E : Type 0) (R : X → Y → Type 0) where
  -- where each result is `Ok` with a fact of its item, the values have it
  all_ok : (xs : List X) (ys : List Y) → AllZip (λ x (r : Result Y E). IfOk r (R x)) xs (map Ok ys) → AllZip R xs ys
  all_ok [] [] h = tt
  all_ok [] (y ∷ ys) h = absurd h
  all_ok (x ∷ xs) [] h = absurd h
  all_ok (x ∷ xs) (y ∷ ys) h = (h.0, all_ok xs ys h.1)

pub all_zip-append : {X Y : Type 0} (R : X → Y → Type 0) (xs more : List X) (ys others : List Y) → AllZip R xs ys → AllZip R more others → AllZip R (xs ++ more) (ys ++ others)
all_zip-append R [] more [] others x y = y
all_zip-append R [] more (b ∷ ys) others x y = absurd x
all_zip-append R (a ∷ xs) more [] others x y = absurd x
all_zip-append R (a ∷ xs) more (b ∷ ys) others x y = (x.0, all_zip-append R xs more ys others x.1 y)

module _ {X Y V : Type 0} (R : X → Y → Type 0) (items : V → List Y) where
  -- where each part has a fact of its chunk, all parts have it of all chunks
  all_parts : (chunks : List (Bor (List X))) (parts : List V) → AllZip (λ (z : Bor (List X)) v. AllZip R z.now (items v)) chunks parts
      → AllZip R (flat_map (λ l. l) (map (λ (z : Bor (List X)). z.now) chunks)) (flat_map items parts)
  all_parts [] [] h = tt
  all_parts [] (v ∷ parts) h = absurd h
  all_parts (z ∷ chunks) [] h = absurd h
  all_parts (z ∷ chunks) (v ∷ parts) h = all_zip-append R z.now (flat_map (λ l. l) (map (λ (y : Bor (List X)). y.now) chunks)) (items v) (flat_map items parts) h.0 (all_parts chunks parts h.1)

module _ {X Y V W : Type 0} (E : Type 0) (R : X → Y → Type 0) (items : V → List Y) (parts : W → List V) where
  -- what is collected of the chunks of a list has the fact of the list
  pub all_collected : (w : W) (xs : List X) (size : ℕ) (chunks : List (Bor (List X))) (rs : List (Result V E)) → map (λ (z : Bor (List X)). z.now) chunks ≡ chunks_of (max size 1) xs
      → AllZip (λ (z : Bor (List X)) (r : Result V E). IfOk r (λ v. AllZip R z.now (items v))) chunks rs
      → (vs : List V) × (rs ≡ map Ok vs) × (parts w ≡ vs)
      → AllZip R xs (flat_map items (parts w))
  all_collected w xs size chunks rs shown each h =
      let some : 0 < max size 1 = omega arith in
      let ok = all_ok E (λ (z : Bor (List X)) (v : V). AllZip R z.now (items v)) chunks h.0 (subst (λ (l : List (Result V E)). AllZip (λ (z : Bor (List X)) (r : Result V E). IfOk r (λ v. AllZip R z.now (items v))) chunks l) h.1 each) in
      let whole : flat_map (λ l. l) (map (λ (z : Bor (List X)). z.now) chunks) ≡ xs = ap (flat_map (λ l. l)) shown ∙ chunks_of-concat (max size 1) xs some in
      subst (λ (vs : List V). AllZip R xs (flat_map items vs)) (sym h.2)
      (subst (λ (l : List X). AllZip R l (flat_map items h.0)) whole (all_parts R items chunks h.0 ok))
