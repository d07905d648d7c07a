-- Numbers that rise, and the places of entries of which none has a number.
use Rattle.pct_names.proofs.Names.{◌+◌, ◌++◌, [], All, All-head, All-tail, ap, arith, Entry, false, length, List, nat_eq, refl}
use Rattle.pct_names.proofs.Names.{suc, sym, true, ℕ, ◌∙◌, ◌∷◌, ◌≡◌, ◌≢◌, ◌≤◌}
use Rattle.std.proofs.Common.{append-nil}
use Rattle.std.proofs.lemmas.Bool.{ne_eqb}
use Rattle.pct_workers.specs.Work.{RiseWithin}
use Rattle.pct_shared.specs.Views.{places, places_from}
use Rattle.pct_shared.proofs.OwnEntries.{places-append}

-- ---- numbers

-- numbers that rise to one bound rise to a higher one
pub rise_wider : (low high more : ℕ) (ns : List ℕ) → high ≤ more → RiseWithin low high ns → RiseWithin low more ns
rise_wider low high more [] wider rise = omega (arith, wider, rise)
rise_wider low high more (n ∷ ns) wider rise = (rise.0, rise_wider n high more ns wider rise.1)

-- ---- places

pub place_own : (number at : ℕ) (e : Entry) (entries : List Entry) → nat_eq e.worker number ≡ true → places_from number at (e ∷ entries) ≡ at ∷ places_from number (suc at) entries
place_own number at e entries is = rw is refl

place_other : (number at : ℕ) (e : Entry) (entries : List Entry) → nat_eq e.worker number ≡ false → places_from number at (e ∷ entries) ≡ places_from number (suc at) entries
place_other number at e entries is = rw is refl

-- entries that all have another number have no places
places_none : (number other at : ℕ) (entries : List Entry) → other ≢ number → All (λ e. e.worker ≡ other) entries → places_from number at entries ≡ []
places_none number other at [] differs others = refl
places_none number other at (e ∷ entries) differs others =
    place_other number at e entries (ne_eqb e.worker number (λ is. differs (sym (All-head (λ (x : Entry). x.worker ≡ other) e entries others) ∙ is)))
    ∙ places_none number other (suc at) entries differs (All-tail (λ (x : Entry). x.worker ≡ other) e entries others)

-- and change none before them
pub places_before : (number other : ℕ) (entries rest : List Entry) → other ≢ number → All (λ e. e.worker ≡ other) rest → places number (entries ++ rest) ≡ places number entries
places_before number other entries rest differs others =
    places-append number 0 entries rest
    ∙ ap (λ (l : List ℕ). places number entries ++ l) (places_none number other (0 + length entries) rest differs others)
    ∙ append-nil (places number entries)
