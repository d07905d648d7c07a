-- What workers know goes on to agree with a history that grows.
use Rattle.pct_names.proofs.Names.{◌++◌, [], ap, Entry, false, length, List, map, map-append, nat_eq, refl, sym, true, ℕ, ◌∙◌, ◌∷◌, ◌≡◌}
use Rattle.std.proofs.Common.{append-nil}
use Rattle.std.proofs.lemmas.List.{append_assoc}
use Rattle.pct_shared.specs.declared.view.Opening.{Opening}
use Rattle.pct_shared.specs.declared.view.Known.{Known}
use Rattle.pct_shared.specs.Views.{IsPrefix, known_first, opened, own, places}
use Rattle.pct_shared.specs.TurnRule.{Agrees}
use Rattle.pct_shared.proofs.OwnEntries.{prefix_refl, prefix_more, prefix_trans, own_more, own_other, places_more, places_other}

-- a worker without an entry past the opening, which has seen just that
pub agrees_first : (o : Opening) (history : List Entry) (number : ℕ) → IsPrefix (opened o).history history → own number history ≡ own number (opened o).history → places number history ≡ places number (opened o).history → Agrees o history (known_first o number)
agrees_first o history number front same placed = record {
  seen = front;
  start = prefix_refl (opened o).history;
  own_seen = refl;
  own_all = sym same;
  places = append-nil (places number (opened o).history) ∙ sym placed;
}

-- a worker that has seen the whole history
pub agrees_seen : (o : Opening) (history : List Entry) (k : Known) → Agrees o history k → Agrees o history (record k { seen = history })
agrees_seen o history k a = record {
  seen = prefix_refl history;
  start = prefix_trans (opened o).history k.seen history a.start a.seen;
  own_seen = a.own_all;
  own_all = a.own_all;
  places = a.places;
}

-- another worker made an entry
pub agrees_other : (o : Opening) (history : List Entry) (k : Known) (e : Entry) → Agrees o history k → nat_eq e.worker k.number ≡ false → Agrees o (history ++ e ∷ []) k
agrees_other o history k e a other = record {
  seen = prefix_more k.seen history (e ∷ []) a.seen;
  start = a.start;
  own_seen = a.own_seen;
  own_all = a.own_all ∙ sym (own_other k.number history e other);
  places = a.places ∙ sym (places_other k.number history e other);
}

-- the worker itself made one, at a take with this number
pub agrees_mine : (o : Opening) (history : List Entry) (k : Known) (e : Entry) (take : ℕ) → Agrees o history k → nat_eq e.worker k.number ≡ true
    → Agrees o (history ++ e ∷ []) (record { number = k.number; seen = history ++ e ∷ []; mine = k.mine ++ e ∷ []; at = k.at ++ (length history, take) ∷ [] })
agrees_mine o history k e take a mine =
    let own_now : k.mine ++ e ∷ [] ≡ own k.number (history ++ e ∷ []) = ap (λ (l : List Entry). l ++ e ∷ []) a.own_all ∙ sym (own_more k.number history e mine) in
    record {
      seen = prefix_refl (history ++ e ∷ []);
      start = prefix_more (opened o).history history (e ∷ []) (prefix_trans (opened o).history k.seen history a.start a.seen);
      own_seen = own_now;
      own_all = own_now;
      places =
          ap (λ (l : List ℕ). places k.number (opened o).history ++ l) (map-append (λ (pair : ℕ × ℕ). pair.0) k.at ((length history, take) ∷ []))
          ∙ sym (append_assoc (places k.number (opened o).history) (map (λ (pair : ℕ × ℕ). pair.0) k.at) (length history ∷ []))
          ∙ ap (λ (l : List ℕ). l ++ length history ∷ []) a.places
          ∙ sym (places_more k.number history e mine);
    }
