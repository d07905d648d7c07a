-- The places that are kept, of those from the first on: they become the first ones, in their order.
use Rattle.pct_names.proofs.Names.{◌+◌, ◌++◌, ◌<◌, [], ap, arith, drop, drop-set-lt, drop_more, drop_more_same, flat_map, get_or, length}
use Rattle.pct_names.proofs.Names.{List, slice_set, subst, swap, swap_is, sym, take, take-set-le, take_more, take_more_set, ℕ, ◌∙◌, ◌∷◌}
use Rattle.pct_names.proofs.Names.{◌≡◌, ◌≤◌}
use Rattle.std.proofs.Common.{append-nil}
use Rattle.std.proofs.lemmas.List.{get_or-set_same, length-set}
use Rattle.std.proofs.lemmas.Grind.{flat_map-append}
use Rattle.pct_engine_laws.specs.Seen.{SeenProcess}

-- those before an index were gone through
pub record IsKeptTo (f : SeenProcess → List SeenProcess) (kept index : ℕ) (old now : List SeenProcess) : Type 0 where
  pub few : kept ≤ index
  pub all : length now ≡ length old
  pub done : take kept now ≡ flat_map f (take index old)
  pub rest : drop index now ≡ drop index old

module _ (f : SeenProcess → List SeenProcess) (kept index : ℕ) (old now : List SeenProcess) (p q : SeenProcess) (within : index < length now) (to : IsKeptTo f kept index old now) (at : p ≡ get_or now index p) where
  -- what is kept of those before the next index
  taken : take kept now ++ f p ≡ flat_map f (take (index + 1) old)
  taken =
      let same : p ≡ get_or old index p = cc (drop_more now index p within, drop_more old index p (omega (arith, to.all))) in
      ap (λ (ps : List SeenProcess). ps ++ f p) to.done
      ∙ ap (λ (x : SeenProcess). flat_map f (take index old) ++ f x) same
      ∙ ap (λ (ps : List SeenProcess). flat_map f (take index old) ++ ps) (sym (append-nil (f (get_or old index p))))
      ∙ sym (flat_map-append f (take index old) (get_or old index p ∷ []))
      ∙ ap (flat_map f) (sym (take_more old index p (omega (arith, to.all))))

  -- the next one is not kept
  pub none_kept : f p ≡ [] → IsKeptTo f kept (index + 1) old (slice_set now index q)
  none_kept none = record {
    few = omega (arith, to.few);
    all = length-set now index q ∙ to.all;
    done = take-set-le kept now index q to.few ∙ sym (append-nil (take kept now)) ∙ ap (λ (ps : List SeenProcess). take kept now ++ ps) (sym none) ∙ taken;
    rest = drop-set-lt (index + 1) now index q (omega (arith)) ∙ drop_more_same now old index to.rest;
  }

  -- the next one is kept
  pub one_kept : f p ≡ q ∷ [] → IsKeptTo f (kept + 1) (index + 1) old (swap (slice_set now index q) index kept)
  one_kept one =
      let first : SeenProcess = get_or (slice_set now index q) kept p in
      let moved : List SeenProcess = slice_set (slice_set now index q) index first in
      let long : length (slice_set now index q) ≡ length now = length-set now index q in
      let more : length moved ≡ length now = length-set (slice_set now index q) index first ∙ long in
      let is : swap (slice_set now index q) index kept ≡ slice_set moved kept q =
      sym (swap_is (slice_set now index q) index kept p (omega (arith, long, within)) (omega (arith, long, within, to.few)))
      ∙ ap (slice_set moved kept) (get_or-set_same now index q p within) in
      let next : IsKeptTo f (kept + 1) (index + 1) old (slice_set moved kept q) = record {
        few = omega (arith, to.few);
        all = length-set moved kept q ∙ more ∙ to.all;
        done =
            take_more_set moved kept q (omega (arith, more, within, to.few))
            ∙ ap (λ (ps : List SeenProcess). ps ++ q ∷ []) (take-set-le kept (slice_set now index q) index first to.few ∙ take-set-le kept now index q to.few)
            ∙ ap (λ (ps : List SeenProcess). take kept now ++ ps) (sym one)
            ∙ taken;
        rest =
            drop-set-lt (index + 1) moved kept q (omega (arith, to.few))
            ∙ drop-set-lt (index + 1) (slice_set now index q) index first (omega (arith))
            ∙ drop-set-lt (index + 1) now index q (omega (arith))
            ∙ drop_more_same now old index to.rest;
      } in
      subst (IsKeptTo f (kept + 1) (index + 1) old) (sym is) next
