use Rattle.std.specs.Prelude.{slice_index}
use Rattle.pct_names.proofs.Names.{◌<◌, ap, arith, Bool, false, get_or, KeyValues, length, length-map, List, map, nat_eq, not, sym}
use Rattle.pct_names.proofs.Names.{with_pass, ℕ, ◌∙◌, ◌≡◌}
use Rattle.std.proofs.lemmas.List.{ext_get_or, get_or-map}
use Rattle.pct_keys.proofs.row.Row.begin_pass.Goals as goal

-- the values are those at the start, and each place with a value is marked
passed : (own : KeyValues) (values : List ℕ) (marks : List Bool) → values ≡ own.values → length marks ≡ length values → ((place : ℕ) → place < length marks → get_or marks place false ≡ not (nat_eq (get_or values place 0) 0))
    → record { values = values; in_pass = marks } ≡ with_pass own
passed own values marks same long marked =
    let all : marks ≡ map (λ value. not (nat_eq value 0)) values =
    ext_get_or false marks (map (λ value. not (nat_eq value 0)) values) (long ∙ sym (length-map values (λ value. not (nat_eq value 0)))) (λ place within.
    marked place within ∙ sym (get_or-map (λ value. not (nat_eq value 0)) values place 0 false (omega (arith, within, long)))) in
    let P : List Bool → KeyValues = λ passed. record { values = values; in_pass = passed } in
    let Q : List ℕ → KeyValues = λ start. record { values = start; in_pass = map (λ value. not (nat_eq value 0)) start } in
    ap P all ∙ ap Q same

pub invariant_of-self : goal.invariant_of-self
invariant_of-self c =
    let loop = c.loop-place.invariant in
    (loop.few, λ place past. ap (λ values. slice_index values place) loop.same ∙ loop.unset place past, λ none. absurd (loop.some none))

pub returns : goal.returns
returns c =
    let loop = c.loop-place.invariant in
    passed c.args.self.now c.loop-place.self-inside.values c.loop-place.self-inside.in_pass loop.same (omega (arith, loop.values, loop.in_pass)) (λ place within. loop.marked place (omega (arith, within, loop.in_pass)))
