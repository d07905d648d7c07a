use Rattle.pct_names.proofs.Names.{◌++◌, ap, arith, drop_all, KeyValues, length, List, map, map_over_more, no_values, refl, splat_is_map}
use Rattle.pct_names.proofs.Names.{sym, take, take_all, ◌∙◌}
use Rattle.std.proofs.lemmas.List.{append-nil}
use Rattle.pct_keys.proofs.row.clear_rows.Goals as goal

pub loop-row-preserved : goal.loop-row-preserved
loop-row-preserved c =
    rw c.clear_all.ensures
    (map_over_more (λ _. no_values) c.args.rows.now c.loop-row.rows c.loop-row.row-index c.row-item.result c.loop-row-test.true c.loop-row.invariant c.row-item.is)

pub returns : goal.returns
returns c =
    let P : List KeyValues → List KeyValues → List KeyValues = λ front rest. map (λ _. no_values) front ++ rest in
    c.loop-row.invariant
    ∙ ap (λ rest. P (take c.loop-row.row-index c.args.rows.now) rest) (drop_all c.loop-row.row-index c.args.rows.now (omega arith))
    ∙ append-nil (map (λ _. no_values) (take c.loop-row.row-index c.args.rows.now))
    ∙ ap (λ front. map (λ _. no_values) front) (take_all c.loop-row.row-index c.args.rows.now (omega arith))
    ∙ sym (splat_is_map c.args.rows.now (length c.args.rows.now) no_values refl)
