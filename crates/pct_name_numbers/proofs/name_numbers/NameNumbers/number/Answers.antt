-- The answers for `number`.
use Rattle.std.proofs.lemmas.Map.Text.{btree_map_updates_str}
use Rattle.pct_names.proofs.Names.{◌≡◌, ℕ, ◌+◌, List, Some, None, index_among, sym, ap, ◌∙◌}
use Rattle.pct_name_numbers.specs.Numbering.{IsNumbering}
use Rattle.pct_name_numbers.proofs.IndexLemmas.{index_after, length-grown, index_of_new}
use Rattle.pct_name_numbers.proofs.name_numbers.NameNumbers.number.Goals as goal

absent : (c : goal.After-self-1) (names : List (List ℕ)) → IsNumbering c.args.self.now names → index_among names c.args.name.now ≡ None
absent c names table = sym (table.numbers c.args.name.now) ∙ sym c.in-None.ensures.value

pub returns-in_ok-insert-in-None-clause-number : goal.returns-in_ok-insert-in-None-clause-number
returns-in_ok-insert-in-None-clause-number c = λ names table.
    ap (λ (n : ℕ). Some n) table.count ∙ sym (index_of_new names c.args.name.now (absent c names table))

pub returns-in_ok-insert-in-None-clause-names : goal.returns-in_ok-insert-in-None-clause-names
returns-in_ok-insert-in-None-clause-names c = λ names table.
    let none = absent c names table in
    record {
      numbers = λ q. index_after names c.args.name.now none q c.args.self.now.count _ _ table.count (table.numbers q)
          (btree_map_updates_str c.args.name.now c.args.self.now.numbers c.insert.new.self _ c.in_ok-insert-in-None.ensures.updates q);
      count = ap (λ (n : ℕ). n + 1) table.count ∙ sym (length-grown names c.args.name.now none);
    }
