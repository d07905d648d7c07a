use Rattle.std.proofs.Common.{ℕ, ◌<◌, List, ◌∙◌, ap, arith}
use Rattle.pct_stack.specs.Rows.{BlockWords, Rows, with_word, rows_of}
use Rattle.pct_stack.proofs.RowLemmas.{count_of, within, rows_of-set}
use Rattle.pct_stack.proofs.grid.Grid.set_word.Goals as goal

pub set-requires : goal.set-requires
set-requires c =
    let s = c.self.inside in
    let row : c.args.row < s.rows = omega (arith, c.requires.row, count_of s.room s.rows s.width s.words.words c.args.self.now c.self.view_is) in
    let i : c.args.i < s.width = omega (arith, c.requires.i, ap (λ (g : Rows). g.width) c.self.view_is) in
    omega (arith, within s.rows s.width c.args.row c.args.i row i, c.self.invariant.0)

pub returns : goal.returns
returns c =
    let s = c.self.inside in
    let row : c.args.row < s.rows = omega (arith, c.requires.row, count_of s.room s.rows s.width s.words.words c.args.self.now c.self.view_is) in
    let i : c.args.i < s.width = omega (arith, c.requires.i, ap (λ (g : Rows). g.width) c.self.view_is) in
    ap (λ (words : BlockWords). record { room = s.room; width = s.width; rows = rows_of s.rows s.width words.words }) c.set.ensures
    ∙ ap (λ (rows : List (List ℕ)). record { room = s.room; width = s.width; rows = rows }) (rows_of-set s.rows s.width s.words.words c.args.row c.args.i c.args.value row i)
    ∙ ap (with_word c.args.row c.args.i c.args.value) c.self.view_is
