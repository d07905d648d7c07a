use Rattle.std.proofs.Common.{◌<◌, ◌∙◌, ap, sym, arith}
use Rattle.pct_stack.specs.Rows.{Rows, word_at}
use Rattle.pct_stack.proofs.RowLemmas.{count_of, within, rows_of-word}
use Rattle.pct_stack.proofs.grid.Grid.word.Goals as goal

pub get-requires : goal.get-requires
get-requires c =
    let s = c.self.inside in
    let row : c.args.row < s.rows = omega (arith, c.requires.row, count_of s.room s.rows s.width s.words.words c.args.self.now c.self.view_is) in
    let i : c.args.i < s.width = omega (arith, c.requires.i, ap (λ (g : Rows). g.width) c.self.view_is) in
    omega (arith, within s.rows s.width c.args.row c.args.i row i, c.self.invariant.0)

pub returns : goal.returns
returns c =
    let s = c.self.inside in
    let row : c.args.row < s.rows = omega (arith, c.requires.row, count_of s.room s.rows s.width s.words.words c.args.self.now c.self.view_is) in
    let i : c.args.i < s.width = omega (arith, c.requires.i, ap (λ (g : Rows). g.width) c.self.view_is) in
    c.get.ensures ∙ sym (rows_of-word s.rows s.width s.words.words c.args.row c.args.i row i) ∙ ap (λ (g : Rows). word_at g c.args.row c.args.i) c.self.view_is
