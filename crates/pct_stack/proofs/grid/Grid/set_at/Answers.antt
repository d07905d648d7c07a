use Rattle.std.proofs.Common.{◌≡◌, ℕ, ◌<◌, ◌+◌, ◌-◌, ◌*◌, List, set, ◌∙◌, ap, arith}
use Rattle.pct_stack.specs.Rows.{BlockWords, Rows, with_word, rows_of}
use Rattle.pct_stack.proofs.RowLemmas.{count_of, within, rows_of-set}
use Rattle.pct_stack.proofs.grid.Grid.set_at.Goals as goal

pub set-requires : goal.set-requires
set-requires c =
    let s = c.self.inside in
    let row : c.args.row < s.rows = omega (arith, c.requires.row, count_of s.room s.rows s.width s.words.words c.args.self.now c.self.view_is) in
    let width : s.width ≡ c.args.self.now.width = ap (λ (g : Rows). g.width) c.self.view_is in
    let product : c.args.row * s.width ≡ c.args.row * c.args.self.now.width = ap (λ w. c.args.row * w) width in
    let i : ℕ = c.args.index - c.args.row * c.args.self.now.width in
    let small : i < s.width = omega (arith, c.requires.from, c.requires.to, width) in
    omega (arith, within s.rows s.width c.args.row i row small, c.self.invariant.0, product, c.requires.from)

pub returns : goal.returns
returns c =
    let s = c.self.inside in
    let row : c.args.row < s.rows = omega (arith, c.requires.row, count_of s.room s.rows s.width s.words.words c.args.self.now c.self.view_is) in
    let width : s.width ≡ c.args.self.now.width = ap (λ (g : Rows). g.width) c.self.view_is in
    let product : c.args.row * s.width ≡ c.args.row * c.args.self.now.width = ap (λ w. c.args.row * w) width in
    let i : ℕ = c.args.index - c.args.row * c.args.self.now.width in
    let small : i < s.width = omega (arith, c.requires.from, c.requires.to, width) in
    let value : ℕ = c.args.value in
    ap (λ (words : BlockWords). record { room = s.room; width = s.width; rows = rows_of s.rows s.width words.words }) c.set.ensures
    ∙ ap (λ p. record { room = s.room; width = s.width; rows = rows_of s.rows s.width (set s.words.words p value) }) {x = c.args.index} {y = c.args.row * s.width + i} (omega (arith, product, c.requires.from))
    ∙ ap (λ (rows : List (List ℕ)). record { room = s.room; width = s.width; rows = rows }) (rows_of-set s.rows s.width s.words.words c.args.row i value row small)
    ∙ ap (with_word c.args.row i value) c.self.view_is
