use Rattle.std.proofs.Common.{◌<◌, length, ◌∙◌, ap, arith, replicate, suc-mul, suc, ◌*◌, ◌≤◌}
use Rattle.std.proofs.Math.Nat.{mul-le-mul_right}
use Rattle.pct_stack.specs.Rows.{BlockWords, Rows, with_row, rows_of}
use Rattle.pct_stack.proofs.RowLemmas.{count_of, cleared-row, length-set_from}
use Rattle.pct_stack.proofs.grid.Grid.clear.Goals as goal

pub clear-requires : goal.clear-requires
clear-requires c =
    let s = c.self.inside in
    let row : c.args.row < s.rows = omega (arith, c.requires, count_of s.room s.rows s.width s.words.words c.args.self.now c.self.view_is) in
    let rows : suc c.args.row * s.width ≤ s.rows * s.width = mul-le-mul_right s.width (omega (arith, row)) in
    omega (arith, rows, suc-mul c.args.row s.width, c.self.invariant.0)

pub invariant_of-self : goal.invariant_of-self
invariant_of-self c =
    let s = c.self.inside in
    (ap (λ (w : BlockWords). length w.words) c.clear.ensures ∙ length-set_from 0 (c.args.row * s.width) s.width s.words.words ∙ c.self.invariant.0, c.self.invariant.1, c.self.invariant.2, ap (λ (w : BlockWords). w.room) c.clear.ensures ∙ c.self.invariant.3, c.self.invariant.4)

pub returns : goal.returns
returns c =
    let s = c.self.inside in
    let row : c.args.row < s.rows = omega (arith, c.requires, count_of s.room s.rows s.width s.words.words c.args.self.now c.self.view_is) in
    ap (λ (words : BlockWords). record { room = s.room; width = s.width; rows = rows_of s.rows s.width words.words }) c.clear.ensures
    ∙ cleared-row s.room s.rows s.width s.words.words c.self.invariant.0 c.args.row row
    ∙ ap (λ (g : Rows). with_row c.args.row (replicate g.width 0) g) c.self.view_is
