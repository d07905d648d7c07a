use Rattle.std.proofs.Common.{◌≡◌, ℕ, ◌<◌, ◌≤◌, ◌+◌, ◌-◌, ◌*◌, suc, List, length, get_or, ◌∙◌, ap, sym, arith, suc-mul}
use Rattle.std.proofs.Math.Nat.{mul-le-mul_right}
use Rattle.std.proofs.lemmas.List.{length-drop, get_or-drop}
use Rattle.pct_stack.specs.Rows.{Rows, word_at}
use Rattle.pct_stack.proofs.RowLemmas.{count_of, rows_of-word}
use Rattle.pct_stack.proofs.grid.Grid.words_from.Goals as goal

pub from-requires-clause-within : goal.from-requires-clause-within
from-requires-clause-within c =
    let s = c.self.inside in
    let row : c.args.row < s.rows = omega (arith, c.requires.row, count_of s.room s.rows s.width s.words.words c.args.self.now c.self.view_is) in
    let rows : suc c.args.row * s.width ≤ s.rows * s.width = mul-le-mul_right s.width (omega (arith, row)) in
    let width : s.width ≡ c.args.self.now.width = ap (λ (g : Rows). g.width) c.self.view_is in
    let product : c.args.row * s.width ≡ c.args.row * c.args.self.now.width = ap (λ w. c.args.row * w) width in
    omega (arith, rows, suc-mul c.args.row s.width, c.self.invariant.0, width, product, c.requires.to)

pub returns-clause-words : goal.returns-clause-words
returns-clause-words c i inside =
    let s = c.self.inside in
    let row : c.args.row < s.rows = omega (arith, c.requires.row, count_of s.room s.rows s.width s.words.words c.args.self.now c.self.view_is) in
    let width : s.width ≡ c.args.self.now.width = ap (λ (g : Rows). g.width) c.self.view_is in
    let product : c.args.row * s.width ≡ c.args.row * c.args.self.now.width = ap (λ w. c.args.row * w) width in
    let k : ℕ = c.args.first + i - c.args.row * c.args.self.now.width in
    let small : k < s.width = omega (arith, inside, width, product, c.requires.from) in
    ap (λ (ws : List ℕ). get_or ws i 0) c.from.ensures
    ∙ get_or-drop c.args.first s.words.words i 0
    ∙ ap (λ p. get_or s.words.words p 0) {x = c.args.first + i} {y = c.args.row * s.width + k} (omega (arith, product, c.requires.from))
    ∙ sym (rows_of-word s.rows s.width s.words.words c.args.row k row small)
    ∙ ap (λ (g : Rows). word_at g c.args.row k) c.self.view_is

pub returns-clause-long : goal.returns-clause-long
returns-clause-long c =
    let s = c.self.inside in
    let row : c.args.row < s.rows = omega (arith, c.requires.row, count_of s.room s.rows s.width s.words.words c.args.self.now c.self.view_is) in
    let rows : suc c.args.row * s.width ≤ s.rows * s.width = mul-le-mul_right s.width (omega (arith, row)) in
    let width : s.width ≡ c.args.self.now.width = ap (λ (g : Rows). g.width) c.self.view_is in
    let product : c.args.row * s.width ≡ c.args.row * c.args.self.now.width = ap (λ w. c.args.row * w) width in
    let long = ap (λ (ws : List ℕ). length ws) c.from.ensures ∙ length-drop c.args.first s.words.words in
    omega (arith, rows, suc-mul c.args.row s.width, c.self.invariant.0, width, product, c.requires.to, long)
