use Rattle.std.proofs.Common.{◌≡◌, ℕ, List, length, ◌∙◌, ap, sym, arith}
use Rattle.pct_stack.specs.Rows.{Rows, row_at, with_word}
use Rattle.pct_stack.proofs.RowLemmas.{even_of, written-first, written-next, written-last}
use Rattle.pct_stack.proofs.grid.Grid.copy_row.Goals as goal

pub loop-i-init : goal.loop-i-init
loop-i-init c = sym (written-first c.args.self.now c.args.row c.requires.own (row_at c.args.other.now c.args.row))

pub loop-i-preserved : goal.loop-i-preserved
loop-i-preserved c =
    let s = c.self.inside in
    let old : Rows = c.args.self.now in
    let new : List ℕ = row_at c.args.other.now c.args.row in
    let width : s.width ≡ old.width = ap (λ (g : Rows). g.width) c.self.view_is in
    let long : length (row_at old c.args.row) ≡ old.width = even_of s.room s.rows s.width s.words.words old c.self.view_is c.self.invariant.0 c.args.row c.requires.own in
    c.set_word.ensures ∙ ap (with_word c.args.row c.loop-i.i c.word.result) c.loop-i.invariant
    ∙ written-next old c.args.row c.requires.own c.loop-i.i new c.word.result (omega (arith, c.loop-i-test.true, width, c.requires.width, c.requires.even)) (omega (arith, c.loop-i-test.true, width, long)) c.word.ensures

pub returns : goal.returns
returns c =
    let s = c.self.inside in
    let old : Rows = c.args.self.now in
    let new : List ℕ = row_at c.args.other.now c.args.row in
    let width : s.width ≡ old.width = ap (λ (g : Rows). g.width) c.self.view_is in
    let long : length (row_at old c.args.row) ≡ old.width = even_of s.room s.rows s.width s.words.words old c.self.view_is c.self.invariant.0 c.args.row c.requires.own in
    c.loop-i.invariant
    ∙ written-last old c.args.row c.requires.own c.loop-i.i new (omega (arith, c.loop-i-test.false, width, c.requires.width, c.requires.even)) (omega (arith, c.loop-i-test.false, width, long))
