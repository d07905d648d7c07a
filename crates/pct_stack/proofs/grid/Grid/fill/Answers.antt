use Rattle.std.proofs.Common.{◌≡◌, ℕ, ◌*◌, List, replicate, length, ◌∙◌, ap, arith}
use Rattle.std.proofs.Math.Nat.{mul-le-mul}
use Rattle.std.proofs.lemmas.List.{length-replicate}
use Rattle.pct_stack.specs.Rows.{BlockWords, Rows, rows_of}
use Rattle.pct_stack.proofs.RowLemmas.{rows_of-zeros}
use Rattle.pct_stack.proofs.grid.Grid.fill.Goals as goal

pub fill-requires : goal.fill-requires
fill-requires c =
    let s = c.self.inside in
    omega (arith, c.self.invariant.3, mul-le-mul c.self.invariant.4 c.self.invariant.2)

pub invariant_of-self : goal.invariant_of-self
invariant_of-self c =
    let s = c.self.inside in
    let all : c.fill.new.self.words ≡ replicate (s.room * s.width) 0 = ap (λ (w : BlockWords). w.words) c.fill.ensures ∙ ap (λ k. replicate k 0) c.self.invariant.3 in
    (ap length all ∙ length-replicate (s.room * s.width) 0, c.self.invariant.4, c.self.invariant.2, ap (λ (w : BlockWords). w.room) c.fill.ensures ∙ c.self.invariant.3, c.self.invariant.4)

pub returns : goal.returns
returns c =
    let s = c.self.inside in
    let all : c.fill.new.self.words ≡ replicate (s.room * s.width) 0 = ap (λ (w : BlockWords). w.words) c.fill.ensures ∙ ap (λ k. replicate k 0) c.self.invariant.3 in
    ap (λ (rows : List (List ℕ)). record { room = s.room; width = s.width; rows = rows })
    (ap (rows_of s.room s.width) all ∙ rows_of-zeros s.room s.width)
    ∙ ap (λ (g : Rows). record { room = g.room; width = g.width; rows = replicate g.room (replicate g.width 0) }) c.self.view_is
