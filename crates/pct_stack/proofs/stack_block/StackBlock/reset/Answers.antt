use Rattle.std.proofs.Common.{◌≡◌, true, ◌∙◌, ap, sym, subst}
use Rattle.std.specs.Prelude.{IfSome}
use Rattle.pct_stack.specs.Stacks.{Stacks, is_taken, with_kept_alone}
use Rattle.pct_stack.proofs.SeenLemmas.{unlinked-block, reset-seen, kept_within}
use Rattle.pct_stack.proofs.stack_block.StackBlock.reset.Goals as goal

pub give_all-requires-clause-block : goal.give_all-requires-clause-block
give_all-requires-clause-block c =
    let s = c.self.inside in
    let block = c.self.invariant in
    unlinked-block s.grid block.some block.few block.count block.width block.even

pub give_all-requires-clause-keep : goal.give_all-requires-clause-keep
give_all-requires-clause-keep c =
    let s = c.self.inside in
    kept_within s.grid s.head c.self.invariant c.args.keep (subst (λ (t : Stacks). IfSome c.args.keep (λ slot. is_taken t slot ≡ true)) (sym c.self.view_is) c.requires)

pub returns : goal.returns
returns c =
    let s = c.self.inside in
    let given = c.give_all.ensures in
    reset-seen s.grid c.give_all.new.grid s.head c.give_all.new.head c.self.invariant c.args.keep (subst (λ (t : Stacks). IfSome c.args.keep (λ slot. is_taken t slot ≡ true)) (sym c.self.view_is) c.requires)
    given.rows given.shape.0 given.shape.1 given.given
    ∙ ap (with_kept_alone c.args.keep) c.self.view_is
