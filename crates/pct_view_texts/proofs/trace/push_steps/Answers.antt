use Rattle.pct_names.proofs.Names.{◌+◌, ◌++◌, ap, arith, is_some, List, sym, ℕ, ◌∙◌}
use Rattle.std.proofs.lemmas.List.{append-nil}
use Rattle.pct_engine_laws.proofs.LongerRuns.{run_none}
use Rattle.pct_history.proofs.IllegalEntries.{illegal-at, follows-until, follows-all}
use Rattle.pct_view_texts.specs.TextBuffers.{text_in}
use Rattle.pct_view_texts.proofs.StepLines.{no_lines, some_made, some_more}
use Rattle.pct_view_texts.proofs.trace.push_steps.Goals as goal

pub loop-entry-init : goal.loop-entry-init
loop-entry-init c =
    let engine = c.args.engine.now in
    record {
      number = omega arith;
      within = omega arith;
      made = ap (λ history. record engine { history = history }) c.requires.opened;
      legal = ap is_some (run_none engine.script engine.config c.requires.config);
      text = sym (append-nil (text_in c.args.text.now)) ∙ ap (λ (text : List ℕ). text_in c.args.text.now ++ text) (sym (no_lines c.args.lines.now engine c.requires.opened));
    }

pub returns-then-not-branch-clause-follows : goal.returns-then-not-branch-clause-follows
returns-then-not-branch-clause-follows c =
    let so_far = c.loop-entry.invariant in
    let opened = c.args.engine.now in
    let refused = c.in_ok-push_next.ensures.refused c.if-not-branch.true in
    follows-until _ opened.script opened.config c.args.entries.now c.loop-entry.entry-index _ (refused.engine_is ∙ so_far.made) (ap (λ (n : ℕ). n + 1) so_far.number)
    (illegal-at c.loop-entry.engine opened.script opened.config c.args.entries.now c.loop-entry.entry-index _ so_far.made (omega arith) c.requires.few so_far.legal refused.illegal)

pub returns-clause-follows : goal.returns-clause-follows
returns-clause-follows c =
    let so_far = c.loop-entry.invariant in
    let opened = c.args.engine.now in
    follows-all c.loop-entry.engine opened.script opened.config c.args.entries.now c.loop-entry.entry-index so_far.made (omega arith) so_far.legal

pub returns-in_err-push_next-clause-some : goal.returns-in_err-push_next-clause-some
returns-in_err-push_next-clause-some c =
    some_more c.args.engine.now c.loop-entry.engine _ c.args.entries.now c.loop-entry.entry-index _ c.requires.opened c.loop-entry.invariant.made (omega arith) c.in_err-push_next.ensures.kept

pub returns-then-not-branch-clause-some : goal.returns-then-not-branch-clause-some
returns-then-not-branch-clause-some c =
    some_made c.args.engine.now _ c.args.entries.now c.loop-entry.entry-index c.requires.opened ((c.in_ok-push_next.ensures.refused c.if-not-branch.true).engine_is ∙ c.loop-entry.invariant.made)

pub returns-clause-some : goal.returns-clause-some
returns-clause-some c = some_made c.args.engine.now _ c.args.entries.now c.loop-entry.entry-index c.requires.opened c.loop-entry.invariant.made
