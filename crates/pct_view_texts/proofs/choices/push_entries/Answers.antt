use Rattle.pct_names.proofs.Names.{◌++◌, ap, arith, flat_map, length, List, take_all, ℕ, ◌∙◌, ◌≤◌}
use Rattle.pct_view_texts.specs.ListedLines.{choice_line}
use Rattle.pct_view_texts.specs.TextBuffers.{text_in}
use Rattle.pct_view_texts.proofs.ListedTexts.{entry_lines_shown, next_text}
use Rattle.pct_view_texts.proofs.choices.push_entries.Goals as goal

pub loop-index-preserved : goal.loop-index-preserved
loop-index-preserved c = λ program family p l shown is.
    let view = c.args.view.now in
    next_text (choice_line view.pid view.tid) l.choices c.loop-index.index c.choice_on.result _ _ _ (c.choice_on.ensures program family p l shown is) (c.loop-index.invariant program family p l shown is) c.in_ok-push_entry_by.ensures

pub returns : goal.returns
returns c = λ program family p l shown is shows.
    let view = c.args.view.now in
    let count = c.choice_count-index-end.ensures program family p l shown is in
    let all : length l.choices ≤ c.loop-index.index = omega (arith, count) in
    c.loop-index.invariant program family p l shown is
    ∙ ap (λ (text : List ℕ). text_in c.args.text.now ++ text) (ap (flat_map (choice_line view.pid view.tid)) (take_all c.loop-index.index l.choices all) ∙ entry_lines_shown l view shows)
