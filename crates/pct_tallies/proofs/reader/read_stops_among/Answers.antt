use Rattle.std.proofs.Common.{◌≡◌, ◌+◌, ap, arith, drop, get_or, sym, subst, ◌∙◌}
use Rattle.std.proofs.lemmas.List.{at_drop_more}
use Rattle.pct_model.specs.declared.stop.Why.TheVariants as why
use Rattle.pct_tallies.specs.declared.reader.Lines.{Lines}
use Rattle.pct_tallies.specs.LinesLeft.{IsNotBefore, left_of}
use Rattle.pct_tallies.specs.Readings.{stops_from}
use Rattle.pct_tallies.proofs.NextItem.{past_all}
use Rattle.pct_tallies.proofs.StopLines.{after_stops, no_more_stops, stop_left, stop_read}
use Rattle.pct_tallies.proofs.reader.read_stops_among.Goals.{in-Some+in_ok-push, in_default}
use Rattle.pct_tallies.proofs.reader.read_stops_among.Goals as goal

pub loop-why-preserved : goal.loop-why-preserved
loop-why-preserved c =
    let e = c.loop-why.invariant in
    let seeds = c.args.seeds in
    let before = c.loop-why.stops.items in
    let left = left_of c.loop-why.after in
    let item = get_or c.args.whys.now c.loop-why.why-index why.ForkChildCall in
    let more = drop (c.loop-why.why-index + 1) c.args.whys.now in
    let all = sym (at_drop_more (λ whys. after_stops before (stops_from whys seeds left)) c.args.whys.now c.loop-why.why-index why.ForkChildCall c.loop-why-test.true) ∙ e.0 in
    elim c.match-read_stop.branch [
      | in-Some+in_ok-push w ↦ (
        ((λ j. after_stops ((w.stops-is j).items) (stops_from more seeds (left_of (w.after-is j))))
            ∙ ap (λ items. after_stops items (stops_from more seeds (left_of w.in-Some.rest))) w.in_ok-push.ensures.items
            ∙ sym (stop_read item more seeds left (left_of w.in-Some.rest) w.in-Some.count before (sym w.in-Some.ensures.read))
            ∙ all),
        (subst (λ (lines : Lines). IsNotBefore c.args.lines lines) (sym w.after-is)
            (record { within = omega (arith, e.1.within, w.in-Some.ensures.after.within); no_longer = omega (arith, e.1.no_longer, w.in-Some.ensures.after.shorter) })),
      )
      | in_default w ↦ (
        ((λ j. after_stops ((w.stops-is j).items) (stops_from more seeds (left_of (w.after-is j))))
            ∙ sym (stop_left item more seeds left before (sym (rw w.in_default.is at c.read_stop.ensures.read)))
            ∙ all),
        (subst (λ (lines : Lines). IsNotBefore c.args.lines lines) (sym w.after-is) e.1),
      )
    ]

pub returns-clause-read : goal.returns-clause-read
returns-clause-read c =
    sym (no_more_stops c.args.seeds (left_of c.loop-why.after) c.loop-why.stops.items)
    ∙ ap (λ whys. after_stops c.loop-why.stops.items (stops_from whys c.args.seeds (left_of c.loop-why.after))) (sym (past_all c.args.whys.now c.loop-why.why-index c.loop-why-test.false))
    ∙ c.loop-why.invariant.0
