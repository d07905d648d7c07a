use Rattle.pct_views.specs.ShownThreads.{listed_at}
use Rattle.pct_view_texts.proofs.ListedTexts.{one_listed, one_text}
use Rattle.pct_view_texts.proofs.choices.push_slot.Goals as goal

pub returns-then-listing : goal.returns-then-listing
returns-then-listing c = λ program family p shown.
    let listing = c.args.listing in
    let one = one_listed (listed_at program family p c.args.slot) c.in-Some.view (c.in-Some.ensures.shown program family p shown) in
    one_text _ _ _ _ listing.source.lines.now listing.source.script.now listing.goes_on (listed_at program family p c.args.slot) one.0 one.1 c.if-listing.true (c.in_ok-push_thread.ensures one.0 one.2) (c.push_entries.ensures program family p one.0 shown one.1 one.2)
