use Rattle.pct_names.proofs.Names.{◌∷◌}
use Rattle.pct_report_reader.specs.Forms.{as_form, words_left}
use Rattle.pct_report_reader.specs.Texts.{event_forms, has_form}
use Rattle.pct_event_reader.proofs.FoundForms.{found_as, some_found}
use Rattle.pct_event_reader.proofs.event.form_of.Goals as goal

pub unwrap-requires : goal.unwrap-requires
unwrap-requires c =
    some_found (has_form (c.args.first.now ∷ words_left c.args.rest)) as_form c.events.result.now event_forms c.form_among.result c.events.ensures c.form_among.ensures c.requires

pub returns : goal.returns
returns c =
    found_as (has_form (c.args.first.now ∷ words_left c.args.rest)) as_form c.events.result.now event_forms c.form_among.result c.events.ensures c.form_among.ensures
    c.unwrap.result c.unwrap.ensures
