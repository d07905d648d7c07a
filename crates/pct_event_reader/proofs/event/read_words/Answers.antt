use Rattle.pct_names.proofs.Names.{ap, arith, length, nil_from_length, ◌∙◌}
use Rattle.pct_report_reader.specs.Forms.{words_left}
use Rattle.pct_event_reader.specs.Values.{values_of}
use Rattle.pct_event_reader.proofs.WordValues.{first_passes, others_pass, read_all, read_more, some_left}
use Rattle.pct_event_reader.proofs.event.read_words.Goals as goal

pub unwrap-requires : goal.unwrap-requires
unwrap-requires c = some_left c.loop-kind.left.now c.in-Some.others.now c.in-Some.kind.now c.loop-kind.rest c.in-Some.ensures.cases.0 c.loop-kind.invariant.kinds

pub value-requires-clause-kind : goal.value-requires-clause-kind
value-requires-clause-kind c =
    first_passes c.loop-kind.left.now c.in-Some.others.now c.in-Some.kind.now (words_left c.loop-kind.rest) (words_left c.first_word.result.1) c.first_word.result.0.now c.in-Some.ensures.cases.0
    (ap words_left c.unwrap.ensures ∙ c.first_word.ensures) c.loop-kind.invariant.kinds

pub loop-kind-preserved : goal.loop-kind-preserved
loop-kind-preserved c =
    let left = c.loop-kind.left.now in
    let others = c.in-Some.others.now in
    let kind = c.in-Some.kind.now in
    let words = words_left c.loop-kind.rest in
    let rest = words_left c.first_word.result.1 in
    let word = c.first_word.result.0.now in
    let here = ap words_left c.unwrap.ensures ∙ c.first_word.ensures in
    record {
      read = λ before numbering.
          read_more (values_of c.args.kinds.now before (words_left c.args.words)) c.loop-kind.names c.value.new.self c.loop-kind.values.items c.push.new.self.items left others kind words rest word
          c.in_ok-value.field-0 c.in-Some.ensures.cases.0 here c.push.ensures.items (c.loop-kind.invariant.read before numbering) c.in_ok-value.ensures.value;
      kinds = others_pass left others kind words rest word c.in-Some.ensures.cases.0 here c.loop-kind.invariant.kinds;
      few = omega (arith, c.loop-kind.invariant.few, ap length c.in-Some.ensures.cases.0, c.push.ensures.len);
      count = omega (arith, c.loop-kind.invariant.count, c.in_ok-value.ensures.count, c.push.ensures.len);
    }

pub returns-clause-values : goal.returns-clause-values
returns-clause-values c = λ before numbering.
    read_all (values_of c.args.kinds.now before (words_left c.args.words)) c.loop-kind.names c.loop-kind.values.items c.loop-kind.left.now (words_left c.loop-kind.rest)
    (nil_from_length c.loop-kind.left.now c.in_default.ensures.cases) c.loop-kind.invariant.kinds (c.loop-kind.invariant.read before numbering)
