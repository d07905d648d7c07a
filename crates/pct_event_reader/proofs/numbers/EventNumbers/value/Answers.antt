use Rattle.pct_names.proofs.Names.{ap, bytes_eq, is_some, List, number_of, sym, ℕ, ◌∙◌}
use Rattle.pct_name_numbers.specs.EventReading.{caller_of, flag, not_zero, point_index, stop_of}
use Rattle.pct_model.specs.Keywords.{keyword_text}
use Rattle.pct_event_reader.proofs.KindFields.{a_call, a_flag, a_number, a_point, a_positive, a_stop}
use Rattle.pct_event_reader.proofs.KindValues.{fixed_value, flag_read, index_read, is_a_name, is_a_stop, is_call, is_either, is_fixed, is_not_zero, is_number, is_point, name_value, plain_read, word_value}
use Rattle.pct_event_reader.proofs.numbers.EventNumbers.value.Goals as goal

pub unwrap-requires : goal.unwrap-requires
unwrap-requires c = ap is_some c.number_of.ensures ∙ is_number c.args.kind c.args.word.now c.requires.kind c.in-Number.is

pub positive-requires : goal.positive-requires
positive-requires c = is_not_zero c.args.kind c.args.word.now c.requires.kind c.in-Positive.is

pub number-requires-clause-name : goal.number-requires-clause-name
number-requires-clause-name c = is_a_name c.args.kind c.args.word.now c.requires.kind c.in-Name.kind c.in-Name.is

pub unwrap-requires-in-Point : goal.unwrap-requires-in-Point
unwrap-requires-in-Point c = ap is_some c.point_of.ensures ∙ is_point c.args.kind c.args.word.now c.requires.kind c.in-Point.is

pub unwrap-requires-in-Call : goal.unwrap-requires-in-Call
unwrap-requires-in-Call c = ap is_some c.caller_of.ensures ∙ is_call c.args.kind c.args.word.now c.requires.kind c.in-Call.is

pub unwrap-requires-in-Stop : goal.unwrap-requires-in-Stop
unwrap-requires-in-Stop c = ap is_some c.stop_of.ensures ∙ is_a_stop c.args.kind c.args.word.now c.requires.kind c.in-Stop.class c.in-Stop.is

pub returns-in-Number-clause-value : goal.returns-in-Number-clause-value
returns-in-Number-clause-value c =
    word_value a_number c.args.kind c.args.word.now c.unwrap.result c.args.self.now c.in-Number.is (plain_read number_of c.args.word.now c.unwrap.result (sym c.number_of.ensures ∙ c.unwrap.ensures))

pub returns-in-Positive-clause-value : goal.returns-in-Positive-clause-value
returns-in-Positive-clause-value c =
    word_value a_positive c.args.kind c.args.word.now c.positive.result c.args.self.now c.in-Positive.is (plain_read not_zero c.args.word.now c.positive.result c.positive.ensures.value)

pub returns-in_ok-number-in-Name-clause-value : goal.returns-in_ok-number-in-Name-clause-value
returns-in_ok-number-in-Name-clause-value c =
    name_value c.args.kind c.in-Name.kind c.args.word.now c.in_ok-number-in-Name.field-0 c.args.self.now c.number.new.self c.in-Name.is c.in_ok-number-in-Name.ensures.number

pub returns-in-Point-clause-value : goal.returns-in-Point-clause-value
returns-in-Point-clause-value c =
    let point = c.unwrap-in-Point.result in
    word_value a_point c.args.kind c.args.word.now point.index c.args.self.now c.in-Point.is
    (plain_read point_index c.args.word.now point.index (index_read c.args.word.now point (sym c.point_of.ensures ∙ c.unwrap-in-Point.ensures)))

pub returns-in-Call-clause-value : goal.returns-in-Call-clause-value
unfolding caller_of
returns-in-Call-clause-value c =
    word_value a_call c.args.kind c.args.word.now c.unwrap-in-Call.result c.args.self.now c.in-Call.is
    (plain_read caller_of c.args.word.now c.unwrap-in-Call.result (sym c.caller_of.ensures ∙ c.unwrap-in-Call.ensures))

pub returns-in-Word-clause-value : goal.returns-in-Word-clause-value
returns-in-Word-clause-value c =
    fixed_value c.args.kind c.in-Word.field-0 c.args.word.now c.args.self.now c.in-Word.is (is_fixed c.args.kind c.args.word.now c.requires.kind c.in-Word.field-0 c.in-Word.is)

pub returns-in-Either-clause-value : goal.returns-in-Either-clause-value
returns-in-Either-clause-value c =
    let first = c.in-Either.first in
    let second = c.in-Either.field-1 in
    let word = c.args.word.now in
    word_value (a_flag first second) c.args.kind word c.eq.result c.args.self.now c.in-Either.is
    (plain_read (flag first second) word c.eq.result
    (flag_read first second word c.eq.result (ap (λ (text : List ℕ). bytes_eq text word) (sym c.text.ensures) ∙ sym c.eq.ensures) (is_either c.args.kind word c.requires.kind first second c.in-Either.is)))

pub returns-in-Stop-clause-value : goal.returns-in-Stop-clause-value
unfolding stop_of
returns-in-Stop-clause-value c =
    word_value (a_stop c.in-Stop.class) c.args.kind c.args.word.now c.unwrap-in-Stop.result c.args.self.now c.in-Stop.is
    (plain_read (stop_of (keyword_text c.in-Stop.class)) c.args.word.now c.unwrap-in-Stop.result (sym c.stop_of.ensures ∙ c.unwrap-in-Stop.ensures))
