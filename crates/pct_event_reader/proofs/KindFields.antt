-- The fields of events, and the kinds of their words.
use Rattle.pct_names.proofs.Names.{ap, Bool, bytes_eq, cond, false, List, None, not, option_map, refl, Some, true}
use Rattle.pct_names.proofs.Names.{keyword_text, ℕ, ◌∙◌, ◌≡◌}
use Rattle.std.proofs.Common.{true≢false}
use Rattle.pct_model.proofs.Bytes.{same_bytes}
use Rattle.pct_model.specs.declared.event.Caller.{Caller}
use Rattle.pct_model.specs.declared.keyword.Keyword.{Keyword}
use Rattle.pct_model.specs.declared.line_kind.SymbolKind.TheVariants.{Cond, Function, Mutex, Once, Sem}
use Rattle.pct_model.specs.declared.stop.Why.{Why}
use Rattle.pct_model.specs.EventTexts.{EventNames}
use Rattle.pct_name_numbers.specs.EventReading.{caller_of, cond_variable, flag, function, mutex, not_zero, number, once_control, plain, point_index, semaphore, stop_of}
use Rattle.pct_report_reader.specs.declared.text.WordKind.TheVariants as kind
use Rattle.pct_event_reader.specs.declared.value.Value.TheVariants as value
use Rattle.pct_event_reader.specs.Values.{read_map, value_of}
use Rattle.pct_event_reader.proofs.ValueRows.{KindField}

pub number_same : (n : EventNames) (w : List ℕ) → value_of kind.Number n w ≡ read_map (λ v. value.Number v) (number n w)
unfolding value_of
number_same n w = refl

abbrev pub a_number : KindField ℕ
a_number = record { kind = kind.Number; value = λ v. value.Number v; field = number; same = number_same }

pub positive_same : (n : EventNames) (w : List ℕ) → value_of kind.Positive n w ≡ read_map (λ v. value.Number v) (plain not_zero n w)
unfolding value_of
positive_same n w = refl

abbrev pub a_positive : KindField ℕ
a_positive = record { kind = kind.Positive; value = λ v. value.Number v; field = plain not_zero; same = positive_same }

pub function_same : (n : EventNames) (w : List ℕ) → value_of (kind.Name Function) n w ≡ read_map (λ v. value.Number v) (function n w)
unfolding value_of
function_same n w = refl

abbrev pub a_function : KindField ℕ
a_function = record { kind = kind.Name Function; value = λ v. value.Number v; field = function; same = function_same }

pub mutex_same : (n : EventNames) (w : List ℕ) → value_of (kind.Name Mutex) n w ≡ read_map (λ v. value.Number v) (mutex n w)
unfolding value_of
mutex_same n w = refl

abbrev pub a_mutex : KindField ℕ
a_mutex = record { kind = kind.Name Mutex; value = λ v. value.Number v; field = mutex; same = mutex_same }

pub cond_same : (n : EventNames) (w : List ℕ) → value_of (kind.Name Cond) n w ≡ read_map (λ v. value.Number v) (cond_variable n w)
unfolding value_of
cond_same n w = refl

abbrev pub a_cond : KindField ℕ
a_cond = record { kind = kind.Name Cond; value = λ v. value.Number v; field = cond_variable; same = cond_same }

pub semaphore_same : (n : EventNames) (w : List ℕ) → value_of (kind.Name Sem) n w ≡ read_map (λ v. value.Number v) (semaphore n w)
unfolding value_of
semaphore_same n w = refl

abbrev pub a_semaphore : KindField ℕ
a_semaphore = record { kind = kind.Name Sem; value = λ v. value.Number v; field = semaphore; same = semaphore_same }

pub once_control_same : (n : EventNames) (w : List ℕ) → value_of (kind.Name Once) n w ≡ read_map (λ v. value.Number v) (once_control n w)
unfolding value_of
once_control_same n w = refl

abbrev pub a_once_control : KindField ℕ
a_once_control = record { kind = kind.Name Once; value = λ v. value.Number v; field = once_control; same = once_control_same }

pub point_same : (n : EventNames) (w : List ℕ) → value_of kind.Point n w ≡ read_map (λ v. value.Number v) (plain point_index n w)
unfolding value_of
point_same n w = refl

abbrev pub a_point : KindField ℕ
a_point = record { kind = kind.Point; value = λ v. value.Number v; field = plain point_index; same = point_same }

pub call_same : (n : EventNames) (w : List ℕ) → value_of kind.Call n w ≡ read_map (λ v. value.Call v) (plain caller_of n w)
unfolding value_of
call_same n w = refl

abbrev pub a_call : KindField Caller
a_call = record { kind = kind.Call; value = λ v. value.Call v; field = plain caller_of; same = call_same }

pub flag_same : (one other : Keyword) (n : EventNames) (w : List ℕ) → value_of (kind.Either one other) n w ≡ read_map (λ t. value.Flag t) (plain (flag one other) n w)
unfolding value_of
flag_same one other n w = refl

abbrev pub a_flag : Keyword → Keyword → KindField Bool
a_flag one other = record { kind = kind.Either one other; value = λ t. value.Flag t; field = plain (flag one other); same = flag_same one other }

pub stop_same : (class : Keyword) (n : EventNames) (w : List ℕ) → value_of (kind.Stop class) n w ≡ read_map (λ v. value.Stop v) (plain (stop_of (keyword_text class)) n w)
unfolding value_of
stop_same class n w = refl

abbrev pub a_stop : Keyword → KindField Why
a_stop class = record { kind = kind.Stop class; value = λ v. value.Stop v; field = plain (stop_of (keyword_text class)); same = stop_same class }

-- the flag of two words that the form has in the other order
module _ (one other : Keyword) (differ : bytes_eq (keyword_text one) (keyword_text other) ≡ false) where
  swapped : (n : EventNames) (here there : Bool) → (here ≡ true → there ≡ false)
      → read_map (λ t. value.Flag t) (option_map {U = EventNames × Bool} (λ x. (n, x)) (cond here (Some true) (cond there (Some false) None)))
      ≡ read_map (λ t. value.Flag (not t)) (option_map {U = EventNames × Bool} (λ x. (n, x)) (cond there (Some true) (cond here (Some false) None)))
  swapped n true true apart = absurd (true≢false (apart refl))
  swapped n true false apart = refl
  swapped n false true apart = refl
  swapped n false false apart = refl

  not_other : (w : List ℕ) → bytes_eq w (keyword_text one) ≡ true → bytes_eq w (keyword_text other) ≡ false
  not_other w is = ap (λ (v : List ℕ). bytes_eq v (keyword_text other)) (same_bytes w (keyword_text one) is) ∙ differ

  pub swapped_same : (n : EventNames) (w : List ℕ) → value_of (kind.Either one other) n w ≡ read_map (λ t. value.Flag (not t)) (plain (flag other one) n w)
  unfolding value_of
  swapped_same n w = swapped n (bytes_eq w (keyword_text one)) (bytes_eq w (keyword_text other)) (not_other w)

  abbrev pub a_flag_swapped : KindField Bool
  a_flag_swapped = record { kind = kind.Either one other; value = λ t. value.Flag (not t); field = plain (flag other one); same = swapped_same }
