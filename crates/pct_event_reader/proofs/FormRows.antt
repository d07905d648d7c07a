-- Each form of an event: what is read of words of the form.
use Rattle.pct_names.proofs.Names.{[], ◌==◌, ap, arith, Bool, bytes_eq, cond, false, length, List, nat_eq, None, not, option_map, Option, refl, Some, some_pair_parts, subst, suc, sym, true, zero}
use Rattle.pct_names.proofs.Names.{keyword_text, number_of, ℕ, ◌∙◌, ◌∷◌, ◌<◌, ◌≤◌, ◌≡◌}
use Rattle.std.specs.List.{AllByRecursion}
use Rattle.pct_model.proofs.Bytes.{same_bytes}
use Rattle.pct_model.specs.declared.event.What.{What}
use Rattle.pct_model.specs.declared.event.What.TheVariants as what
use Rattle.pct_model.specs.declared.keyword.Keyword.{Keyword}
use Rattle.pct_model.specs.declared.keyword.Keyword.TheVariants as keyword
use Rattle.pct_model.specs.declared.line_kind.SymbolKind.TheVariants.{Cond, Mutex, Once}
use Rattle.pct_model.specs.EventTexts.{EventNames}
use Rattle.pct_model.specs.Lines.{◌>>=◌}
use Rattle.pct_name_numbers.specs.EventReading.{Reading, cond_variable, ending, event_keyword, fields_of, flag, mutex, number, once_control, once_event, once_what, one, plain, two}
use Rattle.pct_report_reader.specs.declared.text.WordKind.{WordKind}
use Rattle.pct_report_reader.specs.declared.text.WordKind.TheVariants as kind
use Rattle.pct_report_reader.specs.Texts.{Form, event_forms, form}
use Rattle.pct_event_reader.specs.declared.value.Value.{Value}
use Rattle.pct_event_reader.specs.declared.value.Value.TheVariants as value
use Rattle.pct_event_reader.specs.EventReports.{HasCreatedId}
use Rattle.pct_event_reader.specs.Values.{read_map, caller_in, flag_at, flag_in, number_in, stop_in, ending_with, number_at, once_with, value_of, values_of, what_with}
use Rattle.pct_event_reader.proofs.Positive.{not_zero_suc}
use Rattle.pct_event_reader.proofs.KindFields.{a_call, a_cond, a_flag, a_flag_swapped, a_function, a_mutex, a_number, a_once_control, a_point, a_positive, a_semaphore, a_stop}
use Rattle.pct_event_reader.proofs.ValueRows.{IsRow, four_row, one_row, three_row, two_row}

-- ---- forms

-- what is read of words of the form: the event of their values
pub record IsEventForm (form : Form) : Type 0 where
  pub keyword : event_keyword (keyword_text form.first) ≡ Some form.first
  pub few : length form.kinds ≤ 4
  pub read : (n m : EventNames) (words : List (List ℕ)) (values : List Value) → values_of form.kinds n words ≡ Some (m, values)
      → fields_of form.first n words ≡ Some (m, what_with form.first values)
  pub created : (n m : EventNames) (words : List (List ℕ)) (values : List Value) → values_of form.kinds n words ≡ Some (m, values) → HasCreatedId (what_with form.first values)

-- that a thread or a process that the event creates has an id
abbrev Creates : Keyword → List WordKind → Type 0
Creates first kinds = (n m : EventNames) (words : List (List ℕ)) (values : List Value) → values_of kinds n words ≡ Some (m, values) → HasCreatedId (what_with first values)

same_row : (first : Keyword) (kinds : List WordKind) → event_keyword (keyword_text first) ≡ Some first → length kinds ≤ 4 → IsRow (λ n words. fields_of first n words) kinds (what_with first)
    → Creates first kinds → IsEventForm (form first kinds)
same_row first kinds word few row created = record {
  keyword = word;
  few = few;
  read = λ n m words values is. row n words ∙ ap (read_map (what_with first)) is;
  created = created;
}

-- ---- ids of created threads and processes

positive_first : (kinds : List WordKind) (n m : EventNames) (words : List (List ℕ)) (values : List Value) → values_of (kind.Positive ∷ kinds) n words ≡ Some (m, values) → 0 < number_at values 0
unfolding values_of value_of number_in
positive_first kinds n m [] values is = absurd cc
positive_first kinds n m (w ∷ words) values is = by_number (number_of w) is
  where
    by_rest : (k : ℕ) (rest : Reading (List Value)) → read_map (λ others. value.Number (suc k) ∷ others) rest ≡ Some (m, values) → 0 < number_at values 0
    by_rest k None there = absurd cc
    by_rest k (Some s) there = subst (λ (all : List Value). 0 < number_at all 0) (some_pair_parts _ _ _ _ there).1 (omega arith)

    by_number : (o : Option ℕ)
        → (read_map (λ v. value.Number v) (option_map {U = EventNames × ℕ} (λ x. (n, x)) (o >>= λ k. cond (nat_eq k 0) None (Some k))) >>= λ r. read_map (λ others. r.1 ∷ others) (values_of kinds r.0 words)) ≡ Some (m, values)
        → 0 < number_at values 0
    by_number None there = absurd cc
    by_number (Some zero) there = absurd cc
    by_number (Some (suc k)) there =
        by_rest k (values_of kinds n words)
        (sym (ap (λ (t : Bool). ◌>>=◌ {A = EventNames × Value} (read_map (λ v. value.Number v) (option_map {U = EventNames × ℕ} (λ x. (n, x)) (cond t None (Some (suc k))))) (λ r. read_map (λ others. r.1 ∷ others) (values_of kinds r.0 words)))
        (not_zero_suc k)) ∙ there)

created_id : (kinds : List WordKind) → Creates keyword.Create (kind.Positive ∷ kinds)
unfolding what_with
created_id kinds n m words values is = positive_first kinds n m words values is

forked_id : (kinds : List WordKind) → Creates keyword.Fork (kind.Positive ∷ kinds)
unfolding what_with
forked_id kinds n m words values is = positive_first kinds n m words values is

ending_creates : (alone pair : Bool) (v c m : ℕ) → HasCreatedId (cond alone what.EndingCanceled (cond pair (what.EndingExit v) (what.EndingInWait c m)))
ending_creates true pair v c m = tt
ending_creates false true v c m = tt
ending_creates false false v c m = tt

ending_ids : (kinds : List WordKind) → Creates keyword.Ending kinds
unfolding what_with ending_with
ending_ids kinds n m words values is = ending_creates (length values == 1) (length values == 2) (number_at values 1) (number_at values 1) (number_at values 2)

once_creates : (control : ℕ) (t : Bool) → HasCreatedId (once_with control t)
once_creates control true = tt
once_creates control false = tt

once_ids : (kinds : List WordKind) → Creates keyword.Once kinds
unfolding what_with
once_ids kinds n m words values is = once_creates (number_at values 0) (flag_at values 1)

-- ---- two forms with a flag

thread_made : (id : ℕ) (detached : Bool) → what_with keyword.Create (value.Number id ∷ value.Flag (not detached) ∷ []) ≡ what.Created id detached
unfolding what_with number_in flag_in
thread_made id true = refl
thread_made id false = refl

once_made : (control : ℕ) (returned : Bool) → what_with keyword.Once (value.Number control ∷ value.Flag (not returned) ∷ []) ≡ once_what returned control
unfolding what_with number_in flag_in
once_made control true = refl
once_made control false = refl

once_read : (n : EventNames) (words : List (List ℕ))
    → once_event n words ≡ two (λ control returned. once_what returned control) once_control (plain (flag keyword.Done keyword.Call)) n words
once_read n [] = refl
once_read n (o ∷ []) = refl
once_read n (o ∷ w ∷ []) = by_control (once_control n o)
  where
    by_flag : (r : EventNames × ℕ) (t : Option Bool)
        → ◌≡◌ {A = Reading What} (option_map (λ returned. (r.0, once_what returned r.1)) t) (option_map (λ s. (s.0, once_what s.1 r.1)) (option_map {U = EventNames × Bool} (λ x. (r.0, x)) t))
    by_flag r None = refl
    by_flag r (Some t) = refl

    by_control : (first : Reading ℕ)
        → ◌≡◌ {A = Reading What} (first >>= λ r. option_map (λ returned. (r.0, once_what returned r.1)) (flag keyword.Done keyword.Call w))
        (first >>= λ r. option_map (λ s. (s.0, once_what s.1 r.1)) (option_map {U = EventNames × Bool} (λ x. (r.0, x)) (flag keyword.Done keyword.Call w)))
    by_control None = refl
    by_control (Some r) = by_flag r (flag keyword.Done keyword.Call w)
once_read n (o ∷ w ∷ v ∷ words) = refl

once_row : IsRow (λ n words. fields_of keyword.Once n words) (kind.Name Once ∷ kind.Either keyword.Call keyword.Done ∷ []) (what_with keyword.Once)
unfolding fields_of keyword_text
once_row n words =
    once_read n words
    ∙ two_row a_once_control (a_flag_swapped keyword.Call keyword.Done refl) (λ control returned. once_what returned control) (what_with keyword.Once) once_made n words

-- ---- the forms of `ending`

-- a fixed word, and the words after it
record AfterWord (fixed : Keyword) (kinds : List WordKind) (n m : EventNames) (words : List (List ℕ)) (values : List Value) : Type 0 where
  after : List (List ℕ)
  others : List Value
  words_are : words ≡ keyword_text fixed ∷ after
  values_are : values ≡ value.Word ∷ others
  read : values_of kinds n after ≡ Some (m, others)

after_word : (fixed : Keyword) (kinds : List WordKind) (n m : EventNames) (words : List (List ℕ)) (values : List Value) → values_of (kind.Word fixed ∷ kinds) n words ≡ Some (m, values)
    → AfterWord fixed kinds n m words values
unfolding values_of value_of
after_word fixed kinds n m [] values is = absurd cc
after_word fixed kinds n m (w ∷ words) values is = by_test (bytes_eq (keyword_text fixed) w) refl is
  where
    by_rest : keyword_text fixed ≡ w → (rest : Reading (List Value)) → values_of kinds n words ≡ rest → read_map (λ others. value.Word ∷ others) rest ≡ Some (m, values)
        → AfterWord fixed kinds n m (w ∷ words) values
    by_rest same None read there = absurd cc
    by_rest same (Some s) read there =
        let parts = some_pair_parts _ _ _ _ there in
        record {
          after = words;
          others = s.1;
          words_are = ap (λ (v : List ℕ). v ∷ words) (sym same);
          values_are = sym parts.1;
          read = read ∙ ap (λ (k : EventNames). Some (k, s.1)) parts.0;
        }

    by_test : (t : Bool) → bytes_eq (keyword_text fixed) w ≡ t
        → ◌>>=◌ {A = EventNames × Value} (cond t (Some (n, value.Word)) None) (λ r. read_map (λ others. r.1 ∷ others) (values_of kinds r.0 words)) ≡ Some (m, values) → AfterWord fixed kinds n m (w ∷ words) values
    by_test true same there = by_rest (same_bytes (keyword_text fixed) w same) (values_of kinds n words) refl there
    by_test false same there = absurd cc

-- the event of `ending` and a word, by what is read after the word
ending_form : (fixed : Keyword) (kinds : List WordKind) → length kinds ≤ 3
    → ((n m : EventNames) (after : List (List ℕ)) (others : List Value) → values_of kinds n after ≡ Some (m, others)
    → ending n (keyword_text fixed ∷ after) ≡ Some (m, what_with keyword.Ending (value.Word ∷ others)))
    → IsEventForm (form keyword.Ending (kind.Word fixed ∷ kinds))
unfolding fields_of event_keyword keyword_text
ending_form fixed kinds few read = record {
  keyword = refl;
  few = omega (arith, few);
  read = λ n m words values is.
      let parts = after_word fixed kinds n m words values is in
      ap (λ (all : List (List ℕ)). ending n all) parts.words_are ∙ read n m parts.after parts.others parts.read
      ∙ ap (λ (all : List Value). Some (m, what_with keyword.Ending all)) (sym parts.values_are);
  created = ending_ids (kind.Word fixed ∷ kinds);
}

exit_read : (n : EventNames) (after : List (List ℕ)) → ending n (keyword_text keyword.Exit ∷ after) ≡ one (λ v. what.EndingExit v) number n after
unfolding keyword_text
exit_read n [] = refl
exit_read n (v ∷ []) = refl
exit_read n (v ∷ w ∷ []) = refl
exit_read n (v ∷ w ∷ x ∷ after) = refl

exit_form : IsEventForm (form keyword.Ending (kind.Word keyword.Exit ∷ kind.Number ∷ []))
unfolding what_with ending_with number_in
exit_form = ending_form keyword.Exit (kind.Number ∷ []) (omega arith) (λ n m after others is.
    exit_read n after ∙ one_row a_number (λ v. what.EndingExit v) (λ values. what_with keyword.Ending (value.Word ∷ values)) (λ a. refl) n after
    ∙ ap (read_map (λ values. what_with keyword.Ending (value.Word ∷ values))) is)

canceled_read : (n m : EventNames) (after : List (List ℕ)) (others : List Value) → values_of [] n after ≡ Some (m, others)
    → ending n (keyword_text keyword.Canceled ∷ after) ≡ Some (m, what_with keyword.Ending (value.Word ∷ others))
unfolding values_of keyword_text what_with ending_with
canceled_read n m [] others is = ap (read_map (λ values. what_with keyword.Ending (value.Word ∷ values))) is
canceled_read n m (w ∷ after) others is = absurd cc

in_wait_same : (n : EventNames) (w : List ℕ) (after : List (List ℕ))
    → ending n (keyword_text keyword.Canceled ∷ w ∷ after) ≡ two (λ c m. what.EndingInWait c m) cond_variable mutex n (w ∷ after)
unfolding keyword_text
in_wait_same n w [] = refl
in_wait_same n w (v ∷ []) = refl
in_wait_same n w (v ∷ x ∷ after) = refl

in_wait_read : (n m : EventNames) (after : List (List ℕ)) (others : List Value) → values_of (kind.Name Cond ∷ kind.Name Mutex ∷ []) n after ≡ Some (m, others)
    → ending n (keyword_text keyword.Canceled ∷ after) ≡ Some (m, what_with keyword.Ending (value.Word ∷ others))
unfolding values_of what_with ending_with number_in
in_wait_read n m [] others is = absurd cc
in_wait_read n m (w ∷ after) others is =
    in_wait_same n w after
    ∙ two_row a_cond a_mutex (λ c m. what.EndingInWait c m) (λ values. what_with keyword.Ending (value.Word ∷ values)) (λ a b. refl) n (w ∷ after)
    ∙ ap (read_map (λ values. what_with keyword.Ending (value.Word ∷ values))) is

-- ---- the table

pub event_rows : AllByRecursion IsEventForm event_forms
unfolding event_forms event_keyword keyword_text fields_of what_with number_in flag_in caller_in stop_in
event_rows = (
  same_row keyword.Emit _ refl (omega arith) (one_row a_number (λ a. what.Emit a) (what_with keyword.Emit) (λ a. refl)) (λ n m words values is. tt),
  (
    same_row keyword.Create _ refl (omega arith) (two_row a_positive (a_flag_swapped keyword.Joinable keyword.Detached refl) (λ a b. what.Created a b) (what_with keyword.Create) thread_made) (created_id _),
    (
      same_row keyword.Answer _ refl (omega arith) (two_row a_call a_number (λ a b. what.Answer a b) (what_with keyword.Answer) (λ a b. refl)) (λ n m words values is. tt),
      (
        same_row keyword.Push _ refl (omega arith) (two_row a_function a_number (λ a b. what.Pushed a b) (what_with keyword.Push) (λ a b. refl)) (λ n m words values is. tt),
        (
          same_row keyword.Pop _ refl (omega arith) (three_row a_function a_number (a_flag keyword.Run keyword.Drop) (λ a b c. what.Popped a b c) (what_with keyword.Pop) (λ a b c. refl)) (λ n m words values is. tt),
          (
            same_row keyword.Request _ refl (omega arith) (one_row a_number (λ a. what.Request a) (what_with keyword.Request) (λ a. refl)) (λ n m words values is. tt),
            (
              same_row keyword.Detach _ refl (omega arith) (one_row a_number (λ a. what.Detached a) (what_with keyword.Detach) (λ a. refl)) (λ n m words values is. tt),
              (
                same_row keyword.State _ refl (omega arith) (one_row (a_flag keyword.Enable keyword.Disable) (λ a. what.StateSet a) (what_with keyword.State) (λ a. refl)) (λ n m words values is. tt),
                (
                  same_row keyword.Type _ refl (omega arith) (one_row (a_flag keyword.Asynchronous keyword.Deferred) (λ a. what.ModeSet a) (what_with keyword.Type) (λ a. refl)) (λ n m words values is. tt),
                  (
                    same_row keyword.Call _ refl (omega arith) (one_row a_point (λ a. what.Called a) (what_with keyword.Call) (λ a. refl)) (λ n m words values is. tt),
                    (
                      same_row keyword.Done _ refl (omega arith) (one_row a_point (λ a. what.Done a) (what_with keyword.Done) (λ a. refl)) (λ n m words values is. tt),
                      (
                        same_row keyword.Joined _ refl (omega arith) (two_row a_number a_number (λ a b. what.Joined a b) (what_with keyword.Joined) (λ a b. refl)) (λ n m words values is. tt),
                        (
                          exit_form,
                          (
                            ending_form keyword.Canceled [] (omega arith) canceled_read,
                            (
                              ending_form keyword.Canceled (kind.Name Cond ∷ kind.Name Mutex ∷ []) (omega arith) in_wait_read,
                              (
                                same_row keyword.Handler _ refl (omega arith) (two_row a_function a_number (λ a b. what.HandlerRun a b) (what_with keyword.Handler) (λ a b. refl)) (λ n m words values is. tt),
                                (
                                  same_row keyword.Pass _ refl (omega arith) (one_row a_number (λ a. what.PassBegun a) (what_with keyword.Pass) (λ a. refl)) (λ n m words values is. tt),
                                  (
                                    same_row keyword.Dtor _ refl (omega arith) (four_row a_number a_number a_function a_number (λ a b c d. what.DtorRun a b c d) (what_with keyword.Dtor) (λ a b c d. refl)) (λ n m words values is. tt),
                                    (
                                      same_row keyword.Leftover _ refl (omega arith) (one_row a_number (λ a. what.Leftover a) (what_with keyword.Leftover) (λ a. refl)) (λ n m words values is. tt),
                                      (
                                        same_row keyword.Ended _ refl (omega arith) (one_row a_number (λ a. what.EndedWith a) (what_with keyword.Ended) (λ a. refl)) (λ n m words values is. tt),
                                        (
                                          same_row keyword.Key _ refl (omega arith) (one_row a_number (λ a. what.KeyMade a) (what_with keyword.Key) (λ a. refl)) (λ n m words values is. tt),
                                          (
                                            same_row keyword.KeyDelete _ refl (omega arith) (one_row a_number (λ a. what.KeyGone a) (what_with keyword.KeyDelete) (λ a. refl)) (λ n m words values is. tt),
                                            (
                                              same_row keyword.Acquire _ refl (omega arith) (one_row a_mutex (λ a. what.Acquired a) (what_with keyword.Acquire) (λ a. refl)) (λ n m words values is. tt),
                                              (
                                                same_row keyword.Release _ refl (omega arith) (one_row a_mutex (λ a. what.Released a) (what_with keyword.Release) (λ a. refl)) (λ n m words values is. tt),
                                                (
                                                  same_row keyword.Signal _ refl (omega arith) (two_row a_cond a_number (λ a b. what.Signalled a b) (what_with keyword.Signal) (λ a b. refl)) (λ n m words values is. tt),
                                                  (
                                                    same_row keyword.Broadcast _ refl (omega arith) (two_row a_cond a_number (λ a b. what.BroadcastTo a b) (what_with keyword.Broadcast) (λ a b. refl)) (λ n m words values is. tt),
                                                    (
                                                      same_row keyword.CancelWait _ refl (omega arith) (one_row a_cond (λ a. what.WaitCanceled a) (what_with keyword.CancelWait) (λ a. refl)) (λ n m words values is. tt),
                                                      (
                                                        same_row keyword.Expire _ refl (omega arith) (one_row a_cond (λ a. what.WaitExpired a) (what_with keyword.Expire) (λ a. refl)) (λ n m words values is. tt),
                                                        (
                                                          same_row keyword.HandOn _ refl (omega arith) (two_row a_cond a_number (λ a b. what.HandedOn a b) (what_with keyword.HandOn) (λ a b. refl)) (λ n m words values is. tt),
                                                          (
                                                            same_row keyword.Take _ refl (omega arith) (one_row a_semaphore (λ a. what.Taken a) (what_with keyword.Take) (λ a. refl)) (λ n m words values is. tt),
                                                            (
                                                              same_row keyword.Post _ refl (omega arith) (one_row a_semaphore (λ a. what.Posted a) (what_with keyword.Post) (λ a. refl)) (λ n m words values is. tt),
                                                              (
                                                                same_row keyword.Once _ refl (omega arith) once_row (once_ids _),
                                                                (
                                                                  same_row keyword.Fork _ refl (omega arith) (one_row a_positive (λ a. what.Forked a) (what_with keyword.Fork) (λ a. refl)) (forked_id _),
                                                                  (
                                                                    same_row keyword.Prepare _ refl (omega arith) (one_row a_function (λ a. what.PrepareRun a) (what_with keyword.Prepare) (λ a. refl)) (λ n m words values is. tt),
                                                                    (
                                                                      same_row keyword.Parent _ refl (omega arith) (one_row a_function (λ a. what.ParentRun a) (what_with keyword.Parent) (λ a. refl)) (λ n m words values is. tt),
                                                                      (
                                                                        same_row keyword.Child _ refl (omega arith) (one_row a_function (λ a. what.ChildRun a) (what_with keyword.Child) (λ a. refl)) (λ n m words values is. tt),
                                                                        (
                                                                          same_row keyword.Exit _ refl (omega arith) (one_row a_number (λ a. what.ExitBegun a) (what_with keyword.Exit) (λ a. refl)) (λ n m words values is. tt),
                                                                          (
                                                                            same_row keyword.AtExit _ refl (omega arith) (one_row a_function (λ a. what.ExitRun a) (what_with keyword.AtExit) (λ a. refl)) (λ n m words values is. tt),
                                                                            (
                                                                              same_row keyword.ProcessEnd _ refl (omega arith) (one_row a_number (λ a. what.ProcessEnded a) (what_with keyword.ProcessEnd) (λ a. refl)) (λ n m words values is. tt),
                                                                              (
                                                                                same_row keyword.Reap _ refl (omega arith) (two_row a_number a_number (λ a b. what.Reaped a b) (what_with keyword.Reap) (λ a b. refl)) (λ n m words values is. tt),
                                                                                (
                                                                                  same_row keyword.Undefined _ refl (omega arith) (one_row (a_stop keyword.Undefined) (λ a. what.Stopped a) (what_with keyword.Undefined) (λ a. refl)) (λ n m words values is. tt),
                                                                                  (
                                                                                    same_row keyword.Profile _ refl (omega arith) (one_row (a_stop keyword.Profile) (λ a. what.Stopped a) (what_with keyword.Profile) (λ a. refl)) (λ n m words values is. tt),
                                                                                    tt,
                                                                                  ),
                                                                                ),
                                                                              ),
                                                                            ),
                                                                          ),
                                                                        ),
                                                                      ),
                                                                    ),
                                                                  ),
                                                                ),
                                                              ),
                                                            ),
                                                          ),
                                                        ),
                                                      ),
                                                    ),
                                                  ),
                                                ),
                                              ),
                                            ),
                                          ),
                                        ),
                                      ),
                                    ),
                                  ),
                                ),
                              ),
                            ),
                          ),
                        ),
                      ),
                    ),
                  ),
                ),
              ),
            ),
          ),
        ),
      ),
    ),
  ),
)
