-- Words have the form of an event exactly if they are read as an event.
use Rattle.pct_names.proofs.Names.{◌≡◌, ℕ, Bool, true, false, cond, not, ◌&&◌, ◌||◌, ◌>>=◌, List, [], ◌∷◌, ◌++◌, Option, Some, None}
use Rattle.pct_names.proofs.Names.{Keyword, What, all_different, and_parts, ap, ap₂, bytes_eq, find, is_some, keyword_text, list_any, list_any-append, map, not-true}
use Rattle.pct_names.proofs.Names.{number_of, option_map, refl, split_once, sym, ◌∙◌}
use Rattle.pct_model.specs.declared.event.What.TheVariants as what
use Rattle.pct_model.specs.declared.keyword.Keyword.TheVariants as keyword
use Rattle.pct_model.specs.declared.line_kind.SymbolKind.TheVariants as symbol
use Rattle.pct_model.specs.EventTexts.{EventNames}
use Rattle.pct_model.proofs.Bytes.{same_bytes}
use Rattle.pct_name_numbers.specs.EventReading.{caller_of, cond_variable, ending, event_keyword, event_keywords, event_of, fields_of, flag, function, mutex}
use Rattle.pct_name_numbers.specs.EventReading.{not_zero, number, once_control, once_event, one, plain, point_index, semaphore, stop_in, stop_of, thread_of, two, what_of}
use Rattle.pct_report_reader.specs.declared.text.WordKind.{WordKind}
use Rattle.pct_report_reader.specs.declared.text.WordKind.TheVariants as kind
use Rattle.pct_report_reader.specs.Reading.{are_positive, is_event_of_words, is_thread}
use Rattle.pct_report_reader.specs.Texts.{Form, are_words, event_forms, form, has_form, is_positive, is_word}
use Rattle.pct_event_forms.proofs.WordsRead.{Reads, bind_tests, bytes_eq-swapped, call_reads, either_reads, four_row, is_not_zero, last_test, name_reads, number_reads, one_row}
use Rattle.pct_event_forms.proofs.WordsRead.{or_nothing, is_fixed, is_some-map, is_swapped, other_count, point_reads, positive_reads, stop_reads, swapped_reads, three_row, two_row}

-- ---- names of each kind

abbrev function_kind : WordKind
function_kind = kind.Name symbol.Function

abbrev mutex_kind : WordKind
mutex_kind = kind.Name symbol.Mutex

abbrev cond_kind : WordKind
cond_kind = kind.Name symbol.Cond

abbrev sem_kind : WordKind
sem_kind = kind.Name symbol.Sem

abbrev once_kind : WordKind
once_kind = kind.Name symbol.Once

function_reads : Reads function_kind function
function_reads = λ n w. name_reads symbol.Function n.functions _ w

mutex_reads : Reads mutex_kind mutex
mutex_reads = λ n w. name_reads symbol.Mutex n.mutexes _ w

cond_reads : Reads cond_kind cond_variable
cond_reads = λ n w. name_reads symbol.Cond n.conds _ w

sem_reads : Reads sem_kind semaphore
sem_reads = λ n w. name_reads symbol.Sem n.sems _ w

once_reads : Reads once_kind once_control
once_reads = λ n w. name_reads symbol.Once n.onces _ w

-- ---- the forms with a first word

-- the kinds of the words after it, a list for each form
kinds_after : Keyword → List (List WordKind)
kinds_after keyword.Emit = (kind.Number ∷ []) ∷ []
kinds_after keyword.Create = (kind.Positive ∷ kind.Either keyword.Joinable keyword.Detached ∷ []) ∷ []
kinds_after keyword.Answer = (kind.Call ∷ kind.Number ∷ []) ∷ []
kinds_after keyword.Push = (function_kind ∷ kind.Number ∷ []) ∷ []
kinds_after keyword.Pop = (function_kind ∷ kind.Number ∷ kind.Either keyword.Run keyword.Drop ∷ []) ∷ []
kinds_after keyword.Request = (kind.Number ∷ []) ∷ []
kinds_after keyword.Detach = (kind.Number ∷ []) ∷ []
kinds_after keyword.State = (kind.Either keyword.Enable keyword.Disable ∷ []) ∷ []
kinds_after keyword.Type = (kind.Either keyword.Asynchronous keyword.Deferred ∷ []) ∷ []
kinds_after keyword.Call = (kind.Point ∷ []) ∷ []
kinds_after keyword.Done = (kind.Point ∷ []) ∷ []
kinds_after keyword.Joined = (kind.Number ∷ kind.Number ∷ []) ∷ []
kinds_after keyword.Ending = (kind.Word keyword.Exit ∷ kind.Number ∷ []) ∷ (kind.Word keyword.Canceled ∷ []) ∷ (kind.Word keyword.Canceled ∷ cond_kind ∷ mutex_kind ∷ []) ∷ []
kinds_after keyword.Handler = (function_kind ∷ kind.Number ∷ []) ∷ []
kinds_after keyword.Pass = (kind.Number ∷ []) ∷ []
kinds_after keyword.Dtor = (kind.Number ∷ kind.Number ∷ function_kind ∷ kind.Number ∷ []) ∷ []
kinds_after keyword.Leftover = (kind.Number ∷ []) ∷ []
kinds_after keyword.Ended = (kind.Number ∷ []) ∷ []
kinds_after keyword.Key = (kind.Number ∷ []) ∷ []
kinds_after keyword.KeyDelete = (kind.Number ∷ []) ∷ []
kinds_after keyword.Acquire = (mutex_kind ∷ []) ∷ []
kinds_after keyword.Release = (mutex_kind ∷ []) ∷ []
kinds_after keyword.Signal = (cond_kind ∷ kind.Number ∷ []) ∷ []
kinds_after keyword.Broadcast = (cond_kind ∷ kind.Number ∷ []) ∷ []
kinds_after keyword.CancelWait = (cond_kind ∷ []) ∷ []
kinds_after keyword.Expire = (cond_kind ∷ []) ∷ []
kinds_after keyword.HandOn = (cond_kind ∷ kind.Number ∷ []) ∷ []
kinds_after keyword.Take = (sem_kind ∷ []) ∷ []
kinds_after keyword.Post = (sem_kind ∷ []) ∷ []
kinds_after keyword.Once = (once_kind ∷ kind.Either keyword.Call keyword.Done ∷ []) ∷ []
kinds_after keyword.Fork = (kind.Positive ∷ []) ∷ []
kinds_after keyword.Prepare = (function_kind ∷ []) ∷ []
kinds_after keyword.Parent = (function_kind ∷ []) ∷ []
kinds_after keyword.Child = (function_kind ∷ []) ∷ []
kinds_after keyword.Exit = (kind.Number ∷ []) ∷ []
kinds_after keyword.AtExit = (function_kind ∷ []) ∷ []
kinds_after keyword.ProcessEnd = (kind.Number ∷ []) ∷ []
kinds_after keyword.Reap = (kind.Number ∷ kind.Number ∷ []) ∷ []
kinds_after keyword.Undefined = (kind.Stop keyword.Undefined ∷ []) ∷ []
kinds_after keyword.Profile = (kind.Stop keyword.Profile ∷ []) ∷ []
kinds_after _ = []

forms_of : List Keyword → List Form
forms_of [] = []
forms_of (k ∷ keywords) = map (form k) (kinds_after k) ++ forms_of keywords

event_forms-by_keyword : event_forms ≡ forms_of event_keywords
unfolding event_forms forms_of kinds_after
event_forms-by_keyword = refl

keywords_differ : all_different (map keyword_text event_keywords) ≡ true
unfolding all_different keyword_text
keywords_differ = refl

-- ---- the rows of the table

-- one form
alone : {b c : Bool} → b ≡ c → (b || false) ≡ c
alone {b = b} same = or_nothing b ∙ same

one_word : {X : Type 0} (x : X) (e d : Bool) → ((e && false) || ((d && true) || ((d && false) || false))) ≡ is_some (cond d (Some x) None)
one_word x true true = refl
one_word x true false = refl
one_word x false true = refl
one_word x false false = refl

two_words : {X : Type 0} (d s c p : Bool) (o : Option X) → s ≡ is_some o → ((d && s) || ((c && false) || ((c && (p && false)) || false))) ≡ is_some (cond d o None)
two_words true s true true o same = or_nothing s ∙ same
two_words true s true false o same = or_nothing s ∙ same
two_words true s false p o same = or_nothing s ∙ same
two_words false s true true o same = refl
two_words false s true false o same = refl
two_words false s false p o same = refl

three_words : {X : Type 0} (e q d s : Bool) (o : Option X) → s ≡ is_some o → ((e && (q && false)) || ((d && false) || ((d && s) || false))) ≡ is_some (cond d o None)
three_words true true true s o same = or_nothing s ∙ same
three_words true false true s o same = or_nothing s ∙ same
three_words false q true s o same = or_nothing s ∙ same
three_words true true false s o same = refl
three_words true false false s o same = refl
three_words false q false s o same = refl

none_of : (a b c : Bool) → a ≡ false → b ≡ false → c ≡ false → (a || (b || (c || false))) ≡ false
none_of a b c p q r = ap (λ (t : Bool). t || (b || (c || false))) p ∙ ap (λ (t : Bool). t || (c || false)) q ∙ ap (λ (t : Bool). t || false) r

abbrev exit_word : WordKind
exit_word = kind.Word keyword.Exit

abbrev canceled_word : WordKind
canceled_word = kind.Word keyword.Canceled

module _ (n : EventNames) where
  ending_row : (words : List (List ℕ)) → list_any (λ ks. are_words ks words) (kinds_after keyword.Ending) ≡ is_some (ending n words)
  unfolding are_words kinds_after
  ending_row [] = refl
  ending_row (w ∷ []) =
      ap (λ (t : Bool). (is_word exit_word w && false) || ((t && true) || ((t && false) || false))) (is_fixed keyword.Canceled w)
      ∙ one_word (n, what.EndingCanceled) (is_word exit_word w) (bytes_eq w (keyword_text keyword.Canceled))
  ending_row (w ∷ v ∷ []) =
      let c = is_word canceled_word w in
      let p = is_word cond_kind v in
      let s = is_word kind.Number v && true in
      ap (λ (t : Bool). (t && s) || ((c && false) || ((c && (p && false)) || false))) (is_fixed keyword.Exit w)
      ∙ two_words (bytes_eq w (keyword_text keyword.Exit)) s c p (one (λ v. what.EndingExit v) number n (v ∷ []))
      (one_row kind.Number number number_reads (λ v. what.EndingExit v) n (v ∷ []))
  ending_row (w ∷ c ∷ m ∷ []) =
      let e = is_word exit_word w in
      let q = is_word kind.Number c in
      let s = is_word cond_kind c && (is_word mutex_kind m && true) in
      ap (λ (t : Bool). (e && (q && false)) || ((t && false) || ((t && s) || false))) (is_fixed keyword.Canceled w)
      ∙ three_words e q (bytes_eq w (keyword_text keyword.Canceled)) s (two (λ c m. what.EndingInWait c m) cond_variable mutex n (c ∷ m ∷ []))
      (two_row cond_kind mutex_kind cond_variable mutex cond_reads mutex_reads (λ c m. what.EndingInWait c m) n (c ∷ m ∷ []))
  ending_row (w ∷ c ∷ m ∷ x ∷ words) =
      let all : List (List ℕ) = w ∷ c ∷ m ∷ x ∷ words in
      none_of (are_words (exit_word ∷ kind.Number ∷ []) all) (are_words (canceled_word ∷ []) all) (are_words (canceled_word ∷ cond_kind ∷ mutex_kind ∷ []) all)
      (other_count (exit_word ∷ kind.Number ∷ []) all refl) (other_count (canceled_word ∷ []) all refl) (other_count (canceled_word ∷ cond_kind ∷ mutex_kind ∷ []) all refl)

  once_row : (words : List (List ℕ)) → are_words (once_kind ∷ kind.Either keyword.Call keyword.Done ∷ []) words ≡ is_some (once_event n words)
  unfolding are_words
  once_row [] = refl
  once_row (o ∷ []) = other_count (once_kind ∷ kind.Either keyword.Call keyword.Done ∷ []) (o ∷ []) refl
  once_row (o ∷ w ∷ []) =
      let either = kind.Either keyword.Call keyword.Done in
      bind_tests (is_word once_kind o) (is_word either w && true) (once_control n o) _ (once_reads n o)
      (λ r. last_test (is_word either w) (flag keyword.Done keyword.Call w) _ (is_swapped keyword.Done keyword.Call w))
  once_row (o ∷ w ∷ x ∷ words) = other_count (once_kind ∷ kind.Either keyword.Call keyword.Done ∷ []) (o ∷ w ∷ x ∷ words) refl

  number_row : (make : ℕ → What) (words : List (List ℕ)) → (are_words (kind.Number ∷ []) words || false) ≡ is_some (one make number n words)
  number_row make words = alone (one_row kind.Number number number_reads make n words)

  function_row : (make : ℕ → What) (words : List (List ℕ)) → (are_words (function_kind ∷ []) words || false) ≡ is_some (one make function n words)
  function_row make words = alone (one_row function_kind function function_reads make n words)

  mutex_row : (make : ℕ → What) (words : List (List ℕ)) → (are_words (mutex_kind ∷ []) words || false) ≡ is_some (one make mutex n words)
  mutex_row make words = alone (one_row mutex_kind mutex mutex_reads make n words)

  cond_row : (make : ℕ → What) (words : List (List ℕ)) → (are_words (cond_kind ∷ []) words || false) ≡ is_some (one make cond_variable n words)
  cond_row make words = alone (one_row cond_kind cond_variable cond_reads make n words)

  sem_row : (make : ℕ → What) (words : List (List ℕ)) → (are_words (sem_kind ∷ []) words || false) ≡ is_some (one make semaphore n words)
  sem_row make words = alone (one_row sem_kind semaphore sem_reads make n words)

  point_row : (make : ℕ → What) (words : List (List ℕ)) → (are_words (kind.Point ∷ []) words || false) ≡ is_some (one make (plain point_index) n words)
  point_row make words = alone (one_row kind.Point (plain point_index) point_reads make n words)

  flag_row : (first second : Keyword) (make : Bool → What) (words : List (List ℕ)) → (are_words (kind.Either first second ∷ []) words || false) ≡ is_some (one make (plain (flag first second)) n words)
  flag_row first second make words = alone (one_row (kind.Either first second) (plain (flag first second)) (either_reads first second) make n words)

  stop_row : (class : Keyword) (words : List (List ℕ)) → (are_words (kind.Stop class ∷ []) words || false) ≡ is_some (stop_in class n words)
  stop_row class words = alone (one_row (kind.Stop class) (plain (stop_of (keyword_text class))) (stop_reads class) (λ w. what.Stopped w) n words)

  numbers_row : (make : ℕ → ℕ → What) (words : List (List ℕ)) → (are_words (kind.Number ∷ kind.Number ∷ []) words || false) ≡ is_some (two make number number n words)
  numbers_row make words = alone (two_row kind.Number kind.Number number number number_reads number_reads make n words)

  call_row : (make : ℕ → ℕ → What) (words : List (List ℕ)) → (are_words (function_kind ∷ kind.Number ∷ []) words || false) ≡ is_some (two make function number n words)
  call_row make words = alone (two_row function_kind kind.Number function number function_reads number_reads make n words)

  cond_number_row : (make : ℕ → ℕ → What) (words : List (List ℕ)) → (are_words (cond_kind ∷ kind.Number ∷ []) words || false) ≡ is_some (two make cond_variable number n words)
  cond_number_row make words = alone (two_row cond_kind kind.Number cond_variable number cond_reads number_reads make n words)

  row : (k : Keyword) (words : List (List ℕ)) → list_any (λ ks. are_words ks words) (kinds_after k) ≡ is_some (fields_of k n words)
  unfolding kinds_after fields_of
  row keyword.Emit words = number_row (λ v. what.Emit v) words
  row keyword.Create words =
      alone (two_row kind.Positive (kind.Either keyword.Joinable keyword.Detached) (plain not_zero) (plain (flag keyword.Detached keyword.Joinable)) positive_reads
      (swapped_reads keyword.Detached keyword.Joinable) (λ id detached. what.Created id detached) n words)
  row keyword.Answer words = alone (two_row kind.Call kind.Number (plain caller_of) number call_reads number_reads (λ call v. what.Answer call v) n words)
  row keyword.Push words = call_row (λ f a. what.Pushed f a) words
  row keyword.Pop words =
      alone (three_row function_kind kind.Number (kind.Either keyword.Run keyword.Drop) function number (plain (flag keyword.Run keyword.Drop)) function_reads number_reads
      (either_reads keyword.Run keyword.Drop) (λ f a run. what.Popped f a run) n words)
  row keyword.Request words = number_row (λ id. what.Request id) words
  row keyword.Detach words = number_row (λ id. what.Detached id) words
  row keyword.State words = flag_row keyword.Enable keyword.Disable (λ enable. what.StateSet enable) words
  row keyword.Type words = flag_row keyword.Asynchronous keyword.Deferred (λ asynchronous. what.ModeSet asynchronous) words
  row keyword.Call words = point_row (λ point. what.Called point) words
  row keyword.Done words = point_row (λ point. what.Done point) words
  row keyword.Joined words = numbers_row (λ id v. what.Joined id v) words
  row keyword.Ending words = ending_row words
  row keyword.Handler words = call_row (λ f a. what.HandlerRun f a) words
  row keyword.Pass words = number_row (λ k. what.PassBegun k) words
  row keyword.Dtor words =
      alone (four_row kind.Number kind.Number function_kind kind.Number number number function number number_reads number_reads function_reads number_reads
      (λ pass key f v. what.DtorRun pass key f v) n words)
  row keyword.Leftover words = number_row (λ k. what.Leftover k) words
  row keyword.Ended words = number_row (λ v. what.EndedWith v) words
  row keyword.Key words = number_row (λ k. what.KeyMade k) words
  row keyword.KeyDelete words = number_row (λ k. what.KeyGone k) words
  row keyword.Acquire words = mutex_row (λ m. what.Acquired m) words
  row keyword.Release words = mutex_row (λ m. what.Released m) words
  row keyword.Signal words = cond_number_row (λ c id. what.Signalled c id) words
  row keyword.Broadcast words = cond_number_row (λ c k. what.BroadcastTo c k) words
  row keyword.CancelWait words = cond_row (λ c. what.WaitCanceled c) words
  row keyword.Expire words = cond_row (λ c. what.WaitExpired c) words
  row keyword.HandOn words = cond_number_row (λ c id. what.HandedOn c id) words
  row keyword.Take words = sem_row (λ s. what.Taken s) words
  row keyword.Post words = sem_row (λ s. what.Posted s) words
  row keyword.Once words = alone (once_row words)
  row keyword.Fork words = alone (one_row kind.Positive (plain not_zero) positive_reads (λ pid. what.Forked pid) n words)
  row keyword.Prepare words = function_row (λ f. what.PrepareRun f) words
  row keyword.Parent words = function_row (λ f. what.ParentRun f) words
  row keyword.Child words = function_row (λ f. what.ChildRun f) words
  row keyword.Exit words = number_row (λ v. what.ExitBegun v) words
  row keyword.AtExit words = function_row (λ f. what.ExitRun f) words
  row keyword.ProcessEnd words = number_row (λ v. what.ProcessEnded v) words
  row keyword.Reap words = numbers_row (λ pid v. what.Reaped pid v) words
  row keyword.Undefined words = stop_row keyword.Undefined words
  row keyword.Profile words = stop_row keyword.Profile words
  row _ words = refl

-- ---- the table

or_none : (a b : Bool) → (a || b) ≡ false → (a ≡ false) × (b ≡ false)
or_none true b e = absurd cc
or_none false b e = (refl, e)

module _ (n : EventNames) (w : List ℕ) (words : List (List ℕ)) where
  -- the forms with the first word w, and those with another
  matched : (k : Keyword) → bytes_eq (keyword_text k) w ≡ true → (kinds : List (List WordKind))
      → list_any (has_form (w ∷ words)) (map (form k) kinds) ≡ list_any (λ ks. are_words ks words) kinds
  matched k here [] = refl
  matched k here (ks ∷ kinds) = ap₂ (λ (a b : Bool). (a && are_words ks words) || b) here (matched k here kinds)

  unmatched : (k : Keyword) → bytes_eq (keyword_text k) w ≡ false → (kinds : List (List WordKind)) → list_any (has_form (w ∷ words)) (map (form k) kinds) ≡ false
  unmatched k other [] = refl
  unmatched k other (ks ∷ kinds) = ap₂ (λ (a b : Bool). (a && are_words ks words) || b) other (unmatched k other kinds)

  first_part : (k : Keyword) (keywords : List Keyword) → list_any (has_form (w ∷ words)) (forms_of (k ∷ keywords))
      ≡ (list_any (has_form (w ∷ words)) (map (form k) (kinds_after k)) || list_any (has_form (w ∷ words)) (forms_of keywords))
  unfolding forms_of
  first_part k keywords = list_any-append (has_form (w ∷ words)) (map (form k) (kinds_after k)) (forms_of keywords)

  no_forms : list_any (has_form (w ∷ words)) (forms_of []) ≡ false
  unfolding forms_of
  no_forms = refl

  none_later : (keywords : List Keyword) → list_any (bytes_eq w) (map keyword_text keywords) ≡ false → list_any (has_form (w ∷ words)) (forms_of keywords) ≡ false
  none_later [] none = no_forms
  none_later (k ∷ keywords) none =
      let parts = or_none (bytes_eq w (keyword_text k)) (list_any (bytes_eq w) (map keyword_text keywords)) none in
      first_part k keywords ∙ ap₂ (λ (a b : Bool). a || b) (unmatched k (bytes_eq-swapped (keyword_text k) w ∙ parts.0) (kinds_after k)) (none_later keywords parts.1)

  abbrev found_in : List Keyword → Option Keyword
  found_in keywords = find (λ k. bytes_eq (keyword_text k) w) keywords

  by_first : (k : Keyword) (keywords : List Keyword) (here : Bool) → bytes_eq (keyword_text k) w ≡ here → list_any (bytes_eq (keyword_text k)) (map keyword_text keywords) ≡ false
      → list_any (has_form (w ∷ words)) (forms_of keywords) ≡ is_some (found_in keywords >>= λ q. fields_of q n words)
      → list_any (has_form (w ∷ words)) (forms_of (k ∷ keywords)) ≡ is_some (cond here (Some k) (found_in keywords) >>= λ q. fields_of q n words)
  by_first k keywords true here none later =
      let none_is = none_later keywords (ap (λ v. list_any (bytes_eq v) (map keyword_text keywords)) (sym (same_bytes (keyword_text k) w here)) ∙ none) in
      first_part k keywords ∙ ap₂ (λ (a b : Bool). a || b) (matched k here (kinds_after k) ∙ row n k words) none_is ∙ or_nothing (is_some (fields_of k n words))
  by_first k keywords false other none later = first_part k keywords ∙ ap₂ (λ (a b : Bool). a || b) (unmatched k other (kinds_after k)) later

  by_keyword : (keywords : List Keyword) → all_different (map keyword_text keywords) ≡ true
      → list_any (has_form (w ∷ words)) (forms_of keywords) ≡ is_some (found_in keywords >>= λ k. fields_of k n words)
  unfolding all_different
  by_keyword [] different = no_forms
  by_keyword (k ∷ keywords) different =
      let parts = and_parts (not (list_any (bytes_eq (keyword_text k)) (map keyword_text keywords))) (all_different (map keyword_text keywords)) different in
      by_first k keywords (bytes_eq (keyword_text k) w) refl (not-true (list_any (bytes_eq (keyword_text k)) (map keyword_text keywords)) parts.0) (by_keyword keywords parts.1)

-- ---- lines

no_word : (forms : List Form) → list_any (has_form []) forms ≡ false
no_word [] = refl
no_word (f ∷ forms) = no_word forms

what_read : (n : EventNames) (words : List (List ℕ)) → list_any (has_form words) event_forms ≡ is_some (what_of n words)
unfolding what_of event_keyword
what_read n [] = no_word event_forms
what_read n (w ∷ words) = ap (list_any (has_form (w ∷ words))) event_forms-by_keyword ∙ by_keyword n w words event_keywords keywords_differ

abbrev pair : ℕ → ℕ → ℕ × ℕ
pair pid tid = (pid, tid)

thread_step : (parts : Option (List ℕ × List ℕ)) → are_positive parts ≡ is_some (parts >>= λ p. not_zero p.0 >>= λ pid. option_map (pair pid) (not_zero p.1))
thread_step None = refl
thread_step (Some parts) =
    bind_tests (is_positive (number_of parts.0)) (is_positive (number_of parts.1)) (not_zero parts.0) _ (is_not_zero parts.0) (λ pid. is_not_zero parts.1 ∙ is_some-map (pair pid) (not_zero parts.1))

thread_read : (w : List ℕ) → is_thread w ≡ is_some (thread_of w)
unfolding is_thread thread_of
thread_read w = thread_step (split_once 46 w)

pub event_read : (n : EventNames) (words : List (List ℕ)) → is_event_of_words words ≡ is_some (event_of n words)
event_read n [] = refl
event_read n (w ∷ words) =
    bind_tests (is_thread w) (list_any (has_form words) event_forms) (thread_of w) _ (thread_read w) (λ thread. what_read n words ∙ is_some-map _ (what_of n words))
