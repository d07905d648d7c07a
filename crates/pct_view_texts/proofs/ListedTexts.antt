-- The lines of the threads that are listed, appended one after the other.
use Rattle.pct_names.proofs.Names.{◌+◌, ◌++◌, ◌<◌, [], add-one, ap, arith, Bool, Budget, Complete, cond, Config, Deadlock, Entry}
use Rattle.pct_names.proofs.Names.{entry_line, false, Family, flat_map, flat_map-map, get_or, is_none, length, line_text, List, map, None}
use Rattle.pct_names.proofs.Names.{none-some, OnOk, Open, Option, option_map_or, refl, Result, Script, slice_get, Some, subst, suc, sym}
use Rattle.pct_names.proofs.Names.{take, take_all, take_more, text_of, true, Verdict, verdict_by, verdict_line, verdict_of, Why, World}
use Rattle.pct_names.proofs.Names.{zero, ℕ, ◌∙◌, ◌∷◌, ◌≡◌, ◌≤◌}
use Rattle.std.proofs.Common.{append_assoc, append-nil}
use Rattle.std.proofs.lemmas.Grind.{flat_map-append}
use Rattle.pct_engine_laws.specs.Seen.{SeenProcess, Seen, seen, family_in}
use Rattle.pct_engine_laws.proofs.ListFacts.{flat_map_agree}
use Rattle.pct_place.specs.declared.process_view.ProcessView.{ProcessView}
use Rattle.pct_place.specs.ShownProcesses.{ShowsProcess, ShowsIfSome}
use Rattle.pct_step_context.specs.Numbers.{NewNumbersFit}
use Rattle.pct_step_context.specs.Programs.{ProgramValue}
use Rattle.pct_view_laws.specs.Listed.{ListedThread, entry_by, entries_of, listed_threads}
use Rattle.pct_view_laws.specs.SeenViews.{listed_process, listed_seen}
use Rattle.pct_view_laws.proofs.ListedSeen.{listed_is_seen}
use Rattle.pct_views.specs.declared.thread_view.ThreadView.{ThreadView}
use Rattle.pct_views.specs.ShownThreads.{ShowsThread, ShowsOne}
use Rattle.pct_view_texts.specs.Choices.{choices_text, thread_fields, thread_lines}
use Rattle.pct_view_texts.specs.Fields.{fields_text}
use Rattle.pct_view_texts.specs.ListedLines.{choice_line, entry_lines, goes_on, lines_by, listed_if_some}
use Rattle.pct_view_texts.proofs.Appending.{as_text, both_texts, first_texts, then_text}

-- ---- lists

-- the lists of the first items, and that of the next one, if there is one
joined_more : {A B : Type 0} (f : A → List B) (xs : List A) (i : ℕ) → flat_map f (take i xs) ++ option_map_or f (slice_get xs i) [] ≡ flat_map f (take (suc i) xs)
joined_more f [] zero = refl
joined_more f [] (suc i) = refl
joined_more f (x ∷ xs) zero = sym (append-nil (f x))
joined_more {A} {B} f (x ∷ xs) (suc i) =
    append_assoc (f x) (flat_map f (take i xs)) (option_map_or f (slice_get xs i) []) ∙ ap (λ (rest : List B). f x ++ rest) (joined_more f xs i)

-- the same, by the number of items plus 1
next_joined : {A B : Type 0} (f : A → List B) (xs : List A) (i : ℕ) → flat_map f (take i xs) ++ option_map_or f (slice_get xs i) [] ≡ flat_map f (take (i + 1) xs)
next_joined f xs i = joined_more f xs i ∙ ap (λ (n : ℕ). flat_map f (take n xs)) (sym (add-one i))

-- the same, where there is a next one
next_item : {A B : Type 0} (f : A → List B) (xs : List A) (i : ℕ) (d : A) → i < length xs → flat_map f (take i xs) ++ f (get_or xs i d) ≡ flat_map f (take (i + 1) xs)
next_item {A} {B} f xs i d inside =
    ap (λ (last : List B). flat_map f (take i xs) ++ last) (sym (append-nil (f (get_or xs i d))))
    ∙ sym (flat_map-append f (take i xs) (get_or xs i d ∷ []))
    ∙ ap (flat_map f) (sym (take_more xs i d inside))

-- the texts of the first items were appended, and then that of the next one, if there is one
pub next_text : {A : Type 0} (f : A → List ℕ) (xs : List A) (i : ℕ) (found : Option A) (old mid new : List ℕ)
    → found ≡ slice_get xs i → mid ≡ old ++ flat_map f (take i xs) → new ≡ mid ++ option_map_or f found [] → new ≡ old ++ flat_map f (take (i + 1) xs)
next_text {A} f xs i found old mid new is first next =
    both_texts old mid new (flat_map f (take i xs)) (option_map_or f found []) first next
    ∙ ap (λ (text : List ℕ). old ++ text) (ap (λ (o : Option A). flat_map f (take i xs) ++ option_map_or f o []) is ∙ next_joined f xs i)

-- ---- entries

-- the lines of the entries of a thread, by the ids of its view
pub entry_lines_shown : (l : ListedThread) (view : ThreadView) → ShowsThread l view → flat_map (choice_line view.pid view.tid) l.choices ≡ entry_lines l
entry_lines_shown l view shows =
    (λ i. flat_map (choice_line (shows.pid_is i) (shows.tid_is i)) l.choices)
    ∙ sym (flat_map-map line_text entry_line (map (entry_by l) l.choices) ∙ flat_map-map (λ (e : Entry). line_text (entry_line e)) (entry_by l) l.choices)

-- ---- threads

-- a view is that of the one thread
pub one_listed : (listed : List ListedThread) (view : ThreadView) → ShowsOne listed (Some view) → (l : ListedThread) × (listed ≡ l ∷ []) × ShowsThread l view
one_listed [] view shown = absurd (none-some view (sym shown))
one_listed (l ∷ []) view shown = (l, refl, shown)
one_listed (l ∷ next ∷ rest) view shown = absurd shown

-- the line of the one thread was appended, and then its entries if the run goes on
pub one_text : {E : Type 0} (r : Result (Unit {0}) E) (old mid new : List ℕ) (lines : List (List ℕ)) (script : Script) (going : Bool) (listed : List ListedThread) (l : ListedThread)
    → listed ≡ l ∷ [] → going ≡ true → mid ≡ old ++ fields_text (thread_fields lines script l) → OnOk r (new ≡ mid ++ entry_lines l) → OnOk r (new ≡ old ++ flat_map (lines_by lines script going) listed)
one_text r old mid new lines script going listed l one goes first second =
    let line = fields_text (thread_fields lines script l) in
    as_text r old new (line ++ entry_lines l) (flat_map (lines_by lines script going) listed)
    (sym (append-nil (line ++ entry_lines l))
    ∙ ap (λ (on : Bool). flat_map (lines_by lines script on) (l ∷ [])) (sym goes)
    ∙ ap (flat_map (lines_by lines script going)) (sym one))
    (then_text r old mid new line (entry_lines l) first second)

-- ---- slots

-- the threads on one slot more were appended
pub next_slot : {A : Type 0} (text : ListedThread → List ℕ) (ended : Bool) (on : A → List ListedThread) (slots : List A) (i : ℕ) (d : A) → i < length slots
    → flat_map text (cond ended [] (flat_map on (take i slots))) ++ flat_map text (cond ended [] (on (get_or slots i d))) ≡ flat_map text (cond ended [] (flat_map on (take (i + 1) slots)))
next_slot text true on slots i d inside = refl
next_slot text false on slots i d inside =
    sym (flat_map-append text (flat_map on (take i slots)) (on (get_or slots i d))) ∙ ap (flat_map text) (next_item on slots i d inside)

-- ---- processes

-- the numbers that new threads and keys of a process that is shown can get
pub numbers_fit : (program : ProgramValue) (v : Seen) (found : Option SeenProcess) (view : ProcessView) → ShowsIfSome program v found (Some view) → NewNumbersFit view.state.now
numbers_fit program v None view shown = absurd (none-some view (sym shown))
numbers_fit program v (Some p) view shown = subst NewNumbersFit (sym shown.state_is) shown.can_step.numbers

-- what holds of the threads of a process that is shown
pub of_shown : (P : List ListedThread → Type 0) (program : ProgramValue) (v : Seen) (found : Option SeenProcess) (view : ProcessView) → ShowsIfSome program v found (Some view)
    → ((family : Family) (p : SeenProcess) → ShowsProcess program family p view → P (listed_process program.script program.config family p)) → P (listed_if_some program.script program.config v found)
of_shown P program v None view shown each = absurd (none-some view (sym shown))
of_shown P program v (Some p) view shown each = each (family_in v p.pid) p shown

-- the threads of the first processes were appended. The number of the processes is known once one was looked for
pub record AreAppended (old new : List ℕ) (text : ListedThread → List ℕ) (script : Script) (config : Config) (v : Seen) (i : ℕ) : Type 0 where
  pub text_is : new ≡ old ++ flat_map text (flat_map (λ p. listed_process script config (family_in v p.pid) p) (take i v.processes))
  pub few : 0 < i → length v.processes ≤ 8

-- and then those of the next one, if there is one
pub next_process : (old mid new : List ℕ) (text : ListedThread → List ℕ) (script : Script) (config : Config) (v : Seen) (i : ℕ) → AreAppended old mid text script config v i
    → length v.processes ≤ 8 → new ≡ mid ++ flat_map text (listed_if_some script config v (slice_get v.processes i)) → AreAppended old new text script config v (i + 1)
next_process old mid new text script config v i appended few next = record {
  text_is =
      let of : SeenProcess → List ListedThread = λ p. listed_process script config (family_in v p.pid) p in
      both_texts old mid new (flat_map text (flat_map of (take i v.processes))) (flat_map text (listed_if_some script config v (slice_get v.processes i))) appended.text_is next
      ∙ ap (λ (all : List ℕ). old ++ all) (sym (flat_map-append text (flat_map of (take i v.processes)) (listed_if_some script config v (slice_get v.processes i))) ∙ ap (flat_map text) (next_joined of v.processes i));
  few = λ some. few;
}

-- and so those of all processes: there are at most eight
pub all_processes : (old new : List ℕ) (text : ListedThread → List ℕ) (script : Script) (config : Config) (v : Seen) (i : ℕ) → AreAppended old new text script config v i
    → 8 ≤ i → new ≡ old ++ flat_map text (listed_seen script config v)
unfolding listed_seen
all_processes old new text script config v i appended end =
    let few : length v.processes ≤ 8 = appended.few (omega arith) in
    appended.text_is ∙ ap (λ (ps : List SeenProcess). old ++ flat_map text (flat_map (λ p. listed_process script config (family_in v p.pid) p) ps)) (take_all i v.processes (omega arith))

-- ---- the text

-- the run goes on exactly if there is no stop
going_by : (ended ready full : Bool) → goes_on (cond ended Complete (cond ready Deadlock (cond full Budget Open))) ≡ true
going_by true ready full = refl
going_by false true full = refl
going_by false false true = refl
going_by false false false = refl

goes_on_by : (stop : Option Why) (script : Script) (config : Config) (w : World) (n : ℕ) → goes_on (verdict_by stop script config w n) ≡ is_none stop
goes_on_by None script config w n = going_by _ _ _
goes_on_by (Some why) script config w n = refl

goes_on_unless_stopped : (script : Script) (config : Config) (w : World) (n : ℕ) → goes_on (verdict_of script config w n) ≡ is_none w.stop
unfolding verdict_of
goes_on_unless_stopped script config w n = goes_on_by w.stop script config w n

-- the lines of a thread in a state
entries_by : (going : Bool) (l : ListedThread) → cond going (entry_lines l) [] ≡ text_of (map entry_line (cond going (map (entry_by l) l.choices) []))
entries_by true l = refl
entries_by false l = refl

thread_lines_by : (lines : List (List ℕ)) (script : Script) (w : World) (l : ListedThread) → lines_by lines script (is_none w.stop) l ≡ thread_lines lines script w l
unfolding entries_of
thread_lines_by lines script w l = ap (λ (entries : List ℕ). fields_text (thread_fields lines script l) ++ entries) (entries_by (is_none w.stop) l)

-- the lines of all threads in a state
all_lines : (lines : List (List ℕ)) (script : Script) (config : Config) (w : World) (n : ℕ) → 0 < config.slots
    → flat_map (lines_by lines script (goes_on (verdict_of script config w n))) (listed_seen script config (seen config.slots w)) ≡ flat_map (thread_lines lines script w) (listed_threads script config w)
all_lines lines script config w n some =
    let v : Seen = seen config.slots w in
    ap (λ (going : Bool). flat_map (lines_by lines script going) (listed_seen script config v)) (goes_on_unless_stopped script config w n)
    ∙ flat_map_agree (lines_by lines script (is_none w.stop)) (thread_lines lines script w) (thread_lines_by lines script w) (listed_seen script config v)
    ∙ ap (flat_map (thread_lines lines script w)) (sym (listed_is_seen script config w some))

-- the line of the verdict was appended to an empty text, and then the lines of the threads
pub all_text : (start mid new : List ℕ) (lines : List (List ℕ)) (source : Script) (going : Bool) (script : Script) (config : Config) (w : World) (n : ℕ) (verdict : Verdict)
    → 0 < config.slots → source ≡ script → verdict ≡ verdict_of script config w n → going ≡ goes_on verdict → start ≡ [] → mid ≡ start ++ line_text (verdict_line verdict)
    → new ≡ mid ++ flat_map (lines_by lines source going) (listed_seen script config (seen config.slots w)) → new ≡ choices_text lines script config w n
unfolding choices_text
all_text start mid new lines source going script config w n verdict some same is goes none first second =
    let listed = listed_seen script config (seen config.slots w) in
    let line = line_text (verdict_line (verdict_of script config w n)) in
    let goes_so : going ≡ goes_on (verdict_of script config w n) = goes ∙ ap goes_on is in
    first_texts start mid new (line_text (verdict_line verdict)) (flat_map (lines_by lines source going) listed) none first second
    ∙ (λ i. line_text (verdict_line (is i)) ++ flat_map (lines_by lines (same i) (goes_so i)) listed)
    ∙ ap (λ (text : List ℕ). line ++ text) (all_lines lines script config w n some)
