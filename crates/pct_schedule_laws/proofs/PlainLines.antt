-- The lines of a report: their words are plain.
use Rattle.pct_names.proofs.Names.{[], Alt, alt_words, and_parts, Bool, Caller, caller_name, class_of_stop, Config, contents_of, decimal}
use Rattle.pct_names.proofs.Names.{declaration_syntax, either, end_line, Entry, entry_line, Event, event_line, event_names, event_words, false}
use Rattle.pct_names.proofs.Names.{format_number, header_line, Keyword, keyword_text, line_kind_of_caller, LineKind, List, list_all, map}
use Rattle.pct_names.proofs.Names.{name_at, name_of_stop, names_of_kind, option_map_or, point_name, points, refl, Row, Script, slice_get}
use Rattle.pct_names.proofs.Names.{stop_words, suc, SymbolKind, syntax_of, thread_text, title_line, true, Verdict, verdict_line}
use Rattle.pct_names.proofs.Names.{verdict_words, What, Why, zero, ℕ, ◌∷◌, ◌≡◌}
use Rattle.pct_model.specs.declared.line_kind.LineKind.TheVariants as line_kind
use Rattle.pct_model.specs.declared.line_kind.SymbolKind.TheVariants as kind
use Rattle.pct_model.specs.declared.event.What.TheVariants as what
use Rattle.pct_model.specs.declared.schedule.Alt.TheVariants as alt
use Rattle.pct_model.specs.declared.stop.Verdict.TheVariants as verdict
use Rattle.pct_model.specs.declared.keyword.Keyword.TheVariants as keyword
use Rattle.pct_schedule_laws.proofs.PlainWords.{is_plain, are_plain, more, decimal_plain, declared_plain, thread_plain, keyword_plain}

-- ---- words

-- a plain word
abbrev PlainWord : Type 0
PlainWord = (w : List ℕ) × (is_plain w ≡ true)

all_plain : (words : List PlainWord) → are_plain (map (λ (w : PlainWord). w.0) words) ≡ true
all_plain [] = refl
all_plain (w ∷ words) = more w.0 (map (λ (x : PlainWord). x.0) words) w.1 (all_plain words)

abbrev fixed : Keyword → PlainWord
fixed k = (keyword_text k, keyword_plain k)

abbrev number : ℕ → PlainWord
number n = (decimal n, decimal_plain n)

abbrev named : Script → SymbolKind → ℕ → PlainWord
named script k i = (name_at (names_of_kind (contents_of script) k) i, declared_plain script k i)

names_of_points : list_all (λ (r : Row). is_plain r.name) points ≡ true
unfolding points
names_of_points = refl

name_in : (rows : List Row) (i : ℕ) → list_all (λ (r : Row). is_plain r.name) rows ≡ true → is_plain (option_map_or (λ (r : Row). r.name) (slice_get rows i) []) ≡ true
name_in [] i all = refl
name_in (r ∷ rows) zero all = (and_parts (is_plain r.name) (list_all (λ (x : Row). is_plain x.name) rows) all).0
name_in (r ∷ rows) (suc i) all = name_in rows i (and_parts (is_plain r.name) (list_all (λ (x : Row). is_plain x.name) rows) all).1

-- the name of a cancellation point is the keyword of its lines
point_plain : (index : ℕ) → is_plain (point_name index) ≡ true
unfolding point_name
point_plain index = name_in points index names_of_points

abbrev cancellation_point : ℕ → PlainWord
cancellation_point index = (point_name index, point_plain index)

-- the keyword of a kind of line
line_plain : (f : LineKind) → is_plain (syntax_of f).keyword ≡ true
unfolding syntax_of declaration_syntax
line_plain (line_kind.Declares kind.Global) = refl
line_plain (line_kind.Point index) = point_plain index
line_plain _ = refl

abbrev caller : Caller → PlainWord
caller call = (caller_name call, line_plain (line_kind_of_caller call))

either_plain : (first second : Keyword) (flag : Bool) → is_plain (either first second flag) ≡ true
either_plain first second true = keyword_plain first
either_plain first second false = keyword_plain second

abbrev one_of : Keyword → Keyword → Bool → PlainWord
one_of first second flag = (either first second flag, either_plain first second flag)

-- ---- events

stop_plain : (w : Why) → are_plain (stop_words w) ≡ true
unfolding stop_words
stop_plain w = all_plain (fixed (class_of_stop w) ∷ fixed (name_of_stop w) ∷ [])

event_plain : (script : Script) (w : What) → are_plain (event_words (event_names script) w) ≡ true
unfolding event_words
event_plain script (what.Emit v) = all_plain (fixed keyword.Emit ∷ number v ∷ [])
event_plain script (what.Created id detached) = all_plain (fixed keyword.Create ∷ number id ∷ one_of keyword.Detached keyword.Joinable detached ∷ [])
event_plain script (what.Answer call n) = all_plain (fixed keyword.Answer ∷ caller call ∷ number n ∷ [])
event_plain script (what.Pushed f a) = all_plain (fixed keyword.Push ∷ named script kind.Function f ∷ number a ∷ [])
event_plain script (what.Popped f a run) = all_plain (fixed keyword.Pop ∷ named script kind.Function f ∷ number a ∷ one_of keyword.Run keyword.Drop run ∷ [])
event_plain script (what.Request id) = all_plain (fixed keyword.Request ∷ number id ∷ [])
event_plain script (what.Detached id) = all_plain (fixed keyword.Detach ∷ number id ∷ [])
event_plain script (what.StateSet enable) = all_plain (fixed keyword.State ∷ one_of keyword.Enable keyword.Disable enable ∷ [])
event_plain script (what.ModeSet asynchronous) = all_plain (fixed keyword.Type ∷ one_of keyword.Asynchronous keyword.Deferred asynchronous ∷ [])
event_plain script (what.Called index) = all_plain (fixed keyword.Call ∷ cancellation_point index ∷ [])
event_plain script (what.Done index) = all_plain (fixed keyword.Done ∷ cancellation_point index ∷ [])
event_plain script (what.Joined id v) = all_plain (fixed keyword.Joined ∷ number id ∷ number v ∷ [])
event_plain script (what.EndingExit v) = all_plain (fixed keyword.Ending ∷ fixed keyword.Exit ∷ number v ∷ [])
event_plain script what.EndingCanceled = all_plain (fixed keyword.Ending ∷ fixed keyword.Canceled ∷ [])
event_plain script (what.EndingInWait c m) = all_plain (fixed keyword.Ending ∷ fixed keyword.Canceled ∷ named script kind.Cond c ∷ named script kind.Mutex m ∷ [])
event_plain script (what.HandlerRun f a) = all_plain (fixed keyword.Handler ∷ named script kind.Function f ∷ number a ∷ [])
event_plain script (what.PassBegun n) = all_plain (fixed keyword.Pass ∷ number n ∷ [])
event_plain script (what.DtorRun pass key f v) = all_plain (fixed keyword.Dtor ∷ number pass ∷ number key ∷ named script kind.Function f ∷ number v ∷ [])
event_plain script (what.Leftover n) = all_plain (fixed keyword.Leftover ∷ number n ∷ [])
event_plain script (what.EndedWith v) = all_plain (fixed keyword.Ended ∷ number v ∷ [])
event_plain script (what.KeyMade k) = all_plain (fixed keyword.Key ∷ number k ∷ [])
event_plain script (what.KeyGone k) = all_plain (fixed keyword.KeyDelete ∷ number k ∷ [])
event_plain script (what.Acquired m) = all_plain (fixed keyword.Acquire ∷ named script kind.Mutex m ∷ [])
event_plain script (what.Released m) = all_plain (fixed keyword.Release ∷ named script kind.Mutex m ∷ [])
event_plain script (what.Signalled c id) = all_plain (fixed keyword.Signal ∷ named script kind.Cond c ∷ number id ∷ [])
event_plain script (what.BroadcastTo c n) = all_plain (fixed keyword.Broadcast ∷ named script kind.Cond c ∷ number n ∷ [])
event_plain script (what.WaitExpired c) = all_plain (fixed keyword.Expire ∷ named script kind.Cond c ∷ [])
event_plain script (what.WaitCanceled c) = all_plain (fixed keyword.CancelWait ∷ named script kind.Cond c ∷ [])
event_plain script (what.HandedOn c id) = all_plain (fixed keyword.HandOn ∷ named script kind.Cond c ∷ number id ∷ [])
event_plain script (what.Taken s) = all_plain (fixed keyword.Take ∷ named script kind.Sem s ∷ [])
event_plain script (what.Posted s) = all_plain (fixed keyword.Post ∷ named script kind.Sem s ∷ [])
event_plain script (what.OnceCalled o) = all_plain (fixed keyword.Once ∷ named script kind.Once o ∷ fixed keyword.Call ∷ [])
event_plain script (what.OnceDone o) = all_plain (fixed keyword.Once ∷ named script kind.Once o ∷ fixed keyword.Done ∷ [])
event_plain script (what.Forked pid) = all_plain (fixed keyword.Fork ∷ number pid ∷ [])
event_plain script (what.PrepareRun f) = all_plain (fixed keyword.Prepare ∷ named script kind.Function f ∷ [])
event_plain script (what.ParentRun f) = all_plain (fixed keyword.Parent ∷ named script kind.Function f ∷ [])
event_plain script (what.ChildRun f) = all_plain (fixed keyword.Child ∷ named script kind.Function f ∷ [])
event_plain script (what.ExitBegun v) = all_plain (fixed keyword.Exit ∷ number v ∷ [])
event_plain script (what.ExitRun f) = all_plain (fixed keyword.AtExit ∷ named script kind.Function f ∷ [])
event_plain script (what.ProcessEnded n) = all_plain (fixed keyword.ProcessEnd ∷ number n ∷ [])
event_plain script (what.Reaped pid n) = all_plain (fixed keyword.Reap ∷ number pid ∷ number n ∷ [])
event_plain script (what.Stopped why) = stop_plain why

pub event_line_plain : (script : Script) (e : Event) → are_plain (event_line script e) ≡ true
unfolding event_line
event_line_plain script e = more (thread_text e.pid e.tid) (event_words (event_names script) e.what) (thread_plain e.pid e.tid) (event_plain script e.what)

-- ---- other lines

verdict_plain : (v : Verdict) → are_plain (verdict_words v) ≡ true
unfolding verdict_words
verdict_plain verdict.Complete = all_plain (fixed keyword.Complete ∷ [])
verdict_plain verdict.Deadlock = all_plain (fixed keyword.Deadlock ∷ [])
verdict_plain verdict.Budget = all_plain (fixed keyword.Budget ∷ [])
verdict_plain verdict.Open = all_plain (fixed keyword.Open ∷ [])
verdict_plain (verdict.Undefined w) = stop_plain w

pub verdict_line_plain : (v : Verdict) → are_plain (verdict_line v) ≡ true
unfolding verdict_line
verdict_line_plain v = more (keyword_text keyword.Verdict) (verdict_words v) (keyword_plain keyword.Verdict) (verdict_plain v)

pub title_line_plain : (c : Config) → are_plain (title_line c) ≡ true
unfolding title_line
title_line_plain c = all_plain (fixed keyword.Report ∷ number (format_number c.format) ∷ [])

pub end_line_plain : (n : ℕ) → are_plain (end_line n) ≡ true
unfolding end_line
end_line_plain n = all_plain (fixed keyword.End ∷ number n ∷ [])

pub header_line_plain : (c : Config) → are_plain (header_line c) ≡ true
unfolding header_line
header_line_plain c = all_plain (fixed keyword.Schedule ∷ number (format_number c.format) ∷ number c.budget ∷ number c.passes ∷ number c.slots ∷ [])

alt_plain : (a : Alt) → are_plain (alt_words a) ≡ true
unfolding alt_words
alt_plain alt.Go = all_plain (fixed keyword.Go ∷ [])
alt_plain (alt.Act n) = all_plain (fixed keyword.Act ∷ number n ∷ [])
alt_plain (alt.New n) = all_plain (fixed keyword.New ∷ number n ∷ [])
alt_plain (alt.Pick n) = all_plain (fixed keyword.Pick ∷ number n ∷ [])
alt_plain (alt.Dtor n) = all_plain (fixed keyword.Dtor ∷ number n ∷ [])
alt_plain alt.Expire = all_plain (fixed keyword.Expire ∷ [])

pub entry_line_plain : (e : Entry) → are_plain (entry_line e) ≡ true
unfolding entry_line
entry_line_plain e =
    more (decimal e.worker) (decimal e.pid ∷ decimal e.tid ∷ alt_words e.alt) (decimal_plain e.worker)
    (more (decimal e.pid) (decimal e.tid ∷ alt_words e.alt) (decimal_plain e.pid) (more (decimal e.tid) (alt_words e.alt) (decimal_plain e.tid) (alt_plain e.alt)))
