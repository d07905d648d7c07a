-- What the judge keeps after an event more.
use Rattle.std.proofs.Common.{◌≡◌, ℕ, Bool, true, false, ◌&&◌, ◌||◌, cond, List, ◌∷◌, Option, Some, refl, sym, ap, ◌∙◌, subst, arith, nat_eq}
use Rattle.std.specs.List.{list_any}
use Rattle.std.specs.Option.{option_map_or}
use Rattle.std.proofs.lemmas.Bool.{and_parts, eqb-true}
use Rattle.pct_model.specs.declared.event.Event.{Event}
use Rattle.pct_model.specs.declared.event.What.{What}
use Rattle.pct_model.specs.declared.event.What.TheVariants as what
use Rattle.pct_model.specs.ThreadCalls.{join_point}
use Rattle.pct_laws.specs.KnownThreads.{is_in, makes_process, is_own, is_fork_of, creates_id, detaches_id, joins_id, is_known, is_detached, is_joined}
use Rattle.pct_laws.specs.NewestEvents.{newest_event, newest_is, reports_call}
use Rattle.pct_laws.specs.Once.{is_pair}
use Rattle.pct_laws.specs.ThreadSummary.{ThreadSummary, with_event, summary_of}
use Rattle.pct_laws.specs.WaitStages.{stage_after, wait_stage}
use Rattle.pct_audit.specs.declared.rows.Row.{Row}
use Rattle.pct_audit.specs.DestroyedEvents.{destroys}
use Rattle.pct_audit.specs.IsRow.{IsRow, IsThread, IsOwnChange, Grows, names, marked, copied}

abbrev Stacks : Type 0
Stacks = List (List (ℕ × ℕ))

-- ---- summaries

row_grows : (a b : Stacks) (row : Row) (s : ThreadSummary) → Grows a b → IsRow a row s → IsRow b row s
row_grows a b row s grows is = record {
  handlers_number = omega (arith, is.handlers_number, grows.more);
  handlers = grows.same row.handlers is.handlers_number ∙ is.handlers;
  left_number = omega (arith, is.left_number, grows.more);
  left = grows.same row.left is.left_number ∙ is.left;
  reason = is.reason;
  ended = is.ended;
  passes = is.passes;
}

row_marked : (stacks : Stacks) (w : What) (row : Row) (s : ThreadSummary) → IsRow stacks row s → IsRow stacks (marked w row) s
row_marked stacks (what.Created id detached) row s is = record { handlers_number = is.handlers_number; handlers = is.handlers; left_number = is.left_number; left = is.left; reason = is.reason; ended = is.ended; passes = is.passes }
row_marked stacks (what.Detached id) row s is = record { handlers_number = is.handlers_number; handlers = is.handlers; left_number = is.left_number; left = is.left; reason = is.reason; ended = is.ended; passes = is.passes }
row_marked stacks (what.Joined id v) row s is = record { handlers_number = is.handlers_number; handlers = is.handlers; left_number = is.left_number; left = is.left; reason = is.reason; ended = is.ended; passes = is.passes }
row_marked stacks _ row s is = is

row_copied : (stacks : Stacks) (row caller : Row) (s p : ThreadSummary) → IsRow stacks row s → IsRow stacks caller p → IsRow stacks (copied caller row) (record s { handlers = p.handlers })
row_copied stacks row caller s p is other = record {
  handlers_number = other.handlers_number;
  handlers = other.handlers;
  left_number = is.left_number;
  left = is.left;
  reason = is.reason;
  ended = is.ended;
  passes = is.passes;
}

-- ---- summaries before the event of the thread itself

module _ (e : Event) (events : List Event) (r0 r1 r2 : ℕ → ℕ → Row)
    (first : (q u : ℕ) → r1 q u ≡ cond (nat_eq e.pid q && names u e.what) (marked e.what (r0 q u)) (r0 q u))
    (second : (q u : ℕ) → r2 q u ≡ cond (nat_eq e.tid u && makes_process q e.what) (copied (r1 e.pid e.tid) (r1 q u)) (r1 q u))
    (stacks : Stacks) (told : (q u : ℕ) → IsRow stacks (r0 q u) (summary_of q u events)) where
  mark_if : (t : Bool) (q u : ℕ) → IsRow stacks (cond t (marked e.what (r0 q u)) (r0 q u)) (summary_of q u events)
  mark_if true q u = row_marked stacks e.what (r0 q u) (summary_of q u events) (told q u)
  mark_if false q u = told q u

  summary_one : (q u : ℕ) → IsRow stacks (r1 q u) (summary_of q u events)
  summary_one q u = subst (λ row. IsRow stacks row (summary_of q u events)) (sym (first q u)) (mark_if (nat_eq e.pid q && names u e.what) q u)

  copy_if : (fork : Bool) (q u : ℕ) → is_fork_of q u e ≡ fork → IsRow stacks (cond fork (copied (r1 e.pid e.tid) (r1 q u)) (r1 q u)) (cond fork (record (summary_of q u events) { handlers = (summary_of e.pid u events).handlers }) (summary_of q u events))
  copy_if true q u makes =
      let parts = and_parts (nat_eq e.tid u) (makes_process q e.what) makes in
      row_copied stacks (r1 q u) (r1 e.pid e.tid) (summary_of q u events) (summary_of e.pid u events) (summary_one q u)
      (subst (λ y. IsRow stacks (r1 e.pid e.tid) (summary_of e.pid y events)) (eqb-true e.tid u parts.0) (summary_one e.pid e.tid))
  copy_if false q u makes = summary_one q u

  summary_two : (q u : ℕ) → IsRow stacks (r2 q u) (cond (is_fork_of q u e) (record (summary_of q u events) { handlers = (summary_of e.pid u events).handlers }) (summary_of q u events))
  summary_two q u = subst (λ row. IsRow stacks row (cond (is_fork_of q u e) (record (summary_of q u events) { handlers = (summary_of e.pid u events).handlers }) (summary_of q u events))) (sym (second q u)) (copy_if (is_fork_of q u e) q u refl)

  own_copy : (fork : Bool) → cond fork (record (summary_of e.pid e.tid events) { handlers = (summary_of e.pid e.tid events).handlers }) (summary_of e.pid e.tid events) ≡ summary_of e.pid e.tid events
  own_copy true = refl
  own_copy false = refl

  -- the row of the thread of the event, before it
  pub summary_own : IsRow stacks (r2 e.pid e.tid) (summary_of e.pid e.tid events)
  summary_own = subst (λ s. IsRow stacks (r2 e.pid e.tid) s) (own_copy (is_fork_of e.pid e.tid e)) (summary_two e.pid e.tid)

-- ---- parts of rows

by_cond : {A : Type 0} (part : Row → A) (t : Bool) (a b : Row) → part (cond t a b) ≡ cond t (part a) (part b)
by_cond part true a b = refl
by_cond part false a b = refl

or_if : (s b : Bool) → cond s true b ≡ (s || b)
or_if true b = refl
or_if false b = refl

same_cond : {A : Type 0} (t : Bool) (a : A) → cond t a a ≡ a
same_cond true a = refl
same_cond false a = refl

newest_by : (own : Bool) (test : What → Bool) (w : What) (newest : Option What) → option_map_or test (cond own (Some w) newest) false ≡ cond own (test w) (option_map_or test newest false)
newest_by true test w newest = refl
newest_by false test w newest = refl

-- the tests of an event of thread p.t, of the thread q.u
module _ (e : Event) (events : List Event) (r0 r1 r2 r3 : ℕ → ℕ → Row) (next : Row)
    (first : (q u : ℕ) → r1 q u ≡ cond (nat_eq e.pid q && names u e.what) (marked e.what (r0 q u)) (r0 q u))
    (second : (q u : ℕ) → r2 q u ≡ cond (nat_eq e.tid u && makes_process q e.what) (copied (r1 e.pid e.tid) (r1 q u)) (r1 q u))
    (third : (q u : ℕ) → r3 q u ≡ cond (nat_eq e.pid q && nat_eq e.tid u) next (r2 q u))
    (own : IsOwnChange e.what (r2 e.pid e.tid) next) where
  -- a part that only marks change
  marks_part : {A : Type 0} (part : Row → A) (q u : ℕ) → part (r1 q u) ≡ cond (nat_eq e.pid q && names u e.what) (part (marked e.what (r0 q u))) (part (r0 q u))
  marks_part part q u = ap part (first q u) ∙ by_cond part (nat_eq e.pid q && names u e.what) (marked e.what (r0 q u)) (r0 q u)

  copied_part : {A : Type 0} (part : Row → A) (q u : ℕ) → part (r2 q u) ≡ cond (is_fork_of q u e) (part (copied (r1 e.pid e.tid) (r1 q u))) (part (r1 q u))
  copied_part part q u = ap part (second q u) ∙ by_cond part (is_fork_of q u e) (copied (r1 e.pid e.tid) (r1 q u)) (r1 q u)

  own_part : {A : Type 0} (part : Row → A) (q u : ℕ) → part (r3 q u) ≡ cond (is_own q u e) (part next) (part (r2 q u))
  own_part part q u = ap part (third q u) ∙ by_cond part (is_own q u e) next (r2 q u)

  -- a part that an event of its own leaves
  left_step : {A : Type 0} (part : Row → A) (t : Bool) (q u : ℕ) → is_own q u e ≡ t → part next ≡ part (r2 e.pid e.tid) → cond t (part next) (part (r2 q u)) ≡ part (r2 q u)
  left_step part true q u is same =
      let parts = and_parts (nat_eq e.pid q) (nat_eq e.tid u) is in
      same ∙ ap (λ x. part (r2 x e.tid)) (eqb-true e.pid q parts.0) ∙ ap (λ y. part (r2 q y)) (eqb-true e.tid u parts.1)
  left_step part false q u is same = refl

  left_part : {A : Type 0} (part : Row → A) → part next ≡ part (r2 e.pid e.tid) → (q u : ℕ) → part (r3 q u) ≡ part (r2 q u)
  left_part part same q u = own_part part q u ∙ left_step part (is_own q u e) q u refl same

  -- ---- known

  known_mark : (w : What) (u : ℕ) (row : Row) (t : Bool) → cond (t && names u w) (marked w row).known row.known ≡ ((t && creates_id u w) || row.known)
  known_mark w u row false = refl
  known_mark (what.Created id detached) u row true = or_if (nat_eq id u) row.known
  known_mark (what.Detached id) u row true = same_cond (nat_eq id u) row.known
  known_mark (what.Joined id v) u row true = same_cond (nat_eq id u) row.known
  known_mark _ u row true = refl

  known_order : (fork a b : Bool) → cond fork true (a || b) ≡ (a || (fork || b))
  known_order true true b = refl
  known_order true false b = refl
  known_order false a b = refl

  known_told : (q u : ℕ) → (r0 q u).known ≡ is_known q u events → (r3 q u).known ≡ is_known q u (e ∷ events)
  known_told q u told =
      left_part (λ r. r.known) own.known q u ∙ copied_part (λ r. r.known) q u
      ∙ ap (λ b. cond (is_fork_of q u e) true b) (marks_part (λ r. r.known) q u ∙ known_mark e.what u (r0 q u) (nat_eq e.pid q) ∙ ap (λ b. (nat_eq e.pid q && creates_id u e.what) || b) told)
      ∙ known_order (is_fork_of q u e) (nat_eq e.pid q && creates_id u e.what) (is_known q u events)

  -- ---- joined

  joined_mark : (w : What) (u : ℕ) (row : Row) (t : Bool) → cond (t && names u w) (marked w row).joined row.joined ≡ ((t && joins_id u w) || row.joined)
  joined_mark w u row false = refl
  joined_mark (what.Joined id v) u row true = or_if (nat_eq id u) row.joined
  joined_mark (what.Created id detached) u row true = same_cond (nat_eq id u) row.joined
  joined_mark (what.Detached id) u row true = same_cond (nat_eq id u) row.joined
  joined_mark _ u row true = refl

  joined_told : (q u : ℕ) → (r0 q u).joined ≡ is_joined q u events → (r3 q u).joined ≡ is_joined q u (e ∷ events)
  joined_told q u told =
      left_part (λ r. r.joined) own.joined q u ∙ copied_part (λ r. r.joined) q u ∙ same_cond (is_fork_of q u e) (r1 q u).joined
      ∙ marks_part (λ r. r.joined) q u ∙ joined_mark e.what u (r0 q u) (nat_eq e.pid q) ∙ ap (λ b. (nat_eq e.pid q && joins_id u e.what) || b) told

  -- ---- the call of pthread_join and the stage

  unmarked : {A : Type 0} (part : Row → A) → ((w : What) (row : Row) → part (marked w row) ≡ part row) → (q u : ℕ) → part (r1 q u) ≡ part (r0 q u)
  unmarked part same q u =
      marks_part part q u ∙ ap (λ x. cond (nat_eq e.pid q && names u e.what) x (part (r0 q u))) (same e.what (r0 q u)) ∙ same_cond (nat_eq e.pid q && names u e.what) (part (r0 q u))

  joining_unmarked : (w : What) (row : Row) → (marked w row).joining ≡ row.joining
  joining_unmarked (what.Created id detached) row = refl
  joining_unmarked _ row = refl

  joining_told : (q u : ℕ) → (r0 q u).joining ≡ newest_is (reports_call join_point) q u events → (r3 q u).joining ≡ newest_is (reports_call join_point) q u (e ∷ events)
  joining_told q u told =
      own_part (λ r. r.joining) q u ∙ ap (λ x. cond (is_own q u e) x (r2 q u).joining) own.joining
      ∙ ap (cond (is_own q u e) (reports_call join_point e.what)) (copied_part (λ r. r.joining) q u ∙ same_cond (is_fork_of q u e) (r1 q u).joining ∙ unmarked (λ r. r.joining) joining_unmarked q u ∙ told)
      ∙ sym (newest_by (is_own q u e) (reports_call join_point) e.what (newest_event q u events))

  stage_unmarked : (w : What) (row : Row) → (marked w row).stage ≡ row.stage
  stage_unmarked (what.Created id detached) row = refl
  stage_unmarked _ row = refl

  stage_before : (q u : ℕ) → (r0 q u).stage ≡ wait_stage q u events → (r2 q u).stage ≡ wait_stage q u events
  stage_before q u told = copied_part (λ r. r.stage) q u ∙ same_cond (is_fork_of q u e) (r1 q u).stage ∙ unmarked (λ r. r.stage) stage_unmarked q u ∙ told

  own_step : {A : Type 0} (part : ℕ → ℕ → A) (after : A → A) (t : Bool) (q u : ℕ) → is_own q u e ≡ t → cond t (after (part e.pid e.tid)) (part q u) ≡ cond t (after (part q u)) (part q u)
  own_step part after true q u is =
      let parts = and_parts (nat_eq e.pid q) (nat_eq e.tid u) is in
      ap after (ap (λ x. part x e.tid) (eqb-true e.pid q parts.0) ∙ ap (part q) (eqb-true e.tid u parts.1))
  own_step part after false q u is = refl

  stage_told : ((q u : ℕ) → (r0 q u).stage ≡ wait_stage q u events) → (q u : ℕ) → (r3 q u).stage ≡ wait_stage q u (e ∷ events)
  stage_told told q u =
      own_part (λ r. r.stage) q u
      ∙ ap (λ x. cond (is_own q u e) x (r2 q u).stage) (own.stage ∙ ap (stage_after e.what) (stage_before e.pid e.tid (told e.pid e.tid)))
      ∙ ap (cond (is_own q u e) (stage_after e.what (wait_stage e.pid e.tid events))) (stage_before q u (told q u))
      ∙ own_step (λ x y. wait_stage x y events) (stage_after e.what) (is_own q u e) q u refl

  -- ---- detached

  detached_mark : (w : What) (u : ℕ) (row : Row) (t : Bool) → cond (t && names u w) (marked w row).detached row.detached ≡ cond t (detaches_id u w || row.detached) row.detached
  detached_mark w u row false = refl
  detached_mark (what.Created id detached) u row true = created (nat_eq id u) detached row.detached
    where
      created : (s d b : Bool) → cond s (d || b) b ≡ ((s && d) || b)
      created true d b = refl
      created false d b = refl
  detached_mark (what.Detached id) u row true = or_if (nat_eq id u) row.detached
  detached_mark (what.Joined id v) u row true = same_cond (nat_eq id u) row.detached
  detached_mark _ u row true = refl

  -- a fork detaches no thread
  fork_detaches : (q u : ℕ) (w : What) → makes_process q w ≡ true → detaches_id u w ≡ false
  fork_detaches q u (what.Forked child) makes = refl
  fork_detaches q u (what.Created id detached) makes = absurd cc
  fork_detaches q u (what.Detached id) makes = absurd cc
  fork_detaches q u _ makes = refl

  or_same : (b : Bool) → (b || b) ≡ b
  or_same true = refl
  or_same false = refl

  detached_one : ((q u : ℕ) → (r0 q u).detached ≡ is_detached q u events) → (q u : ℕ) → (r1 q u).detached ≡ cond (is_in q e) (detaches_id u e.what || is_detached q u events) (is_detached q u events)
  detached_one told q u =
      marks_part (λ r. r.detached) q u ∙ detached_mark e.what u (r0 q u) (nat_eq e.pid q)
      ∙ ap (λ b. cond (is_in q e) (detaches_id u e.what || b) b) (told q u)

  -- the caller's flag at a fork
  detached_caller : ((q u : ℕ) → (r0 q u).detached ≡ is_detached q u events) → (q u : ℕ) → is_fork_of q u e ≡ true → (r1 e.pid e.tid).detached ≡ is_detached e.pid u events
  detached_caller told q u makes =
      let parts = and_parts (nat_eq e.tid u) (makes_process q e.what) makes in
      detached_one told e.pid e.tid
      ∙ ap (λ b. cond (is_in e.pid e) (b || is_detached e.pid e.tid events) (is_detached e.pid e.tid events)) (fork_detaches q e.tid e.what parts.1)
      ∙ same_cond (is_in e.pid e) (is_detached e.pid e.tid events) ∙ ap (λ y. is_detached e.pid y events) (eqb-true e.tid u parts.0)

  detached_step : (inside fork : Bool) (q u : ℕ) → is_in q e ≡ inside → is_fork_of q u e ≡ fork → ((q u : ℕ) → (r0 q u).detached ≡ is_detached q u events)
      → cond fork ((r1 e.pid e.tid).detached || (r1 q u).detached) (r1 q u).detached
      ≡ cond inside (detaches_id u e.what || is_detached q u events) (cond fork (is_detached e.pid u events || is_detached q u events) (is_detached q u events))
  detached_step true true q u is makes told =
      let parts = and_parts (nat_eq e.tid u) (makes_process q e.what) makes in
      let none : detaches_id u e.what ≡ false = fork_detaches q u e.what parts.1 in
      let here : (r1 q u).detached ≡ is_detached q u events = detached_one told q u ∙ ap (λ t. cond t (detaches_id u e.what || is_detached q u events) (is_detached q u events)) is ∙ ap (λ b. b || is_detached q u events) none in
      ap (λ b. b || (r1 q u).detached) (detached_caller told q u makes ∙ ap (λ x. is_detached x u events) (eqb-true e.pid q is))
      ∙ ap (λ b. is_detached q u events || b) here ∙ or_same (is_detached q u events) ∙ sym (ap (λ b. b || is_detached q u events) none)
  detached_step true false q u is makes told = detached_one told q u ∙ ap (λ t. cond t (detaches_id u e.what || is_detached q u events) (is_detached q u events)) is
  detached_step false true q u is makes told =
      ap (λ b. b || (r1 q u).detached) (detached_caller told q u makes)
      ∙ ap (λ b. is_detached e.pid u events || b) (detached_one told q u ∙ ap (λ t. cond t (detaches_id u e.what || is_detached q u events) (is_detached q u events)) is)
  detached_step false false q u is makes told = detached_one told q u ∙ ap (λ t. cond t (detaches_id u e.what || is_detached q u events) (is_detached q u events)) is

  detached_told : ((q u : ℕ) → (r0 q u).detached ≡ is_detached q u events) → (q u : ℕ) → (r3 q u).detached ≡ is_detached q u (e ∷ events)
  detached_told told q u =
      left_part (λ r. r.detached) own.detached q u ∙ copied_part (λ r. r.detached) q u
      ∙ detached_step (is_in q e) (is_fork_of q u e) q u refl refl told

  -- ---- summaries

  module _ (stacks after : Stacks) (grows : Grows stacks after) (told : (q u : ℕ) → IsRow stacks (r0 q u) (summary_of q u events)) where
    own_if : (t : Bool) (q u : ℕ) → is_own q u e ≡ t → IsRow after next (with_event e.what (summary_of e.pid e.tid events))
        → IsRow after (cond t next (r2 q u)) (cond t (with_event e.what (summary_of q u events)) (cond (is_fork_of q u e) (record (summary_of q u events) { handlers = (summary_of e.pid u events).handlers }) (summary_of q u events)))
    own_if true q u is made =
        let parts = and_parts (nat_eq e.pid q) (nat_eq e.tid u) is in
        subst (λ x. IsRow after next (with_event e.what (summary_of x u events))) (eqb-true e.pid q parts.0)
        (subst (λ y. IsRow after next (with_event e.what (summary_of e.pid y events))) (eqb-true e.tid u parts.1) made)
    own_if false q u is made = row_grows stacks after (r2 q u) _ grows (summary_two e events r0 r1 r2 first second stacks told q u)

    summary_told : IsRow after next (with_event e.what (summary_of e.pid e.tid events)) → (q u : ℕ) → IsRow after (r3 q u) (summary_of q u (e ∷ events))
    summary_told made q u = subst (λ row. IsRow after row (summary_of q u (e ∷ events))) (sym (third q u)) (own_if (is_own q u e) q u refl made)

  -- ---- threads

  pub threads_told : (stacks after : Stacks) → Grows stacks after → ((q u : ℕ) → IsThread stacks (r0 q u) q u events) → IsRow after next (with_event e.what (summary_of e.pid e.tid events))
      → (q u : ℕ) → IsThread after (r3 q u) q u (e ∷ events)
  threads_told stacks after grows told made q u = record {
    summary = summary_told stacks after grows (λ x y. (told x y).summary) made q u;
    known = known_told q u (told q u).known;
    detached = detached_told (λ x y. (told x y).detached) q u;
    joined = joined_told q u (told q u).joined;
    joining = joining_told q u (told q u).joining;
    stage = stage_told (λ x y. (told x y).stage) q u;
  }

-- ---- destructors

destroyed_after : (q k : ℕ) (w : What) (s : ThreadSummary) → list_any (is_pair q k) (with_event w s).destroyed ≡ (destroys q k w || list_any (is_pair q k) s.destroyed)
destroyed_after q k (what.DtorRun pass key f v) s = refl
destroyed_after q k _ s = refl

destroyed_by : (own fork : Bool) (q k : ℕ) (w : What) (s p : ThreadSummary)
    → ((own && destroys q k w) || list_any (is_pair q k) s.destroyed) ≡ list_any (is_pair q k) (cond own (with_event w s) (cond fork (record s { handlers = p.handlers }) s)).destroyed
destroyed_by true fork q k w s p = sym (destroyed_after q k w s)
destroyed_by false true q k w s p = refl
destroyed_by false false q k w s p = refl

pub destroyed_told : (e : Event) (events : List Event) (p t q k : ℕ) (old : Bool) → old ≡ list_any (is_pair q k) (summary_of p t events).destroyed
    → (((nat_eq e.pid p && nat_eq e.tid t) && destroys q k e.what) || old) ≡ list_any (is_pair q k) (summary_of p t (e ∷ events)).destroyed
destroyed_told e events p t q k old is =
    ap (λ b. ((nat_eq e.pid p && nat_eq e.tid t) && destroys q k e.what) || b) is
    ∙ destroyed_by (is_own p t e) (is_fork_of p t e) q k e.what (summary_of p t events) (summary_of e.pid t events)
