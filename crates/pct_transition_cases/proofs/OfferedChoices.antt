-- The choices that a thread is offered, by case.
use Rattle.pct_names.proofs.Names.{◌&&◌, ◌++◌, [], act_if, AllByRecursion, Alt, and_from, and_parts, ap, Asynchronous, Bool, called_kind}
use Rattle.pct_names.proofs.Names.{can_expire, Cause, ChoiceRow, choices_at, cond, Deferred, Dest, Disable, dtor_or_go, Enable}
use Rattle.pct_names.proofs.Names.{ending_choices, Environment, expire_if, false, false≢true, first_row, Frame, go_if, hand_on_or_act, inl}
use Rattle.pct_names.proofs.Names.{inr, is_allowed_asynchronously, is_asynchronous, is_at_cancellation_point, is_blocked, is_busy}
use Rattle.pct_names.proofs.Names.{is_create, is_deliverable, is_ended_status, is_ended_thread, is_forbidden_in_child, is_free_mutex}
use Rattle.pct_names.proofs.Names.{is_key_create, is_optional, is_required, is_running_child, is_signal, is_some, is_timed_wait, left_keys}
use Rattle.pct_names.proofs.Names.{List, list_any, map, may_pass_point, Mode, nat_eq, nat_lt, new_keys, new_or_go, NextStatement, None, not}
use Rattle.pct_names.proofs.Names.{not-false, not-true, offers, once_at, Operand, Option, Optional, or_cases, or_left, or_right, pick_or_go}
use Rattle.pct_names.proofs.Names.{PointKind, refl, Required, running_choices, running_rows, same_choice, SharedState, slice_index, Some}
use Rattle.pct_names.proofs.Names.{State, StatementIn, Status, Stmt, subst, sym, Thread, true, unblocked_acts, waiters_to_signal, ℕ, ◌∙◌}
use Rattle.pct_names.proofs.Names.{◌∷◌, ◌≡◌}
use Rattle.std.proofs.Common.{eqb-true, eq-eqb}
use Rattle.std.proofs.lemmas.Bool.{true≢false}
use Rattle.pct_model.specs.ChoiceTable.{is_expire}
use Rattle.pct_model.specs.declared.schedule.Alt.TheVariants as alt
use Rattle.pct_model.specs.declared.state.Cause.TheVariants as cause
use Rattle.pct_model.specs.declared.state.Status.TheVariants as status
use Rattle.pct_model.specs.declared.statement.Stmt.TheVariants as statement

-- ---- the cases

-- the choice is that a thread acts upon a request
abbrev pub is_acting : Alt → Bool
is_acting (alt.Act n) = true
is_acting _ = false

-- the choice is to call the destructor of a key
abbrev pub is_destroying : Alt → Bool
is_destroying (alt.Dtor k) = true
is_destroying _ = false

-- a thread with this status may go on: what the status waits for, if it waits, has occurred
abbrev pub goes_at : SharedState → Environment → Status → Bool
goes_at shared environment (status.AtPoint index) = may_pass_point index
goes_at shared environment (status.Joining id) = is_ended_thread id environment
goes_at shared environment (status.InSem sem) = nat_lt 0 (slice_index shared.counts sem)
goes_at shared environment (status.InWaitPid pid) = not (is_running_child pid environment.family)
goes_at shared environment (status.Waiting c m) = false
goes_at shared environment (status.Reacquire c m why) = is_free_mutex m shared
goes_at shared environment (status.Ended v) = false
goes_at shared environment _ = true

-- a thread with this status is in a wait that has a time at some statements: it waits for a semaphore or on a condition variable
abbrev pub may_have_time : Status → Bool
may_have_time (status.InSem sem) = true
may_have_time (status.Waiting c m) = true
may_have_time _ = false

-- a choice that is offered to a thread, and what is known of the thread then. A new case is needed only for a choice of a new kind
pub data Offered (shared : SharedState) (t : Thread) (environment : Environment) : NextStatement → Status → Alt → Type 0 where
  -- the thread goes on
  may_go : (next : NextStatement) (s : Status) → goes_at shared environment s ≡ true → Offered shared t environment next s alt.Go
  -- it acts upon a request that is pending: at a cancellation point, or anywhere with asynchronous cancelability
  may_act : (next : NextStatement) (s : Status) → is_ended_status s ≡ false → is_deliverable t.state t.pending ≡ true → (is_at_cancellation_point next s ≡ false → t.mode ≡ Asynchronous) → Offered shared t environment next s (alt.Act 0)
  -- it does so after a signal unblocked it, and hands the signal on to one of the threads that wait
  may_hand_on : (next : NextStatement) (c m u : ℕ) → is_deliverable t.state t.pending ≡ true → list_any (λ waiter. nat_eq u waiter.id) (environment.waiters c) ≡ true → Offered shared t environment next (status.Reacquire c m cause.Signalled) (alt.Act u)
  -- it signals a condition variable, and unblocks one of the threads that wait
  may_pick : (frame : Frame) (c u : ℕ) → list_any (λ waiter. nat_eq u waiter.id) (environment.waiters c) ≡ true → Offered shared t environment (StatementIn frame (statement.Signal c)) status.Running (alt.Pick u)
  -- it creates a thread, or makes a key, with one of the numbers that are free
  may_create : (frame : Frame) (result id : Dest) (f : ℕ) (v : Operand) (detached : Bool) (n : ℕ) → list_any (nat_eq n) environment.new_ids ≡ true
      → Offered shared t environment (StatementIn frame (statement.Create result id f v detached)) status.Running (alt.New n)
  may_make_key : (frame : Frame) (result key : Dest) (destructor : Option ℕ) (n : ℕ) → list_any (nat_eq n) (new_keys shared.keys) ≡ true
      → Offered shared t environment (StatementIn frame (statement.KeyCreate result key destructor)) status.Running (alt.New n)
  -- it has no handler, and calls the destructor of a key that is left in its pass
  may_destroy : (next : NextStatement) (k : ℕ) → t.handlers ≡ [] → list_any (nat_eq k) (left_keys shared.keys t.specific) ≡ true → Offered shared t environment next status.Ending (alt.Dtor k)
  -- the time of its wait expires, where what it waits for has not occurred
  may_expire : (next : NextStatement) (s : Status) → may_have_time s ≡ true → can_expire environment next ≡ true → goes_at shared environment s ≡ false → Offered shared t environment next s alt.Expire

-- ---- what each case has

-- a thread that may go on has not ended
going_alive : (shared : SharedState) (environment : Environment) (s : Status) → goes_at shared environment s ≡ true → is_ended_status s ≡ false
going_alive shared environment (status.Ended v) goes = absurd (false≢true goes)
going_alive shared environment _ goes = refl

-- nor has one in a wait that may have a time
timed_alive : (s : Status) → may_have_time s ≡ true → is_ended_status s ≡ false
timed_alive (status.Ended v) timed = absurd (false≢true timed)
timed_alive _ timed = refl

module _ {shared : SharedState} {t : Thread} {environment : Environment} where
  -- a thread that has a choice does not have the status of its end
  pub offered_alive : {next : NextStatement} {s : Status} {choice : Alt} → Offered shared t environment next s choice → is_ended_status s ≡ false
  offered_alive (may_go next s goes) = going_alive shared environment s goes
  offered_alive (may_act next s alive delivered where_it_may) = alive
  offered_alive (may_expire next s timed can before) = timed_alive s timed
  offered_alive _ = refl

  -- what a thread waits for has occurred, where its choice is not to act upon a request, and not that a time expires
  pub may_go_on : {next : NextStatement} {s : Status} {choice : Alt} → Offered shared t environment next s choice → is_acting choice ≡ false → is_expire choice ≡ false → goes_at shared environment s ≡ true
  may_go_on (may_go next s goes) other stays = goes
  may_go_on (may_act next s alive delivered where_it_may) other stays = absurd (true≢false other)
  may_go_on (may_hand_on next c m u delivered among) other stays = absurd (true≢false other)
  may_go_on (may_expire next s timed can before) other stays = absurd (true≢false stays)
  may_go_on _ other stays = refl

  -- the same of a thread that is in no wait with a time, where its choice is not to act upon a request
  pub may_go_on_untimed : {next : NextStatement} {s : Status} {choice : Alt} → Offered shared t environment next s choice → is_acting choice ≡ false → may_have_time s && is_timed_wait next ≡ false → goes_at shared environment s ≡ true
  may_go_on_untimed (may_go next s goes) other untimed = goes
  may_go_on_untimed (may_act next s alive delivered where_it_may) other untimed = absurd (true≢false other)
  may_go_on_untimed (may_hand_on next c m u delivered among) other untimed = absurd (true≢false other)
  may_go_on_untimed (may_expire next s timed can before) other untimed = absurd (true≢false (sym (and_from (may_have_time s) (is_timed_wait next) timed ((and_parts environment.timeouts (is_timed_wait next) can).1)) ∙ untimed))
  may_go_on_untimed _ other untimed = refl

  -- a thread that waits on a condition variable goes on only as the time of its wait expires
  pub may_expire_in_wait : {next : NextStatement} {c m : ℕ} {choice : Alt} → Offered shared t environment next (status.Waiting c m) choice → is_acting choice ≡ false → is_timed_wait next ≡ true
  may_expire_in_wait (may_go next s goes) other = absurd (false≢true goes)
  may_expire_in_wait (may_act next s alive delivered where_it_may) other = absurd (true≢false other)
  may_expire_in_wait (may_expire next s timed can before) other = (and_parts environment.timeouts (is_timed_wait next) can).1

  -- where the time of a wait expires, what the thread waits for has not occurred
  pub expired_before : {next : NextStatement} {s : Status} → Offered shared t environment next s alt.Expire → goes_at shared environment s ≡ false
  expired_before (may_expire next s timed can before) = before

  -- a thread that may act upon a request has one pending, and its cancelability enabled
  pub act_delivered : {next : NextStatement} {s : Status} {n : ℕ} → Offered shared t environment next s (alt.Act n) → is_deliverable t.state t.pending ≡ true
  act_delivered (may_act next s alive delivered where_it_may) = delivered
  act_delivered (may_hand_on next c m u delivered among) = delivered

  -- it is at a cancellation point, or its cancelability is asynchronous
  pub act_where_it_may : {next : NextStatement} {s : Status} {n : ℕ} → Offered shared t environment next s (alt.Act n) → is_at_cancellation_point next s ≡ false → t.mode ≡ Asynchronous
  act_where_it_may (may_act next s alive delivered where_it_may) elsewhere = where_it_may elsewhere
  act_where_it_may (may_hand_on next c m u delivered among) elsewhere = absurd (true≢false elsewhere)

  -- the thread to which a signal is handed on, or which a signal unblocks, is among those that wait
  pub heir_among : {next : NextStatement} {c m u : ℕ} → Offered shared t environment next (status.Reacquire c m cause.Signalled) (alt.Act u) → nat_eq u 0 ≡ false → list_any (λ waiter. nat_eq u waiter.id) (environment.waiters c) ≡ true
  heir_among (may_act next s alive delivered where_it_may) some = absurd (true≢false some)
  heir_among (may_hand_on next c m u delivered among) some = among

  pub picked_among : {frame : Frame} {c u : ℕ} → Offered shared t environment (StatementIn frame (statement.Signal c)) status.Running (alt.Pick u) → list_any (λ waiter. nat_eq u waiter.id) (environment.waiters c) ≡ true
  picked_among (may_pick frame c u among) = among

  -- the id of a new thread, the number of a new key, and the key of a destructor are among those that are offered
  pub id_among : {frame : Frame} {result id : Dest} {f : ℕ} {v : Operand} {detached : Bool} {n : ℕ} → Offered shared t environment (StatementIn frame (statement.Create result id f v detached)) status.Running (alt.New n) → list_any (nat_eq n) environment.new_ids ≡ true
  id_among (may_create frame result id f v detached n among) = among

  pub key_among : {frame : Frame} {result key : Dest} {destructor : Option ℕ} {n : ℕ} → Offered shared t environment (StatementIn frame (statement.KeyCreate result key destructor)) status.Running (alt.New n) → list_any (nat_eq n) (new_keys shared.keys) ≡ true
  key_among (may_make_key frame result key destructor n among) = among

  pub left_among : {next : NextStatement} {s : Status} {k : ℕ} → Offered shared t environment next s (alt.Dtor k) → list_any (nat_eq k) (left_keys shared.keys t.specific) ≡ true
  left_among (may_destroy next k none among) = among

-- ---- lists of choices

-- choices that compare as the same are equal
same_choice-is : (a b : Alt) → same_choice a b ≡ true → b ≡ a
same_choice-is alt.Go alt.Go same = refl
same_choice-is (alt.Act n) (alt.Act m) same = ap (λ (k : ℕ). alt.Act k) (sym (eqb-true n m same))
same_choice-is (alt.New n) (alt.New m) same = ap (λ (k : ℕ). alt.New k) (sym (eqb-true n m same))
same_choice-is (alt.Pick n) (alt.Pick m) same = ap (λ (k : ℕ). alt.Pick k) (sym (eqb-true n m same))
same_choice-is alt.Expire alt.Expire same = refl
same_choice-is (alt.Dtor n) (alt.Dtor m) same = ap (λ (k : ℕ). alt.Dtor k) (sym (eqb-true n m same))
same_choice-is _ _ same = absurd (false≢true same)

-- a fact that holds of the choices of each row whose test holds, and of the other choices
first_row_has : (P : List Alt → Type 0) (rows : List ChoiceRow) (others : List Alt) → AllByRecursion (λ row. row.0 ≡ true → P row.1) rows → P others → P (first_row rows others)
first_row_has P [] others each last = last
first_row_has P ((true, choices) ∷ rows) others each last = each.0 refl
first_row_has P ((false, choices) ∷ rows) others each last = first_row_has P rows others each.1 last

module _ (P : Alt → Type 0) (choice : Alt) where
  -- what each of some choices has, one has that is offered among them
  each_has : (choices : List Alt) → AllByRecursion P choices → offers choices choice ≡ true → P choice
  each_has [] each offered = absurd (false≢true offered)
  each_has (c ∷ rest) each offered = elim (or_cases (same_choice choice c) (offers rest choice) offered) [
    | inl same ↦ subst P (same_choice-is choice c same) each.0
    | inr later ↦ each_has rest each.1 later
  ]

  -- the same of choices that name the numbers of some items, or else of one choice
  number_has : {T : Type 0} (choose : ℕ → Alt) (number : T → ℕ) (items : List T) → ((n : ℕ) → list_any (λ item. nat_eq n (number item)) items ≡ true → P (choose n)) → offers (map (λ item. choose (number item)) items) choice ≡ true → P choice
  number_has choose number [] each offered = absurd (false≢true offered)
  number_has choose number (item ∷ items) each offered = elim (or_cases (same_choice choice (choose (number item))) (offers (map (λ x. choose (number x)) items) choice) offered) [
    | inl same ↦ subst P (same_choice-is choice (choose (number item)) same) (each (number item) (or_left (nat_eq (number item) (number item)) (list_any (λ x. nat_eq (number item) (number x)) items) (eq-eqb (number item) (number item) refl)))
    | inr later ↦ number_has choose number items (λ n among. each n (or_right (nat_eq n (number item)) (list_any (λ x. nat_eq n (number x)) items) among)) later
  ]

  number_or_has : {T : Type 0} (choices : List T → List Alt) (choose : ℕ → Alt) (number : T → ℕ) (only : Alt) → choices [] ≡ only ∷ [] → ((item : T) (items : List T) → choices (item ∷ items) ≡ map (λ x. choose (number x)) (item ∷ items)) → P only
      → (items : List T) → ((n : ℕ) → list_any (λ item. nat_eq n (number item)) items ≡ true → P (choose n)) → offers (choices items) choice ≡ true → P choice
  number_or_has choices choose number only none some has [] each offered = each_has (only ∷ []) (has, tt) (subst (λ cs. offers cs choice ≡ true) none offered)
  number_or_has choices choose number only none some has (item ∷ items) each offered = number_has choose number (item ∷ items) each (subst (λ cs. offers cs choice ≡ true) (some item items) offered)

  go_or_has : (passes : Bool) (acting : List Alt) → (passes ≡ true → P alt.Go) → (offers acting choice ≡ true → P choice) → offers (go_if passes ++ acting) choice ≡ true → P choice
  go_or_has true acting go act offered = elim (or_cases (same_choice choice alt.Go) (offers acting choice) offered) [ inl same ↦ subst P (same_choice-is choice alt.Go same) (go refl) | inr later ↦ act later ]
  go_or_has false acting go act offered = act offered

  expire_or_has : (expires : Bool) (acting : List Alt) → (expires ≡ true → P alt.Expire) → (offers acting choice ≡ true → P choice) → offers (expire_if expires ++ acting) choice ≡ true → P choice
  expire_or_has true acting expire act offered = elim (or_cases (same_choice choice alt.Expire) (offers acting choice) offered) [ inl same ↦ subst P (same_choice-is choice alt.Expire same) (expire refl) | inr later ↦ act later ]
  expire_or_has false acting expire act offered = act offered

  go_or_expire_has : (passes expires : Bool) (acting : List Alt) → (passes ≡ true → P alt.Go) → (expires ≡ true → P alt.Expire) → (offers acting choice ≡ true → P choice) → offers (go_if passes ++ expire_if expires ++ acting) choice ≡ true → P choice
  go_or_expire_has true expires acting go expire act = go_or_has true (expire_if expires ++ acting) go (expire_or_has expires acting expire act)
  go_or_expire_has false expires acting go expire act = expire_or_has expires acting expire act

  act_has : (delivered : Bool) → (delivered ≡ true → P (alt.Act 0)) → offers (act_if delivered) choice ≡ true → P choice
  act_has true act offered = each_has (alt.Act 0 ∷ []) (act refl, tt) offered
  act_has false act offered = absurd (false≢true offered)

-- ---- cancelability

-- a thread that acts upon a request has its cancelability enabled, and the request is pending
pub deliverable_enabled : (state : State) (pending : Bool) → is_deliverable state pending ≡ true → state ≡ Enable
deliverable_enabled Enable pending is = refl
deliverable_enabled Disable pending is = absurd (false≢true is)

pub deliverable_pending : (state : State) (pending : Bool) → is_deliverable state pending ≡ true → pending ≡ true
deliverable_pending Enable pending is = is
deliverable_pending Disable pending is = absurd (false≢true is)

-- with asynchronous cancelability enabled, a request that is pending may be acted upon anywhere
asynchronous_deliverable : (state : State) (mode : Mode) (pending : Bool) → is_asynchronous state mode ≡ true → pending ≡ true → is_deliverable state pending ≡ true
asynchronous_deliverable Enable mode pending is waits = waits
asynchronous_deliverable Disable mode pending is waits = absurd (false≢true is)

asynchronous_mode : (state : State) (mode : Mode) → is_asynchronous state mode ≡ true → mode ≡ Asynchronous
asynchronous_mode Enable Asynchronous is = refl
asynchronous_mode Enable Deferred is = absurd (false≢true is)
asynchronous_mode Disable mode is = absurd (false≢true is)

-- a function that shall, or may, be a cancellation point is one
required_point : (k : Option PointKind) → is_required k ≡ true → is_some k ≡ true
required_point (Some Required) is = refl
required_point (Some Optional) is = absurd (false≢true is)
required_point None is = absurd (false≢true is)

optional_point : (k : Option PointKind) → is_optional k ≡ true → is_some k ≡ true
optional_point (Some Required) is = absurd (false≢true is)
optional_point (Some Optional) is = refl
optional_point None is = absurd (false≢true is)

-- ---- choices that are no such choice

-- a choice that is not to act is not offered where a thread can only act
acts_only : (choice : Alt) → is_acting choice ≡ false → offers (alt.Act 0 ∷ []) choice ≡ false
acts_only (alt.Act n) other = absurd (true≢false other)
acts_only alt.Go other = refl
acts_only (alt.New n) other = refl
acts_only (alt.Pick n) other = refl
acts_only (alt.Dtor n) other = refl
acts_only alt.Expire other = refl

-- where a choice is offered that calls no destructor, no key is left
none_left : (choice : Alt) (keys : List ℕ) → is_destroying choice ≡ false → offers (dtor_or_go keys) choice ≡ true → keys ≡ []
none_left choice [] other offered = refl
none_left choice (k ∷ keys) other offered = absurd (true≢false (sym (number_has (λ c. is_destroying c ≡ true) choice (λ n. alt.Dtor n) (λ n. n) (k ∷ keys) (λ n among. refl) offered) ∙ other))

-- ---- the table

module _ (body : List Stmt) (shared : SharedState) (t : Thread) (environment : Environment) (choice : Alt) where
  -- a running thread
  id_offered : (frame : Frame) (s : Stmt) → is_create s ≡ true → (n : ℕ) → list_any (nat_eq n) environment.new_ids ≡ true → Offered shared t environment (StatementIn frame s) status.Running (alt.New n)
  id_offered frame (statement.Create result id f v detached) is n among = may_create frame result id f v detached n among
  id_offered frame _ is n among = absurd (false≢true is)

  key_offered : (frame : Frame) (s : Stmt) → is_key_create s ≡ true → (n : ℕ) → list_any (nat_eq n) (new_keys shared.keys) ≡ true → Offered shared t environment (StatementIn frame s) status.Running (alt.New n)
  key_offered frame (statement.KeyCreate result key destructor) is n among = may_make_key frame result key destructor n among
  key_offered frame _ is n among = absurd (false≢true is)

  pick_offered : (frame : Frame) (s : Stmt) → is_signal s ≡ true → (u : ℕ) → list_any (λ waiter. nat_eq u waiter.id) (waiters_to_signal environment s) ≡ true → Offered shared t environment (StatementIn frame s) status.Running (alt.Pick u)
  pick_offered frame (statement.Signal c) is u among = may_pick frame c u among
  pick_offered frame _ is u among = absurd (false≢true is)

  running_offered : (frame : Frame) (s : Stmt) → offers (running_choices body shared t environment frame s) choice ≡ true → Offered shared t environment (StatementIn frame s) status.Running choice
  unfolding running_choices running_rows
  running_offered frame s =
      let P : Alt → Type 0 = Offered shared t environment (StatementIn frame s) status.Running in
      let go : P alt.Go = may_go (StatementIn frame s) status.Running refl in
      let asynchronous_act : is_asynchronous t.state t.mode ≡ true → t.pending ≡ true → P (alt.Act 0) = λ asynchronous pending.
      may_act (StatementIn frame s) status.Running refl (asynchronous_deliverable t.state t.mode t.pending asynchronous pending) (λ elsewhere. asynchronous_mode t.state t.mode asynchronous) in
      let delivered : (kind : Bool) → (kind ≡ true → is_some (called_kind s) ≡ true) → is_deliverable t.state t.pending && kind ≡ true → P (alt.Act 0) = λ kind point both.
      let parts : (is_deliverable t.state t.pending ≡ true) × (kind ≡ true) = and_parts (is_deliverable t.state t.pending) kind both in
      may_act (StatementIn frame s) status.Running refl parts.0 (λ elsewhere. absurd (true≢false (sym (point parts.1) ∙ elsewhere))) in
      let new_has : (numbers : List ℕ) → ((n : ℕ) → list_any (nat_eq n) numbers ≡ true → P (alt.New n)) → offers (new_or_go numbers) choice ≡ true → P choice =
      number_or_has P choice new_or_go (λ n. alt.New n) (λ n. n) alt.Go refl (λ n numbers. refl) go in
      first_row_has (λ choices. offers choices choice ≡ true → P choice) (running_rows body shared t environment frame s) (alt.Go ∷ []) (
        λ forbidden. each_has P choice (alt.Go ∷ []) (go, tt),
        (
          λ asynchronous. go_or_has P choice true (act_if t.pending) (λ passes. go) (act_has P choice t.pending (asynchronous_act asynchronous)),
          (
            λ required. each_has P choice (alt.Act 0 ∷ []) (delivered (is_required (called_kind s)) (required_point (called_kind s)) required, tt),
            (
              λ optional. each_has P choice (alt.Go ∷ alt.Act 0 ∷ []) (go, (delivered (is_optional (called_kind s)) (optional_point (called_kind s)) optional, tt)),
              (
                λ blocked. each_has P choice [] tt,
                (
                  λ creates. new_has environment.new_ids (id_offered frame s creates),
                  (
                    λ creates. new_has (new_keys shared.keys) (key_offered frame s creates),
                    (λ signals. number_or_has P choice pick_or_go (λ u. alt.Pick u) (λ waiter. waiter.id) alt.Go refl (λ waiter waiters. refl) go (waiters_to_signal environment s) (pick_offered frame s signals), tt),
                  ),
                ),
              ),
            ),
          ),
        ),
      )
      (each_has P choice (alt.Go ∷ []) (go, tt))

  -- a thread that is suspended at a cancellation point
  suspended_offered : (next : NextStatement) (s : Status) → is_ended_status s ≡ false → is_at_cancellation_point next s ≡ true → offers (go_if (goes_at shared environment s) ++ act_if (is_deliverable t.state t.pending)) choice ≡ true → Offered shared t environment next s choice
  suspended_offered next s alive at_point =
      let P : Alt → Type 0 = Offered shared t environment next s in
      go_or_has P choice (goes_at shared environment s) (act_if (is_deliverable t.state t.pending)) (may_go next s) (act_has P choice (is_deliverable t.state t.pending) (λ delivered. may_act next s alive delivered (λ elsewhere. absurd (true≢false (sym at_point ∙ elsewhere)))))

  -- a thread that is suspended in a wait which may have a time
  timed_offered : (next : NextStatement) (s : Status) → may_have_time s ≡ true → is_at_cancellation_point next s ≡ true → (expires : Bool) → (expires ≡ true → (can_expire environment next ≡ true) × (goes_at shared environment s ≡ false))
      → offers (go_if (goes_at shared environment s) ++ expire_if expires ++ act_if (is_deliverable t.state t.pending)) choice ≡ true → Offered shared t environment next s choice
  timed_offered next s timed at_point expires can =
      let P : Alt → Type 0 = Offered shared t environment next s in
      go_or_expire_has P choice (goes_at shared environment s) expires (act_if (is_deliverable t.state t.pending)) (may_go next s) (λ is. may_expire next s timed (can is).0 (can is).1)
      (act_has P choice (is_deliverable t.state t.pending) (λ delivered. may_act next s (timed_alive s timed) delivered (λ elsewhere. absurd (true≢false (sym at_point ∙ elsewhere)))))

  -- a thread that was unblocked on a condition variable
  unblocked_offered : (next : NextStatement) (c m : ℕ) (why : Cause) (delivered : Bool) → (delivered ≡ true → is_deliverable t.state t.pending ≡ true) → offers (cond delivered (unblocked_acts why (environment.waiters c)) []) choice ≡ true → Offered shared t environment next (status.Reacquire c m why) choice
  unblocked_offered next c m cause.Signalled true is offered =
      number_or_has (Offered shared t environment next (status.Reacquire c m cause.Signalled)) choice hand_on_or_act (λ u. alt.Act u) (λ waiter. waiter.id) (alt.Act 0) refl (λ waiter waiters. refl)
      (may_act next (status.Reacquire c m cause.Signalled) refl (is refl) (λ elsewhere. absurd (true≢false elsewhere))) (environment.waiters c) (λ u among. may_hand_on next c m u (is refl) among) offered
  unblocked_offered next c m cause.Broadcast true is offered = each_has (Offered shared t environment next (status.Reacquire c m cause.Broadcast)) choice (alt.Act 0 ∷ []) (may_act next (status.Reacquire c m cause.Broadcast) refl (is refl) (λ elsewhere. absurd (true≢false elsewhere)), tt) offered
  unblocked_offered next c m cause.TimedOut true is offered = each_has (Offered shared t environment next (status.Reacquire c m cause.TimedOut)) choice (alt.Act 0 ∷ []) (may_act next (status.Reacquire c m cause.TimedOut) refl (is refl) (λ elsewhere. absurd (true≢false elsewhere)), tt) offered
  unblocked_offered next c m cause.Canceled true is offered = absurd (false≢true offered)
  unblocked_offered next c m why false is offered = absurd (false≢true offered)

  -- a thread that is ending
  ending_offered : (next : NextStatement) (handlers : List (ℕ × ℕ)) → t.handlers ≡ handlers → offers (ending_choices body shared t environment handlers) choice ≡ true → Offered shared t environment next status.Ending choice
  unfolding ending_choices
  ending_offered next (handler ∷ handlers) is offered = each_has (Offered shared t environment next status.Ending) choice (alt.Go ∷ []) (may_go next status.Ending refl, tt) offered
  ending_offered next [] none offered =
      number_or_has (Offered shared t environment next status.Ending) choice dtor_or_go (λ k. alt.Dtor k) (λ k. k) alt.Go refl (λ k keys. refl) (may_go next status.Ending refl) (left_keys shared.keys t.specific) (λ k among. may_destroy next k none among) offered

  -- the case of a choice that is offered
  pub offered_of : (next : NextStatement) (s : Status) → offers (choices_at body shared t environment next s) choice ≡ true → Offered shared t environment next s choice
  unfolding choices_at
  offered_of (StatementIn frame s) status.Running offered = running_offered frame s offered
  offered_of next (status.AtPoint index) offered = suspended_offered next (status.AtPoint index) refl refl offered
  offered_of next (status.Joining id) offered = suspended_offered next (status.Joining id) refl refl offered
  offered_of next (status.InSem sem) offered =
      let above : Bool = nat_lt 0 (slice_index shared.counts sem) in
      let can_and_before : can_expire environment next && not above ≡ true → (can_expire environment next ≡ true) × (above ≡ false) = λ is.
      let parts : (can_expire environment next ≡ true) × (not above ≡ true) = and_parts (can_expire environment next) (not above) is in
      (parts.0, not-true above parts.1) in
      timed_offered next (status.InSem sem) refl refl (can_expire environment next && not above) can_and_before offered
  offered_of next (status.InWaitPid pid) offered = suspended_offered next (status.InWaitPid pid) refl refl offered
  offered_of next (status.Waiting c m) offered = timed_offered next (status.Waiting c m) refl refl (can_expire environment next) (λ can. (can, refl)) offered
  offered_of next (status.Reacquire c m why) offered =
      let delivered : Bool = is_deliverable t.state t.pending in
      go_or_has (Offered shared t environment next (status.Reacquire c m why)) choice (is_free_mutex m shared) (cond delivered (unblocked_acts why (environment.waiters c)) [])
      (may_go next (status.Reacquire c m why)) (unblocked_offered next c m why delivered (λ is. is)) offered
  offered_of next status.Ending offered = ending_offered next t.handlers refl offered
  offered_of next (status.Forking at) offered =
      each_has (Offered shared t environment next (status.Forking at)) choice (alt.Go ∷ []) (may_go next (status.Forking at) refl, tt) offered
  offered_of next status.Exiting offered = each_has (Offered shared t environment next status.Exiting) choice (alt.Go ∷ []) (may_go next status.Exiting refl, tt) offered
  offered_of next _ offered = absurd (false≢true offered)

  -- a call that is no cancellation point blocks no thread that makes it, unless the call is a stop
  not_blocked : (forbidden asynchronous deliverable blocked : Bool) → forbidden ≡ false → asynchronous && true ≡ false
      → offers (first_row ((forbidden, alt.Go ∷ []) ∷ (asynchronous, alt.Go ∷ act_if t.pending) ∷ (deliverable && false, alt.Act 0 ∷ []) ∷ (deliverable && false, alt.Go ∷ alt.Act 0 ∷ []) ∷ (blocked, []) ∷ []) (alt.Go ∷ [])) choice ≡ true → blocked ≡ false
  not_blocked true _ _ _ allowed deferred offered = absurd (true≢false allowed)
  not_blocked false true _ _ allowed deferred offered = absurd (true≢false deferred)
  not_blocked false false _ false allowed deferred offered = refl
  not_blocked false false true true allowed deferred offered = absurd (false≢true offered)
  not_blocked false false false true allowed deferred offered = absurd (false≢true offered)

  -- a mutex that the thread may lock is free, unless the call is a stop
  pub free_to_lock : (frame : Frame) (m : ℕ) → is_forbidden_in_child body shared frame (statement.Lock m) ≡ false → is_asynchronous t.state t.mode && true ≡ false → offers (choices_at body shared t environment (StatementIn frame (statement.Lock m)) status.Running) choice ≡ true → is_free_mutex m shared ≡ true
  unfolding choices_at running_choices running_rows called_kind
  free_to_lock frame m allowed deferred offered =
      not-false (is_free_mutex m shared) (not_blocked (is_forbidden_in_child body shared frame (statement.Lock m)) (is_asynchronous t.state t.mode) (is_deliverable t.state t.pending) (not (is_free_mutex m shared)) allowed deferred offered)

  -- a control on which the thread may call pthread_once is not busy, unless the call is a stop
  pub not_busy : (frame : Frame) (o f : ℕ) → is_forbidden_in_child body shared frame (statement.CallOnce o f) ≡ false → is_asynchronous t.state t.mode && true ≡ false → offers (choices_at body shared t environment (StatementIn frame (statement.CallOnce o f)) status.Running) choice ≡ true → is_busy (once_at shared.onces o) ≡ false
  unfolding choices_at running_choices running_rows called_kind
  not_busy frame o f = not_blocked (is_forbidden_in_child body shared frame (statement.CallOnce o f)) (is_asynchronous t.state t.mode) (is_deliverable t.state t.pending) (is_busy (once_at shared.onces o))

  -- a thread that calls a function which shall be a cancellation point, and goes on, acts upon no request, unless the call is a stop
  pub gone_on_at_required : (frame : Frame) (s : Stmt) → is_required (called_kind s) ≡ true → is_allowed_asynchronously s ≡ false → is_forbidden_in_child body shared frame s ≡ false → is_asynchronous t.state t.mode && not (is_allowed_asynchronously s) ≡ false
      → offers (choices_at body shared t environment (StatementIn frame s) status.Running) choice ≡ true → is_acting choice ≡ false → is_deliverable t.state t.pending ≡ false
  unfolding choices_at running_choices running_rows
  gone_on_at_required frame s shall called allowed deferred offered other =
      let later_rows : List ChoiceRow =
      (is_blocked s shared, []) ∷ (is_create s, new_or_go environment.new_ids) ∷ (is_key_create s, new_or_go (new_keys shared.keys)) ∷ (is_signal s, pick_or_go (waiters_to_signal environment s)) ∷ [] in
      by (is_forbidden_in_child body shared frame s) (is_asynchronous t.state t.mode) (is_deliverable t.state t.pending) (is_required (called_kind s)) (is_allowed_asynchronously s)
      ((is_deliverable t.state t.pending && is_optional (called_kind s), alt.Go ∷ alt.Act 0 ∷ []) ∷ later_rows) shall called allowed deferred offered
    where
      by : (forbidden asynchronous deliverable required allowed : Bool) (rows : List ChoiceRow) → required ≡ true → allowed ≡ false → forbidden ≡ false → asynchronous && not allowed ≡ false
          → offers (first_row ((forbidden, alt.Go ∷ []) ∷ (asynchronous, alt.Go ∷ act_if t.pending) ∷ (deliverable && required, alt.Act 0 ∷ []) ∷ rows) (alt.Go ∷ [])) choice ≡ true → deliverable ≡ false
      by true _ _ _ _ rows shall called allowed deferred offered = absurd (true≢false allowed)
      by false true _ _ false rows shall called allowed deferred offered = absurd (true≢false deferred)
      by false true _ _ true rows shall called allowed deferred offered = absurd (true≢false called)
      by false false true true _ rows shall called allowed deferred offered = absurd (true≢false (sym offered ∙ acts_only choice other))
      by false false true false _ rows shall called allowed deferred offered = absurd (false≢true shall)
      by false false false _ _ rows shall called allowed deferred offered = refl

  -- a thread that has no handler, and ends or begins a pass, has no key left in its pass
  pub no_key_left : (next : NextStatement) → t.handlers ≡ [] → is_destroying choice ≡ false → offers (choices_at body shared t environment next status.Ending) choice ≡ true → left_keys shared.keys t.specific ≡ []
  unfolding choices_at ending_choices
  no_key_left next none other offered = none_left choice (left_keys shared.keys t.specific) other (subst (λ handlers. offers (ending_choices body shared t environment handlers) choice ≡ true) none offered)
