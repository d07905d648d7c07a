-- The choices of a thread, as a list.
use Rattle.std.specs.Prelude.{◌≡◌, ◌<◌, true, List, [], ◌∷◌, All, length, map, Option, Some, None}
use Rattle.pct_model.specs.declared.point.PointKind.{PointKind}
use Rattle.pct_model.specs.declared.point.PointKind.TheVariants as kinds
use Rattle.pct_model.specs.declared.schedule.Alt.{Alt}
use Rattle.pct_model.specs.declared.schedule.Alt.TheVariants as alt
use Rattle.pct_model.specs.declared.statement.Stmt.{Stmt}
use Rattle.pct_model.specs.CancelCalls.{called_kind}
use Rattle.pct_model.specs.Keys.{new_keys, left_keys}
use Rattle.pct_model.specs.Environment.{Environment}
use Rattle.pct_model.specs.World.{SharedState}
use Rattle.pct_model.specs.ChoiceTable.{first_row, is_blocked, is_create, is_key_create, is_signal, waiters_to_signal, new_or_go, pick_or_go}
use Rattle.pct_threads.specs.Slots.{Slot}
use Rattle.pct_threads.specs.Tables.{is_occupied_at, next_id_at}
use Rattle.pct_keys.specs.Tables.{Table, row_at}
use Rattle.pct_step_context.specs.OtherThreads.{ids_on}
use Rattle.pct_transitions.specs.declared.choice_table.Choices.{Choices}
use Rattle.pct_transitions.specs.declared.choice_table.Choices.TheVariants as choices

-- the choices in a process with these threads and keys, in their order
abbrev pub listed : List Slot → Table → Choices → List Alt
listed threads keys choices.None = []
listed threads keys choices.Go = alt.Go ∷ []
listed threads keys choices.Act = alt.Act 0 ∷ []
listed threads keys choices.GoOrAct = alt.Go ∷ alt.Act 0 ∷ []
listed threads keys choices.Expire = alt.Expire ∷ []
listed threads keys choices.ExpireOrAct = alt.Expire ∷ alt.Act 0 ∷ []
listed threads keys (choices.New free) = map (λ s. alt.New (next_id_at threads s)) free
listed threads keys choices.NewKey = map (λ n. alt.New n) (new_keys keys.places)
listed threads keys (choices.Dtor slot) = map (λ n. alt.Dtor n) (left_keys keys.places (row_at keys slot))
listed threads keys (choices.Pick waiting) = map (λ n. alt.Pick n) (ids_on threads waiting)
listed threads keys (choices.HandOn waiting) = map (λ n. alt.Act n) (ids_on threads waiting)
listed threads keys (choices.GoOrHandOn waiting) = alt.Go ∷ map (λ n. alt.Act n) (ids_on threads waiting)

-- a thread can be created on a slot of the table alone; the thread that calls a destructor has such a slot, and a thread holds each of
-- those that it names for a signal
abbrev pub AreWithin : List Slot → Choices → Type 0
AreWithin threads (choices.New free) = All (λ s. s < length threads) free
AreWithin threads (choices.Dtor slot) = slot < length threads
AreWithin threads (choices.Pick waiting) = All (λ s. is_occupied_at threads s ≡ true) waiting
AreWithin threads (choices.HandOn waiting) = All (λ s. is_occupied_at threads s ≡ true) waiting
AreWithin threads (choices.GoOrHandOn waiting) = All (λ s. is_occupied_at threads s ≡ true) waiting
AreWithin threads _ = Unit {0}

-- the thread that calls a destructor has a row of keys
abbrev pub HasRowFor : Table → Choices → Type 0
HasRowFor keys (choices.Dtor slot) = slot < length keys.rows
HasRowFor keys _ = Unit {0}

-- the choices of a running thread at a statement, where it acts upon no request
abbrev pub statement_choices : SharedState → Environment → Stmt → List Alt
statement_choices shared environment s =
    first_row (
    (is_blocked s shared, [])
    ∷ (is_create s, new_or_go environment.new_ids)
    ∷ (is_key_create s, new_or_go (new_keys shared.keys))
    ∷ (is_signal s, pick_or_go (waiters_to_signal environment s))
    ∷ []
    ) (alt.Go ∷ [])

-- the choices at a statement that calls a cancellation point of this kind, or none, where a pending request is acted upon at such points;
-- the others are those of a thread that acts upon no request
abbrev pub choices_at_point : Option PointKind → List Alt → List Alt
choices_at_point (Some kinds.Required) others = alt.Act 0 ∷ []
choices_at_point (Some kinds.Optional) others = alt.Go ∷ alt.Act 0 ∷ []
choices_at_point None others = others

-- the choices of a running thread at a statement, where it acts upon a pending request at cancellation points
abbrev pub requested_choices : SharedState → Environment → Stmt → List Alt
requested_choices shared environment s = choices_at_point (called_kind s) (statement_choices shared environment s)
