-- The cancellation points (XSH 2.9.5.2): functions that shall be cancellation points, and some that may be. The
-- standard has the two lists from which the kinds are taken. The selection of names, their order, and what a thread
-- suspended at a point waits for are choices of this host.
use Rattle.std.specs.Prelude.{ℕ, List, [], ◌∷◌, Option, codes, bytes_eq, position, slice_get, option_map, option_and_then, flat_map}
use Rattle.std.specs.Option.{option_map_or}
use Rattle.pct_model.specs.Keywords.{line_text}
use Rattle.pct_model.specs.declared.point.Point.{Point}
use Rattle.pct_model.specs.declared.point.PointKind.{PointKind}
use Rattle.pct_model.specs.declared.point.PointKind.TheVariants.{Required, Optional}
use Rattle.pct_model.specs.declared.point.PointWait.{PointWait}
use Rattle.pct_model.specs.declared.point.PointWait.TheVariants.{NoWait, Outside, Never, Inside}

-- a row of the table: a function's name, whether it shall or may be a cancellation point, and what a thread at it waits
-- for
pub record Row : Type 0 where
  pub name : List ℕ
  pub kind : PointKind
  pub wait : PointWait

-- a function at which a cancellation point shall occur
abbrev pub required : List ℕ → PointWait → Row
required name wait = record { name = name; kind = Required; wait = wait }

-- a function at which a cancellation point may occur; in this host no thread is suspended at it
abbrev pub optional : List ℕ → Row
optional name = record { name = name; kind = Optional; wait = NoWait }

-- the table of cancellation points; a point's index is its row number, from 0
unfoldable pub points : List Row
points =
    required (codes "accept") Outside
    ∷ required (codes "aio_suspend") Outside
    ∷ required (codes "clock_nanosleep") Outside
    ∷ required (codes "close") Outside
    ∷ required (codes "connect") Outside
    ∷ required (codes "creat") Outside
    ∷ required (codes "fdatasync") Outside
    ∷ required (codes "fsync") Outside
    ∷ required (codes "mq_receive") Outside
    ∷ required (codes "mq_send") Outside
    ∷ required (codes "msgrcv") Outside
    ∷ required (codes "msgsnd") Outside
    ∷ required (codes "msync") Outside
    ∷ required (codes "nanosleep") Outside
    ∷ required (codes "open") Outside
    ∷ required (codes "openat") Outside
    ∷ required (codes "pause") Never
    ∷ required (codes "poll") Outside
    ∷ required (codes "pread") Outside
    ∷ required (codes "pselect") Outside
    ∷ required (codes "pthread_cond_timedwait") Inside
    ∷ required (codes "pthread_cond_wait") Inside
    ∷ required (codes "pthread_join") Inside
    ∷ required (codes "pthread_testcancel") NoWait
    ∷ required (codes "pwrite") Outside
    ∷ required (codes "read") Outside
    ∷ required (codes "readv") Outside
    ∷ required (codes "recv") Outside
    ∷ required (codes "recvfrom") Outside
    ∷ required (codes "recvmsg") Outside
    ∷ required (codes "select") Outside
    ∷ required (codes "sem_timedwait") Inside
    ∷ required (codes "sem_wait") Inside
    ∷ required (codes "send") Outside
    ∷ required (codes "sendmsg") Outside
    ∷ required (codes "sendto") Outside
    ∷ required (codes "sigsuspend") Never
    ∷ required (codes "sigtimedwait") Outside
    ∷ required (codes "sigwait") Never
    ∷ required (codes "sigwaitinfo") Never
    ∷ required (codes "sleep") Outside
    ∷ required (codes "tcdrain") Outside
    ∷ required (codes "wait") Inside
    ∷ required (codes "waitid") Inside
    ∷ required (codes "waitpid") Inside
    ∷ required (codes "write") Outside
    ∷ required (codes "writev") Outside
    ∷ optional (codes "fclose")
    ∷ optional (codes "fflush")
    ∷ optional (codes "fgets")
    ∷ optional (codes "fopen")
    ∷ optional (codes "fprintf")
    ∷ optional (codes "fputs")
    ∷ optional (codes "printf")
    ∷ optional (codes "puts")
    ∷ optional (codes "opendir")
    ∷ optional (codes "closedir")
    ∷ optional (codes "readdir")
    ∷ []

-- the point with an index, if the index is in the table
abbrev pub point_at : ℕ → Option Point
point_at index = option_map (λ r. record { index = index; kind = r.kind; wait = r.wait }) (slice_get points index)

-- the point with a name, if there is one
unfoldable pub point_of : List ℕ → Option Point
point_of name = option_and_then point_at (position (λ r. bytes_eq r.name name) points)

-- the name of the point with an index, or the empty name if the index is out of range
unfoldable pub point_name : ℕ → List ℕ
point_name index = option_map_or (λ r. r.name) (slice_get points index) []

-- ---- the text of the table

-- the word of each kind
abbrev pub kind_text : PointKind → List ℕ
kind_text Required = codes "required"
kind_text Optional = codes "optional"

-- the word of each wait
abbrev pub wait_text : PointWait → List ℕ
wait_text NoWait = codes "no_wait"
wait_text Outside = codes "outside"
wait_text Never = codes "never"
wait_text Inside = codes "inside"

-- `NAME KIND WAIT`
abbrev pub row_words : Row → List (List ℕ)
row_words row = row.name ∷ kind_text row.kind ∷ wait_text row.wait ∷ []

-- the table as text: a line for each point, in the order of their indexes
unfoldable pub points_text : List ℕ
points_text = flat_map (λ row. line_text (row_words row)) points
