-- The table of points: how many points of each kind there are, and that each point is found by its name.
use Rattle.pct_names.proofs.Names.{◌&&◌, ◌<◌, [], agree_below_at, ap, Bool, bytes_eq, codes, COND_WAIT_POINT, count_by, drop, false, get_or}
use Rattle.pct_names.proofs.Names.{is_foreign, JOIN_POINT, length, List, list_all, nat_eq, None, not, NoWait, Option, option_and_then}
use Rattle.pct_names.proofs.Names.{option_map, option_map_or, Optional, Point, point_at, point_name, point_of, PointKind, points, position}
use Rattle.pct_names.proofs.Names.{position-Some, refl, Required, Row, same_Some, SEM_WAIT_POINT, slice_get, slice_get-get_or, Some, sym}
use Rattle.pct_names.proofs.Names.{take, TESTCANCEL_POINT, true, WAITPID_POINT, ℕ, ◌∙◌, ◌≡◌}
use Rattle.std.proofs.lemmas.Bool.{eqb-true, true≢false}
use Rattle.pct_model.proofs.Bytes.{same_bytes}

-- ---- how many

abbrev is_required : PointKind → Bool
is_required Required = true
is_required Optional = false

-- 58 points: 47 required ones, then 11 optional ones
kinds : (length points ≡ 58) × (list_all (λ row. is_required row.kind) (take 47 points) ≡ true) × (list_all (λ row. not (is_required row.kind)) (drop 47 points) ≡ true)
unfolding points
kinds = (refl, refl, refl)

-- at 38 of the required points a thread waits for an event outside the script, or for a signal
waits : count_by (λ row. is_required row.kind && is_foreign row.wait) points ≡ 38
unfolding points
waits = refl

-- the index of the point with a name
abbrev index_of_name : List ℕ → Option ℕ
index_of_name name = option_map (λ p. p.index) (point_of name)

-- the five points that the machine's definitions name by a constant
named_indexes : (index_of_name (codes "pthread_cond_wait") ≡ Some COND_WAIT_POINT) × (index_of_name (codes "pthread_join") ≡ Some JOIN_POINT)
    × (index_of_name (codes "pthread_testcancel") ≡ Some TESTCANCEL_POINT) × (index_of_name (codes "sem_wait") ≡ Some SEM_WAIT_POINT) × (index_of_name (codes "waitpid") ≡ Some WAITPID_POINT)
unfolding points point_of
named_indexes = (refl, refl, refl, refl, refl)

-- names of no point: a name without its last byte or with one byte more, the empty name, and another function
others : (point_of (codes "accep") ≡ None) × (point_of (codes "accept4") ≡ None) × (point_of [] ≡ None) × (point_of (codes "pthread_mutex_lock") ≡ None)
unfolding points point_of
others = (refl, refl, refl, refl)

-- ---- names

abbrev is_found_at : ℕ → Option ℕ → Bool
is_found_at index None = false
is_found_at index (Some row_number) = nat_eq row_number index

-- the first row with the name of the row at this index is that row
abbrev is_first : ℕ → Bool
is_first index = is_found_at index (position (λ row. bytes_eq row.name (point_name index)) points)

each_is_first : (index : ℕ) → index < 58 → is_first index ≡ true
unfolding points point_name
each_is_first index l = agree_below_at is_first (λ _. true) 58 index refl l

found_from : (index : ℕ) (found : Option ℕ) → is_found_at index found ≡ true → found ≡ Some index
found_from index None h = absurd (true≢false (sym h))
found_from index (Some row_number) h = ap Some (eqb-true row_number index h)

-- a point is found by its name; so no two points have the same name
pub name_finds_point : (index : ℕ) → index < 58 → point_of (point_name index) ≡ point_at index
unfolding point_of
name_finds_point index l = ap (option_and_then point_at) (found_from index _ (each_is_first index l))

named_in : (index : ℕ) (row : Row) (p : Point) → slice_get points index ≡ Some row → option_and_then point_at (Some index) ≡ Some p → point_name p.index ≡ row.name
unfolding point_name
named_in index row p at is =
    let built : Some (record { index = index; kind = row.kind; wait = row.wait }) ≡ Some p = sym (ap (option_map (λ r. record { index = index; kind = r.kind; wait = r.wait })) at) ∙ is in
    let row_number : p.index ≡ index = sym (ap (λ q. q.index) (same_Some _ _ built)) in
    ap (λ i. option_map_or (λ r. r.name) (slice_get points i) []) row_number ∙ ap (λ r. option_map_or (λ r. r.name) r []) at

named_at : (name : List ℕ) (found : Option ℕ) (p : Point) → position (λ row. bytes_eq row.name name) points ≡ found → option_and_then point_at found ≡ Some p → point_name p.index ≡ name
named_at name None p there is = absurd (cc)
named_at name (Some index) p there is =
    let blank : Row = record { name = []; kind = Optional; wait = NoWait } in
    let first = position-Some (λ row. bytes_eq row.name name) points index blank there in
    let row = get_or points index blank in
    named_in index row p (slice_get-get_or points index blank first.0) is ∙ same_bytes row.name name first.1

-- the point found by a name has this name
pub point_has_name : (name : List ℕ) (p : Point) → point_of name ≡ Some p → point_name p.index ≡ name
unfolding point_of
point_has_name name p is = named_at name _ p refl is
