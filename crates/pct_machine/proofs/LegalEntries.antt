-- The entries that a machine accepts are those that are legal.
use Rattle.pct_names.proofs.Names.{◌&&◌, ◌<◌, [], and_from, and_parts, ap, arith, Bool, cond, cond-true, Config, Entry, false}
use Rattle.pct_names.proofs.Names.{find, find_at, get_or, get_or-take, get_or_from_slice_get, IfSome, is_none, is_some, length}
use Rattle.pct_names.proofs.Names.{length-take}
use Rattle.pct_names.proofs.Names.{List, nat_eq, nat_le, nat_lt, None, none-some, not, Option, option_and_then, position}
use Rattle.pct_names.proofs.Names.{position-Some, position_or_len, refl, same_Some, Script, slice_get, slice_get-get_or, slice_get_past}
use Rattle.pct_names.proofs.Names.{Some, subst, sym, take, Transition, true, ℕ, ◌∙◌, ◌∷◌, ◌≡◌, ◌≤◌}
use Rattle.std.proofs.lemmas.Bool.{eqb-true, ne_eqb, ltb-false, le-leb}
use Rattle.pct_engine_laws.specs.Seen.{SeenProcess, Seen, is_live_seen}
use Rattle.pct_engine_laws.specs.SeenSteps.{seen_transition}
use Rattle.pct_place.specs.ProcessSteps.{taken_in, takes_in}
use Rattle.pct_machine.specs.Places.{ProcessList, families}
use Rattle.pct_machine.specs.ListChanges.{taken_among}
use Rattle.pct_machine.specs.MachineSteps.{legal_transition}

-- a process with another id
pub not_live : (pid : ℕ) (p : SeenProcess) → (p.pid ≡ pid → ⊥) → is_live_seen pid p ≡ false
not_live pid p other = ap (λ b. b && not (is_some p.ended)) (ne_eqb p.pid pid other)

-- the id of a process that is found by it
pub named : (pid : ℕ) (p : SeenProcess) → is_live_seen pid p ≡ true → p.pid ≡ pid
named pid p live = eqb-true p.pid pid (and_parts (nat_eq p.pid pid) (not (is_some p.ended)) live).0

-- the process that is found at an index, among the first places
pub record IsFound (pid i live : ℕ) (places : List SeenProcess) (p : SeenProcess) : Type 0 where
  pub within : i < live
  pub here : p ≡ get_or places i p
  pub at : slice_get (take live places) i ≡ Some p
  pub has_id : is_live_seen pid p ≡ true
  pub first : find (is_live_seen pid) (take live places) ≡ Some p

-- the first process that passes a test, by its index
pub found_at : (test : SeenProcess → Bool) (ps : List SeenProcess) → find test ps ≡ option_and_then (slice_get ps) (position test ps)
found_at test ps = find_at test ps ∙ by (nat_lt (position_or_len test ps) (length ps)) refl where
  by : (b : Bool) → nat_lt (position_or_len test ps) (length ps) ≡ b
      → slice_get ps (position_or_len test ps) ≡ option_and_then (slice_get ps) (cond b (Some (position_or_len test ps)) None)
  by true within = refl
  by false past = slice_get_past ps (position_or_len test ps) (ltb-false (position_or_len test ps) (length ps) past)

-- it passes the test
pub test_passes : (test : SeenProcess → Bool) (p : SeenProcess) (ps : List SeenProcess) → find test ps ≡ Some p → test p ≡ true
test_passes test p [] found = absurd (none-some p found)
test_passes test p (q ∷ ps) found = by (test q) refl (test_passes test p ps) found where
  by : (b : Bool) → test q ≡ b → (find test ps ≡ Some p → test p ≡ true) → cond b (Some q) (find test ps) ≡ Some p → test p ≡ true
  by true passes later found = ap test (sym (same_Some q p found)) ∙ passes
  by false fails later found = later found

is_found : (pid i live : ℕ) (places : List SeenProcess) (p : SeenProcess) → position (is_live_seen pid) (take live places) ≡ Some i → p ≡ get_or places i p → IsFound pid i live places p
is_found pid i live places p found here =
    let ps : List SeenProcess = take live places in
    let parts = position-Some (is_live_seen pid) ps i p found in
    let within : i < live = omega (arith, parts.0, length-take live places) in
    let is : p ≡ get_or ps i p = here ∙ sym (get_or-take live places i p within) in
    let at : slice_get ps i ≡ Some p = slice_get-get_or ps i p parts.0 ∙ ap Some (sym is) in
    record {
      within = within;
      here = here;
      at = at;
      has_id = ap (is_live_seen pid) is ∙ parts.1;
      first = found_at (is_live_seen pid) ps ∙ ap (option_and_then (slice_get ps)) found ∙ at;
    }

-- the same of the list of the processes on these places
module _ (pid i live made : ℕ) (places : List SeenProcess) (list : ProcessList) (view : record { processes = take live places; made = made } ≡ list) (at : Some i ≡ position (is_live_seen pid) list.processes) where
  position_is : position (is_live_seen pid) (take live places) ≡ Some i
  position_is = subst (λ (l : ProcessList). position (is_live_seen pid) l.processes ≡ Some i) (sym view) (sym at)

  pub found_in : (p : SeenProcess) → p ≡ get_or places i p → IsFound pid i live places p
  found_in p here = is_found pid i live places p position_is here

  -- and of the process that is found by the id
  pub found_by : (p : SeenProcess) → find (is_live_seen pid) list.processes ≡ Some p → IsFound pid i live places p
  found_by p found =
      let ps : List SeenProcess = take live places in
      let within : i < live = omega (arith, (position-Some (is_live_seen pid) ps i p position_is).0, length-take live places) in
      let here : slice_get ps i ≡ Some p = sym (found_at (is_live_seen pid) ps ∙ ap (option_and_then (slice_get ps)) position_is) ∙ subst (λ (l : ProcessList). find (is_live_seen pid) l.processes ≡ Some p) (sym view) found in
      found_in p (sym (get_or_from_slice_get ps i p p here) ∙ get_or-take live places i p within)

-- no process is found
pub none_found : (pid : ℕ) (ps : List SeenProcess) → position (is_live_seen pid) ps ≡ None → find (is_live_seen pid) ps ≡ None
none_found pid ps none = found_at (is_live_seen pid) ps ∙ ap (option_and_then (slice_get ps)) none

-- an entry takes what it takes of its process; without one, it takes nothing
module _ (script : Script) (config : Config) (list : ProcessList) (e : Entry) where
  pub none_taken : position (is_live_seen e.pid) list.processes ≡ None → taken_among script config list e ≡ None
  none_taken none = ap (option_and_then (λ p. taken_in script config (families list p.pid) p e)) (none_found e.pid list.processes none)

  pub taken_by : (p : SeenProcess) → find (is_live_seen e.pid) list.processes ≡ Some p → is_live_seen e.pid p ≡ true → taken_among script config list e ≡ taken_in script config (families list e.pid) p e
  taken_by p found live =
      ap (option_and_then (λ q. taken_in script config (families list q.pid) q e)) found
      ∙ ap (λ (pid : ℕ). taken_in script config (families list pid) p e) (named e.pid p live)

-- the entry that was chosen takes what it takes of its process
pub chosen_takes : (script : Script) (config : Config) (list : ProcessList) (p : SeenProcess) (o : Transition) → find (is_live_seen p.pid) list.processes ≡ Some p → is_live_seen p.pid p ≡ true → (chosen : Option Entry) → IfSome chosen (λ e. e.pid ≡ p.pid)
    → IfSome chosen (λ e. taken_in script config (families list p.pid) p e ≡ Some o) → IfSome chosen (λ e. taken_among script config list e ≡ Some o)
chosen_takes script config list p o found live None named taken = tt
chosen_takes script config list p o found live (Some e) named taken =
    taken_by script config list e p (subst (λ (pid : ℕ). find (is_live_seen pid) list.processes ≡ Some p) (sym named) found) (ap (λ (pid : ℕ). is_live_seen pid p) named ∙ live)
    ∙ ap (λ (pid : ℕ). taken_in script config (families list pid) p e) named
    ∙ taken

-- so does an entry that its process takes
pub taken_of_one : (script : Script) (config : Config) (list : ProcessList) (p : SeenProcess) → find (is_live_seen p.pid) list.processes ≡ Some p → (chosen : Option Entry) → IfSome chosen (λ e. takes_in script config (families list p.pid) e p ≡ true)
    → IfSome chosen (λ e. is_some (taken_among script config list e) ≡ true)
taken_of_one script config list p found None takes = tt
taken_of_one script config list p found (Some e) takes =
    let parts = and_parts (is_live_seen e.pid p) (is_some (taken_in script config (families list p.pid) p e)) takes in
    let is : p.pid ≡ e.pid = named e.pid p parts.0 in
    ap is_some (taken_by script config list e p (subst (λ (pid : ℕ). find (is_live_seen pid) list.processes ≡ Some p) is found) parts.0 ∙ ap (λ (pid : ℕ). taken_in script config (families list pid) p e) (sym is))
    ∙ parts.1

-- what a legal entry takes, where the run was not stopped
pub admitted : (script : Script) (config : Config) (v : Seen) (e : Entry) → is_some v.stop ≡ false → e.worker ≤ 16 → legal_transition script config v e ≡ seen_transition script config v e
admitted script config v e running worker =
    cond-true (is_none v.stop && nat_le e.worker 16) (seen_transition script config v e) None (and_from (is_none v.stop) (nat_le e.worker 16) (ap not running) (le-leb e.worker 16 worker))
