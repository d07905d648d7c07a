-- The functions that atexit and pthread_atfork name are plain functions of the script, and what the statements of plain functions are.
use Rattle.pct_names.proofs.Names.{◌<◌, and_parts, Bool, Dest, encode, false, false≢true, ForkHandlers, Frame, Func, is_plain, is_plain_at}
use Rattle.pct_names.proofs.Names.{is_plain_body, length, List, list_all, names_plain, names_plain_functions, NextStatement, None}
use Rattle.pct_names.proofs.Names.{none-some, NoStatement, Option, option_and_then, option_map_or, optional, refl, role_of, Script}
use Rattle.pct_names.proofs.Names.{slice_get, slice_get_within, Some, statement_at, StatementIn, Stmt, syntax_of, true, ℕ, ◌∷◌, ◌≡◌}
use Rattle.std.specs.Option.{IsSomeAnd}
use Rattle.pct_model.specs.declared.statement.Stmt.TheVariants as statement
use Rattle.pct_laws.specs.Kept.{IsPlainFunction, IsPlainIfSome, ArePlainHandlers}
use Rattle.pct_model.proofs.StaticFacts.{passes_all}
use Rattle.pct_transition_cases.proofs.PlacedStatements.{IsPlaced, nowhere, on_top}
use Rattle.pct_thread_invariants.proofs.lift.KeyedLists.{item_passes}
use Rattle.pct_thread_invariants.proofs.thread.NamedFunctions.{contents}

-- the next statement is one of a plain function, if there is one
abbrev pub is_plain_next : NextStatement → Bool
is_plain_next NoStatement = true
is_plain_next (StatementIn frame s) = is_plain (role_of s)

-- a function that has a property, if there is one
some_and : {T : Type 0} (found : Option T) (test : T → Bool) → option_map_or test found false ≡ true → IsSomeAnd found (λ x. test x ≡ true)
some_and None test is = absurd (false≢true is)
some_and (Some x) test is = is

module _ (script : Script) where
  -- a statement of the script, where all pass a test
  statement_passes : (test : Stmt → Bool) → list_all (λ (f : Func). list_all test f.body) script.funcs ≡ true → (frame : Frame) (s : Stmt) (func : Option Func) → slice_get script.funcs frame.func ≡ func
      → option_and_then (λ (f : Func). slice_get f.body frame.pc) func ≡ Some s → test s ≡ true
  statement_passes test all frame s None is at = absurd (none-some s at)
  statement_passes test all frame s (Some f) is at = item_passes test f.body frame.pc s (item_passes (λ (g : Func). list_all test g.body) script.funcs frame.func f all is) at

  -- the function that atexit names
  pub registered_plain : (frame : Frame) (result : Dest) (f : ℕ) → statement_at script frame ≡ Some (statement.AtExit result f) → IsPlainFunction script f
  unfolding statement_at names_plain encode syntax_of
  registered_plain frame result f at =
      let named : names_plain_functions (contents script) (statement.AtExit result f) ≡ true =
      statement_passes (names_plain_functions (contents script)) (passes_all (contents script) script.passes_checks).plain frame (statement.AtExit result f) (slice_get script.funcs frame.func) refl at in
      some_and (slice_get script.funcs f) is_plain_body (and_parts _ _ named).0

  -- an optional argument that is plain, if it is a function
  if_some_plain : (f : Option ℕ) → is_plain_at (contents script) (optional f) ≡ true → IsPlainIfSome script f
  if_some_plain None is = tt
  if_some_plain (Some f) is = some_and (slice_get script.funcs f) is_plain_body is

  -- the handlers that pthread_atfork names
  pub handlers_plain : (frame : Frame) (result : Dest) (handlers : ForkHandlers) → statement_at script frame ≡ Some (statement.AtFork result handlers.prepare handlers.parent handlers.child) → ArePlainHandlers script handlers
  unfolding statement_at names_plain encode syntax_of
  handlers_plain frame result handlers at =
      let named : names_plain_functions (contents script) (statement.AtFork result handlers.prepare handlers.parent handlers.child) ≡ true =
      statement_passes (names_plain_functions (contents script)) (passes_all (contents script) script.passes_checks).plain frame (statement.AtFork result handlers.prepare handlers.parent handlers.child) (slice_get script.funcs frame.func) refl at in
      let first = and_parts _ _ named in
      let second = and_parts _ _ first.1 in
      record { prepare = if_some_plain handlers.prepare first.0; parent = if_some_plain handlers.parent second.0; child = if_some_plain handlers.child (and_parts _ _ second.1).0 }

  -- a plain function is one of the script
  pub plain_below : (f : ℕ) → IsPlainFunction script f → f < length script.funcs
  plain_below f = by_function (slice_get script.funcs f) refl
    where
      by_function : (func : Option Func) → slice_get script.funcs f ≡ func → IsSomeAnd func (λ g. is_plain_body g ≡ true) → f < length script.funcs
      by_function None is plain = absurd plain
      by_function (Some g) is plain = slice_get_within script.funcs f g is

  plain_in : (pc : ℕ) (s : Stmt) (func : Option Func) → IsSomeAnd func (λ g. is_plain_body g ≡ true) → option_and_then (λ (g : Func). slice_get g.body pc) func ≡ Some s → is_plain (role_of s) ≡ true
  plain_in pc s None plain at = absurd plain
  plain_in pc s (Some g) plain at = item_passes (λ (x : Stmt). is_plain (role_of x)) g.body pc s plain at

  -- the next statement of a thread whose top frame is one of a plain function
  pub plain_next : (frame : Frame) (below : List Frame) {body : List Stmt} {next : NextStatement} → IsPlainFunction script frame.func → IsPlaced script (frame ∷ below) body next → is_plain_next next ≡ true
  unfolding statement_at
  plain_next frame below plain (nowhere frames body) = refl
  plain_next frame below plain (on_top _ _ s at) = plain_in frame.pc s (slice_get script.funcs frame.func) plain at
