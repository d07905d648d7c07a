-- What a transition stores in variables: the values that it writes, in order, and nothing else.
use Rattle.pct_names.proofs.Names.{◌<◌, [], AllByRecursion, ap, Bool, cond, eqb-false, false, false≢true, Frame, frames_written}
use Rattle.pct_names.proofs.Names.{globals_written, length, List, moved, nat_eq, None, Option, option_map, own_after, OwnAction, refl}
use Rattle.pct_names.proofs.Names.{Script, shared_after, shared_moved, SharedAction, SharedState, slice_index, slice_set, Some, subst, sym}
use Rattle.pct_names.proofs.Names.{Thread, thread_at, Transition, true, without_first, written, ℕ, ◌∙◌, ◌∷◌, ◌≡◌}
use Rattle.std.proofs.Common.{eqb-true}
use Rattle.std.proofs.lemmas.List.{get_or-set_same, get_or-set_other, length-set}
use Rattle.pct_model.specs.declared.limits.TheConstants.{MAX_LOCALS}
use Rattle.pct_model.specs.declared.statement.Dest.TheVariants as destination
use Rattle.pct_model.specs.declared.transition.OwnAction.TheVariants as own_action
use Rattle.pct_model.specs.declared.transition.SharedAction.TheVariants as shared_action
use Rattle.pct_laws.specs.ResultLaw.{Store, after_stores, local_on_top}
use Rattle.pct_ending_laws.proofs.results.NamedVariables.{IsVariable}

-- ---- actions

-- no action changes the globals
shared_keeps : (a : Option SharedAction) (s : SharedState) → (shared_after a s).globals ≡ s.globals
unfolding shared_after
shared_keeps (Some shared_action.TakeExit) s = refl
shared_keeps _ s = refl

-- the action, if there is one, sets the cancelability
abbrev pub stays : Option OwnAction → Bool
stays None = true
stays (Some (own_action.SetState state)) = true
stays (Some (own_action.SetMode mode)) = true
stays _ = false

own_stays : (a : Option OwnAction) → stays a ≡ true → (t : Thread) → (own_after a t).frames ≡ t.frames
unfolding own_after
own_stays None is t = refl
own_stays (Some (own_action.SetState state)) is t = refl
own_stays (Some (own_action.SetMode mode)) is t = refl
own_stays _ is t = absurd (false≢true is)

-- such a thread goes on in its frames, with the values that are written
pub frames_moved : (o : Transition) → stays o.own ≡ true → (t : Thread)
    → (moved o t).frames ≡ written frames_written o.writes (thread_at o.next t).frames
frames_moved o is t = own_stays o.own is _

-- the frames below the top one stay
pub below_with : (stores : List Store) (frames : List Frame) → without_first (written frames_written stores frames) ≡ without_first frames
below_with [] frames = refl
below_with ((destination.Local j, v) ∷ later) [] = below_with later []
below_with ((destination.Local j, v) ∷ later) (frame ∷ below) =
    below_with later (record frame { locals = slice_set frame.locals j v } ∷ below)
below_with ((_, v) ∷ later) frames = below_with later frames

-- ---- one number

-- an item of a list in which one is written
item_written : (xs : List ℕ) (j v i : ℕ) → j < length xs → slice_index (slice_set xs j v) i ≡ cond (nat_eq j i) v (slice_index xs i)
item_written xs j v i within = by_index (nat_eq j i) refl
  where
    by_index : (same : Bool) → nat_eq j i ≡ same → slice_index (slice_set xs j v) i ≡ cond same v (slice_index xs i)
    by_index true same = subst (λ (k : ℕ). slice_index (slice_set xs j v) k ≡ v) (eqb-true j i same) (get_or-set_same xs j v 0 within)
    by_index false differs = get_or-set_other xs j i v 0 (λ same. eqb-false j i differs (sym same))

module _ (script : Script) where
  -- each number is stored in a variable of the script
  abbrev pub InVariables : List Store → Type 0
  InVariables = AllByRecursion (λ (store : Store). IsVariable script store.0)

  -- ---- globals

  global_with : (stores : List Store) (globals : List ℕ) → InVariables stores → length globals ≡ length script.globals → (i : ℕ)
      → slice_index (written globals_written stores globals) i ≡ after_stores (destination.Global i) stores (slice_index globals i)
  global_with [] globals are same i = refl
  global_with ((destination.Global j, v) ∷ later) globals are same i =
      global_with later (slice_set globals j v) are.1 (length-set globals j v ∙ same) i
      ∙ ap (after_stores (destination.Global i) later) (item_written globals j v i (subst (λ (n : ℕ). j < n) (sym same) are.0))
  global_with ((_, v) ∷ later) globals are same i = global_with later globals are.1 same i

  -- the globals after a transition
  pub globals_after : (tid : ℕ) (o : Transition) (s : SharedState) → InVariables o.writes → length s.globals ≡ length script.globals
      → (i : ℕ) → slice_index (shared_moved tid o s).globals i ≡ after_stores (destination.Global i) o.writes (slice_index s.globals i)
  globals_after tid o s are same i =
      ap (λ (globals : List ℕ). slice_index globals i) (shared_keeps o.shared _) ∙ global_with o.writes s.globals are same i

  -- ---- locals

  -- each frame has its locals
  abbrev pub HaveLocals : List Frame → Type 0
  HaveLocals = AllByRecursion (λ (frame : Frame). length frame.locals ≡ MAX_LOCALS)

  pub local_with : (stores : List Store) (frames : List Frame) → InVariables stores → HaveLocals frames → (i : ℕ)
      → local_on_top i (written frames_written stores frames) ≡ option_map (after_stores (destination.Local i) stores) (local_on_top i frames)
  local_with [] [] are have i = refl
  local_with [] (frame ∷ below) are have i = refl
  local_with ((destination.Local j, v) ∷ later) (frame ∷ below) are have i =
      local_with later (record frame { locals = slice_set frame.locals j v } ∷ below) are.1 (length-set frame.locals j v ∙ have.0, have.1) i
      ∙ ap (λ (n : ℕ). Some (after_stores (destination.Local i) later n)) (item_written frame.locals j v i (subst (λ (n : ℕ). j < n) (sym have.0) are.0))
  local_with ((_, v) ∷ later) frames are have i = local_with later frames are.1 have i

-- ---- lengths

length_with : (stores : List Store) (globals : List ℕ) → length (written globals_written stores globals) ≡ length globals
length_with [] globals = refl
length_with ((destination.Global j, v) ∷ later) globals = length_with later (slice_set globals j v) ∙ length-set globals j v
length_with ((_, v) ∷ later) globals = length_with later globals

-- a transition keeps the number of globals
pub globals_kept : (tid : ℕ) (o : Transition) (s : SharedState) → length (shared_moved tid o s).globals ≡ length s.globals
globals_kept tid o s = ap (λ (globals : List ℕ). length globals) (shared_keeps o.shared _) ∙ length_with o.writes s.globals
