-- The functions that a script's statements name are functions of the script.
use Rattle.pct_names.proofs.Names.{◌+◌, ◌<◌, [], and_parts, arith, Bool, bytes_eq, cond, Contents, Dest, encode, false, false≢true, Frame}
use Rattle.pct_names.proofs.Names.{Func, has_first_word, has_line, has_lines, has_word, have_words, index_among, is_found, keyword_text}
use Rattle.pct_names.proofs.Names.{length, length-map, List, list_all, list_any, main_of, name_at, names_of, None, none-some, not, Operand}
use Rattle.pct_names.proofs.Names.{Option, option_and_then, position-Some, position_or_len, refl, Script, slice_get, Some, statement_at}
use Rattle.pct_names.proofs.Names.{Stmt, subst, suc, syntax_of, true, ◌||◌, ℕ, ◌∷◌, ◌≡◌}
use Rattle.pct_model.specs.declared.keyword.Keyword.TheVariants as keyword
use Rattle.pct_model.specs.declared.statement.Stmt.TheVariants as statement
use Rattle.pct_model.proofs.StaticFacts.{passes_all, text_parts, lines_of_function}
use Rattle.pct_jumps.proofs.OpenBlocks.{close_at}
use Rattle.pct_thread_invariants.proofs.lift.KeyedLists.{item_passes}

-- the functions that the statements of a script name, and `main`, are functions of the script
pub record NamesFunctions (script : Script) : Type 0 where
  pub main : main_of (names_of script.funcs) < length script.funcs
  pub called : (frame : Frame) (f : ℕ) (x : Operand) → statement_at script frame ≡ Some (statement.Do f x) → f < length script.funcs
  pub pushed : (frame : Frame) (f : ℕ) (x : Operand) → statement_at script frame ≡ Some (statement.Push f x) → f < length script.funcs
  pub created : (frame : Frame) (result id : Dest) (f : ℕ) (x : Operand) (detached : Bool) → statement_at script frame ≡ Some (statement.Create result id f x detached) → f < length script.funcs
  pub routine : (frame : Frame) (o f : ℕ) → statement_at script frame ≡ Some (statement.CallOnce o f) → f < length script.funcs
  pub destructor : (frame : Frame) (result key : Dest) (f : ℕ) → statement_at script frame ≡ Some (statement.KeyCreate result key (Some f)) → f < length script.funcs

-- ---- lists

some_cons : {A : Type 0} (p : A → Bool) (xs : List A) (passes : Bool) → (list_any p xs ≡ true → position_or_len p xs < length xs) → (passes || list_any p xs) ≡ true → cond (not passes) (1 + position_or_len p xs) 0 < suc (length xs)
some_cons p xs true later any = omega arith
some_cons p xs false later any = let low : position_or_len p xs < length xs = later any in omega arith

-- the first item that passes, where some item does
first_below : {A : Type 0} (p : A → Bool) (xs : List A) → list_any p xs ≡ true → position_or_len p xs < length xs
first_below p [] any = absurd (false≢true any)
first_below p (x ∷ xs) any = some_cons p xs (p x) (first_below p xs) any

-- ---- names

-- the index of a name that is found is one of the names'
pub found_below : (names : List (List ℕ)) (i : ℕ) → is_found names i ≡ true → i < length names
found_below names i found = (position-Some (λ (name : List ℕ). bytes_eq name (name_at names i)) names i [] (close_at i (index_among names (name_at names i)) found)).0

module _ (script : Script) where
  abbrev pub contents : Contents
  contents = record { globals = script.globals; mutexes = script.mutexes; conds = script.conds; sems = script.sems; onces = script.onces; funcs = script.funcs }

  item_below : (f : ℕ) → is_found (names_of script.funcs) f ≡ true → f < length script.funcs
  item_below f found = subst (λ (n : ℕ). f < n) (length-map script.funcs (λ (g : Func). g.name)) (found_below (names_of script.funcs) f found)

  -- some line is the encoding of a statement of the script
  abbrev pub IsLine : Stmt → Type 0
  IsLine s = (locals : List (List ℕ)) × (has_line contents locals s ≡ true)

  line_in : (frame : Frame) (s : Stmt) (func : Option Func) → slice_get script.funcs frame.func ≡ func → option_and_then (λ (f : Func). slice_get f.body frame.pc) func ≡ Some s → IsLine s
  line_in frame s None is at = absurd (none-some s at)
  line_in frame s (Some f) is at =
      let spelled : list_all (has_lines contents) script.funcs ≡ true = (text_parts contents (passes_all contents script.passes_checks).text).funcs in
      let lines : has_lines contents f ≡ true = item_passes (has_lines contents) script.funcs frame.func f spelled is in
      (f.locals, item_passes (has_line contents f.locals) f.body frame.pc s (lines_of_function contents f lines).body at)

  pub line_of : (frame : Frame) (s : Stmt) → statement_at script frame ≡ Some s → IsLine s
  unfolding statement_at
  line_of frame s at = line_in frame s (slice_get script.funcs frame.func) refl at

  -- the once control that a statement names is one of the script
  pub control_below : (frame : Frame) (o f : ℕ) → statement_at script frame ≡ Some (statement.CallOnce o f) → o < length script.onces
  unfolding has_line has_first_word have_words has_word encode syntax_of
  control_below frame o f at = let line = line_of frame (statement.CallOnce o f) at in found_below script.onces o (and_parts _ _ line.1).0

  main_below : main_of (names_of script.funcs) < length script.funcs
  unfolding main_of
  main_below =
      let first = first_below (bytes_eq (keyword_text keyword.Main)) (names_of script.funcs) (passes_all contents script.passes_checks).main in
      subst (λ (n : ℕ). position_or_len (bytes_eq (keyword_text keyword.Main)) (names_of script.funcs) < n) (length-map script.funcs (λ (g : Func). g.name)) first

  pub names_functions : NamesFunctions script
  unfolding has_line has_first_word have_words has_word encode syntax_of
  names_functions = record {
    main = main_below;
    called = λ frame f x at. let line = line_of frame (statement.Do f x) at in item_below f (and_parts _ _ line.1).0;
    pushed = λ frame f x at. let line = line_of frame (statement.Push f x) at in item_below f (and_parts _ _ line.1).0;
    created = λ frame result id f x detached at. let line = line_of frame (statement.Create result id f x detached) at in item_below f (and_parts _ _ (and_parts _ _ (and_parts _ _ line.1).1).1).0;
    routine = λ frame o f at. let line = line_of frame (statement.CallOnce o f) at in item_below f (and_parts _ _ (and_parts _ _ line.1).1).0;
    destructor = λ frame result key f at. let line = line_of frame (statement.KeyCreate result key (Some f)) at in item_below f (and_parts _ _ (and_parts _ _ (and_parts _ _ line.1).1).1).0;
  }
