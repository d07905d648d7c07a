-- The pushes that are open at a place of a function are the same however the place is reached: at each jump of a well-formed
-- script the pushes open at its target are those open at the jump.
use Rattle.pct_names.proofs.Names.{◌<◌, [], after_block, after_end, after_test, and_parts, ap, are_nested, arith, body_of, Bool, close_of}
use Rattle.pct_names.proofs.Names.{Contents, drop, drop_all, eq-or-lt_of_le, false, false≢true, Frame, Func, holds, if◌then◌else◌, inl, inr}
use Rattle.pct_names.proofs.Names.{is_some, is_while, length, List, list_all, map, nat_eq, nests, None, open_of, Operand, Option}
use Rattle.pct_names.proofs.Names.{option_and_then, option_map_or, refl, returns_outside_pushes, role_of, Script, slice_get}
use Rattle.pct_names.proofs.Names.{slice_get_within, Some, statement_at, Stmt, subst, suc, sym, true, unwrap_or, zero, ℕ, ◌∙◌, ◌∷◌, ◌≡◌}
use Rattle.pct_names.proofs.Names.{◌≤◌, ◌⊎◌}
use Rattle.std.proofs.lemmas.Bool.{true≢false}
use Rattle.pct_model.specs.declared.role.Block.TheVariants.{Function}
use Rattle.pct_model.specs.declared.statement.Stmt.TheVariants as statement
use Rattle.pct_model.specs.Jumps.{is_end}
use Rattle.pct_laws.specs.OpenPushes.{pushes_after, open_pushes}
use Rattle.pct_model.proofs.StaticFacts.{passes_all}
use Rattle.pct_jumps.proofs.OpenBlocks.{close_within, close_of-open_of, is_opened}
use Rattle.pct_thread_invariants.proofs.pushes.AfterStatements.{open_pushes-next}
use Rattle.pct_thread_invariants.proofs.pushes.PushBlocks.{Passes, At, at-pc, at-pop, at-return, at-last, at-ends}
use Rattle.pct_thread_invariants.proofs.pushes.ClosedBlocks.{same_around}

-- the statement is an `if` or a `while`
abbrev pub IsTestAt : Script → Frame → Operand → Type 0
IsTestAt script frame v = (statement_at script frame ≡ Some (statement.If v)) ⊎ (statement_at script frame ≡ Some (statement.While v))

-- the pushes of a script's functions fit their blocks
pub record PushesMatch (script : Script) : Type 0 where
  -- a statement's own effect on the pushes: it computes at each statement
  pub next : (frame : Frame) (s : Stmt) → statement_at script frame ≡ Some s → open_pushes (body_of script frame.func) (suc frame.pc) ≡ pushes_after (s ∷ []) (open_pushes (body_of script frame.func) frame.pc)
  -- jumps
  pub test : (frame : Frame) (v : Operand) (n : ℕ) → IsTestAt script frame v → open_pushes (body_of script frame.func) (after_test (body_of script frame.func) frame.pc n) ≡ open_pushes (body_of script frame.func) frame.pc
  pub block : (frame : Frame) → statement_at script frame ≡ Some statement.Else → open_pushes (body_of script frame.func) (after_block (body_of script frame.func) frame.pc) ≡ open_pushes (body_of script frame.func) frame.pc
  pub end : (frame : Frame) (opened : ℕ) → statement_at script frame ≡ Some statement.End → open_of (body_of script frame.func) frame.pc ≡ Some opened → open_pushes (body_of script frame.func) (after_end (body_of script frame.func) frame.pc opened) ≡ open_pushes (body_of script frame.func) frame.pc
  -- a pop has its push, and where a function returns no push is open
  pub pop : (frame : Frame) (v : Operand) → statement_at script frame ≡ Some (statement.Pop v) → (f : ℕ) × (open_pushes (body_of script frame.func) frame.pc ≡ f ∷ open_pushes (body_of script frame.func) (suc frame.pc))
  pub returns : (frame : Frame) (v : Operand) → statement_at script frame ≡ Some (statement.Return v) → open_pushes (body_of script frame.func) frame.pc ≡ []
  pub closes : (frame : Frame) → statement_at script frame ≡ Some statement.End → open_of (body_of script frame.func) frame.pc ≡ None → open_pushes (body_of script frame.func) frame.pc ≡ []
  -- the places: a pc that a statement goes to is one of the body
  pub first_within : (func : ℕ) → func < length script.funcs → 0 < length (body_of script func)
  pub next_within : (frame : Frame) (s : Stmt) → statement_at script frame ≡ Some s → is_end s ≡ false → suc frame.pc < length (body_of script frame.func)
  pub test_within : (frame : Frame) (v : Operand) (n : ℕ) → IsTestAt script frame v → after_test (body_of script frame.func) frame.pc n < length (body_of script frame.func)
  pub block_within : (frame : Frame) → statement_at script frame ≡ Some statement.Else → after_block (body_of script frame.func) frame.pc < length (body_of script frame.func)
  pub end_within : (frame : Frame) (opened : ℕ) → statement_at script frame ≡ Some statement.End → open_of (body_of script frame.func) frame.pc ≡ Some opened → after_end (body_of script frame.func) frame.pc opened < length (body_of script frame.func)

-- ---- the bodies of a script

-- a statement of a body that passes the checks
record InBody (body : List Stmt) (pc : ℕ) (s : Stmt) : Type 0 where
  passes : Passes body
  is : slice_get body pc ≡ Some s

in_funcs : (funcs : List Func) (func pc : ℕ) (s : Stmt) → list_all nests funcs ≡ true → list_all returns_outside_pushes funcs ≡ true → option_and_then (λ f. slice_get f.body pc) (slice_get funcs func) ≡ Some s → InBody (option_map_or (λ f. f.body) (slice_get funcs func) []) pc s
in_funcs [] func pc s nested returns is = absurd cc
in_funcs (f ∷ funcs) zero pc s nested returns is = record { passes = record { nested = (and_parts (nests f) (list_all nests funcs) nested).0; returns = (and_parts (returns_outside_pushes f) (list_all returns_outside_pushes funcs) returns).0 }; is = is }
in_funcs (f ∷ funcs) (suc func) pc s nested returns is = in_funcs funcs func pc s (and_parts (nests f) (list_all nests funcs) nested).1 (and_parts (returns_outside_pushes f) (list_all returns_outside_pushes funcs) returns).1 is

abbrev contents_of : Script → Contents
contents_of script = record { globals = script.globals; mutexes = script.mutexes; conds = script.conds; sems = script.sems; onces = script.onces; funcs = script.funcs }

in_body : (script : Script) (frame : Frame) (s : Stmt) → statement_at script frame ≡ Some s → InBody (body_of script frame.func) frame.pc s
unfolding statement_at
in_body script frame s is =
    let checks = passes_all (contents_of script) script.passes_checks in
    in_funcs script.funcs frame.func frame.pc s checks.nested checks.returns is

has_statements : (body : List Stmt) → are_nested (Function ∷ []) (map role_of body) ≡ true → 0 < length body
unfolding are_nested
has_statements [] nested = absurd (false≢true nested)
has_statements (s ∷ body) nested = omega arith

has_first : (funcs : List Func) (func : ℕ) → list_all nests funcs ≡ true → func < length funcs → 0 < length (option_map_or (λ f. f.body) (slice_get funcs func) [])
has_first [] func nested within = absurd (omega (arith, within))
has_first (f ∷ funcs) zero nested within = has_statements f.body (and_parts (nests f) (list_all nests funcs) nested).0
has_first (f ∷ funcs) (suc func) nested within = has_first funcs func (and_parts (nests f) (list_all nests funcs) nested).1 (omega (arith, within))

-- ---- jumps

block_by : (body : List Stmt) (pc : ℕ) (close : Option ℕ) → Passes body → close_of body pc ≡ close → open_pushes body (suc pc) ≡ open_pushes body pc → open_pushes body (suc (unwrap_or close pc)) ≡ open_pushes body pc
block_by body pc None passes is next = next
block_by body pc (Some c) passes is next = (same_around body pc c passes is).1

test_by : (body : List Stmt) (pc : ℕ) (b : Bool) → Passes body → open_pushes body (suc pc) ≡ open_pushes body pc → open_pushes body (if b then after_block body pc else suc pc) ≡ open_pushes body pc
test_by body pc true passes next = block_by body pc (close_of body pc) passes refl next
test_by body pc false passes next = next

end_by : (body : List Stmt) (pc opened : ℕ) (b : Bool) → (open_pushes body pc ≡ open_pushes body opened) × (open_pushes body (suc pc) ≡ open_pushes body opened) → open_pushes body (if b then opened else suc pc) ≡ open_pushes body pc
end_by body pc opened true same = sym same.0
end_by body pc opened false same = same.1 ∙ sym same.0

-- ---- places

at_last : (body : List Stmt) (pc : ℕ) (s : Stmt) → InBody body pc s → suc pc ≡ length body → At (open_pushes body pc) (s ∷ [])
at_last body pc s here last = subst (λ stmts. At (open_pushes body pc) (s ∷ stmts)) (drop_all (suc pc) body (omega (arith, last))) (at-pc body pc s here.passes here.is)

next_by : (body : List Stmt) (pc : ℕ) (s : Stmt) → InBody body pc s → is_end s ≡ false → (suc pc ≡ length body) ⊎ (suc pc < length body) → suc pc < length body
next_by body pc s here other (inl last) = absurd (true≢false (sym (at-ends s (open_pushes body pc) (at_last body pc s here last)) ∙ other))
next_by body pc s here other (inr more) = more

next_in : (body : List Stmt) (pc : ℕ) (s : Stmt) → InBody body pc s → is_end s ≡ false → suc pc < length body
next_in body pc s here other = let within : suc pc ≤ length body = slice_get_within body pc s here.is in next_by body pc s here other (eq-or-lt_of_le within)

block_in : (body : List Stmt) (pc : ℕ) (close : Option ℕ) → Passes body → close_of body pc ≡ close → suc pc < length body → suc (unwrap_or close pc) < length body
block_in body pc None passes is next = next
block_in body pc (Some c) passes is next = (close_within body pc c passes.nested is).1

test_in : (body : List Stmt) (pc : ℕ) (b : Bool) → Passes body → suc pc < length body → (if b then after_block body pc else suc pc) < length body
test_in body pc true passes next = block_in body pc (close_of body pc) passes refl next
test_in body pc false passes next = next

end_in : (body : List Stmt) (pc opened : ℕ) (b : Bool) → (opened < pc) × (suc pc < length body) → (if b then opened else suc pc) < length body
end_in body pc opened true within = let before = within.0 in let after = within.1 in omega (arith, before, after)
end_in body pc opened false within = within.1

-- ---- the last `end`

closes_by : (body : List Stmt) (pc : ℕ) → InBody body pc statement.End → open_of body pc ≡ None → (suc pc ≡ length body) ⊎ (suc pc < length body) → open_pushes body pc ≡ []
closes_by body pc here none (inl last) = at-last (open_pushes body pc) (at_last body pc statement.End here last)
closes_by body pc here none (inr more) = absurd (true≢false (sym (is_opened body pc here.passes.nested (ap (λ s. option_map_or is_end s false) here.is) more) ∙ ap is_some none))

closes_in : (body : List Stmt) (pc : ℕ) → InBody body pc statement.End → open_of body pc ≡ None → open_pushes body pc ≡ []
closes_in body pc here none = let within : suc pc ≤ length body = slice_get_within body pc statement.End here.is in closes_by body pc here none (eq-or-lt_of_le within)

pop_in : (body : List Stmt) (pc : ℕ) (v : Operand) → InBody body pc (statement.Pop v) → (f : ℕ) × (open_pushes body pc ≡ f ∷ open_pushes body (suc pc))
pop_in body pc v here =
    let top = at-pop v (open_pushes body pc) (drop (suc pc) body) (at-pc body pc (statement.Pop v) here.passes here.is) in
    (top.0, top.1 ∙ ap (λ pushes. top.0 ∷ pushes) (sym (open_pushes-next body pc (statement.Pop v) here.is)))

-- ---- every script

test_at : (script : Script) (frame : Frame) (v : Operand) (n : ℕ) → IsTestAt script frame v → open_pushes (body_of script frame.func) (after_test (body_of script frame.func) frame.pc n) ≡ open_pushes (body_of script frame.func) frame.pc
test_at script frame v n (inl is) = let here = in_body script frame (statement.If v) is in test_by (body_of script frame.func) frame.pc (nat_eq n 0) here.passes (open_pushes-next (body_of script frame.func) frame.pc (statement.If v) here.is)
test_at script frame v n (inr is) = let here = in_body script frame (statement.While v) is in test_by (body_of script frame.func) frame.pc (nat_eq n 0) here.passes (open_pushes-next (body_of script frame.func) frame.pc (statement.While v) here.is)

test_within_at : (script : Script) (frame : Frame) (v : Operand) (n : ℕ) → IsTestAt script frame v → after_test (body_of script frame.func) frame.pc n < length (body_of script frame.func)
test_within_at script frame v n (inl is) = let here = in_body script frame (statement.If v) is in test_in (body_of script frame.func) frame.pc (nat_eq n 0) here.passes (next_in (body_of script frame.func) frame.pc (statement.If v) here refl)
test_within_at script frame v n (inr is) = let here = in_body script frame (statement.While v) is in test_in (body_of script frame.func) frame.pc (nat_eq n 0) here.passes (next_in (body_of script frame.func) frame.pc (statement.While v) here refl)

-- in every script the pushes fit the blocks
pub push_matches : (script : Script) → PushesMatch script
push_matches script = record {
  next = λ frame s is. open_pushes-next (body_of script frame.func) frame.pc s (in_body script frame s is).is;
  test = test_at script;
  block = λ frame is. let here = in_body script frame statement.Else is in block_by (body_of script frame.func) frame.pc (close_of (body_of script frame.func) frame.pc) here.passes refl (open_pushes-next (body_of script frame.func) frame.pc statement.Else here.is);
  end = λ frame opened is opens. let here = in_body script frame statement.End is in end_by (body_of script frame.func) frame.pc opened (holds (body_of script frame.func) is_while opened) (same_around (body_of script frame.func) opened frame.pc here.passes (close_of-open_of (body_of script frame.func) frame.pc opened opens));
  pop = λ frame v is. pop_in (body_of script frame.func) frame.pc v (in_body script frame (statement.Pop v) is);
  returns = λ frame v is. let here = in_body script frame (statement.Return v) is in at-return v (open_pushes (body_of script frame.func) frame.pc) (drop (suc frame.pc) (body_of script frame.func)) (at-pc (body_of script frame.func) frame.pc (statement.Return v) here.passes here.is);
  closes = λ frame is none. closes_in (body_of script frame.func) frame.pc (in_body script frame statement.End is) none;
  first_within = λ func within. has_first script.funcs func (passes_all (contents_of script) script.passes_checks).nested within;
  next_within = λ frame s is other. next_in (body_of script frame.func) frame.pc s (in_body script frame s is) other;
  test_within = test_within_at script;
  block_within = λ frame is. let here = in_body script frame statement.Else is in block_in (body_of script frame.func) frame.pc (close_of (body_of script frame.func) frame.pc) here.passes refl (next_in (body_of script frame.func) frame.pc statement.Else here refl);
  end_within = λ frame opened is opens. let here = in_body script frame statement.End is in end_in (body_of script frame.func) frame.pc opened (holds (body_of script frame.func) is_while opened) (close_within (body_of script frame.func) opened frame.pc here.passes.nested (close_of-open_of (body_of script frame.func) frame.pc opened opens));
}
