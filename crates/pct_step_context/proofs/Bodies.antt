-- The bodies of a script's functions, and the statements in them.
use Rattle.pct_names.proofs.Names.{◌<◌, [], ap, arith, body_of, false, Frame, Func, get_or_from_slice_get, length, List, lit≤, None, Option}
use Rattle.pct_names.proofs.Names.{option_and_then, option_map_or, refl, Script, slice_get, slice_get_within, Some, statement_at, Stmt, sym}
use Rattle.pct_names.proofs.Names.{true, ℕ, ◌∙◌, ◌≡◌, ◌≤◌}
use Rattle.pct_jumps.specs.declared.jump_table.Blocks.{Blocks}
use Rattle.pct_jumps.specs.JumpTable.{jumps_of, opens_block, IsOpening}
use Rattle.pct_jumps.proofs.JumpTableFacts.{few_in}

few_by : (script : Script) (func : ℕ) (o : Option Func) → slice_get script.funcs func ≡ o → length (option_map_or (λ f. f.body) o []) ≤ 2000
few_by script func None is = lit≤ tt
few_by script func (Some f) is = few_in script script.funcs func f f.body refl (slice_get_within script.funcs func f is) (sym (get_or_from_slice_get script.funcs func f f is)) refl

-- no body of a script has more than 2,000 statements
pub few_statements : (script : Script) (func : ℕ) → length (body_of script func) ≤ 2000
few_statements script func = few_by script func (slice_get script.funcs func) refl

in_body : (o : Option Func) (pc : ℕ) → slice_get (option_map_or (λ f. f.body) o []) pc ≡ option_and_then (λ f. slice_get f.body pc) o
in_body None pc = refl
in_body (Some f) pc = refl

-- the statement at a frame's pc is one of the body of its function
pub stands_at : (script : Script) (frame : Frame) → slice_get (body_of script frame.func) frame.pc ≡ statement_at script frame
unfolding statement_at
stands_at script frame = in_body (slice_get script.funcs frame.func) frame.pc

-- a statement's pc is below 2,000
pub pc_within : (script : Script) (frame : Frame) (s : Stmt) → statement_at script frame ≡ Some s → frame.pc < 2000
pc_within script frame s at =
    let few = few_statements script frame.func in
    let within = slice_get_within (body_of script frame.func) frame.pc s (stands_at script frame ∙ at) in
    omega (arith, few, within)

-- a statement that opens a block
pub is_opening : (script : Script) (jumps : List Blocks) (frame : Frame) (s : Stmt) → jumps ≡ jumps_of script.funcs → statement_at script frame ≡ Some s → opens_block s ≡ true → IsOpening jumps frame.func frame.pc
is_opening script jumps frame s made at opens = record {
  script = script;
  made = made;
  opening = ap (λ (o : Option Stmt). option_map_or opens_block o false) (stands_at script frame ∙ at) ∙ opens;
}
