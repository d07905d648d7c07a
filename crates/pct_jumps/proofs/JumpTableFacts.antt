-- The jump table of a script agrees with the definitions on its bodies.
use Rattle.pct_names.proofs.Names.{◌+◌, ◌<◌, [], and_parts, ap, are_nested, arith, body_of, Bool, close_of, closing as closing_in, cond}
use Rattle.pct_names.proofs.Names.{Contents, eq-or-lt_of_le, false, find, Func, get_or, get_or-le-sum_by, holds, IfSome, inl, inr, is_some}
use Rattle.pct_names.proofs.Names.{is_static, keeps_limits, length, List, list_all, map, nat_eq, nat_le, nests, None, open_of, Option}
use Rattle.pct_names.proofs.Names.{option_and_then, option_flatten, option_map, option_map_or, range_with_len, role_of, Script, slice_get}
use Rattle.pct_names.proofs.Names.{slice_get-map, slice_get_past, Some, statement_lines, Stmt, suc, sym, true, zero, ℕ, ◌↔◌, ◌∙◌, ◌∷◌, ◌≡◌}
use Rattle.pct_names.proofs.Names.{◌≤◌, ◌⊎◌}
use Rattle.std.proofs.lemmas.Bool.{leb-true, true≢false}
use Rattle.pct_model.specs.declared.role.Block.TheVariants as block
use Rattle.pct_model.specs.Jumps.{is_end}
use Rattle.pct_model.proofs.StaticFacts.{passes_all}
use Rattle.pct_jumps.specs.declared.jump_table.Blocks.{Blocks}
use Rattle.pct_jumps.specs.JumpTable.{blocks_of, jumps_of, opens_block, IsOpening, closing, opening}
use Rattle.pct_jumps.proofs.NestedBodies.{is_closed}
use Rattle.pct_jumps.proofs.OpenBlocks.{opens_if_closed, close_within, ends_if_opened, opened_before, is_opened, is_not_opened, held_within}

-- ---- tables

table_from : (g : ℕ → Option ℕ) (a n i : ℕ) → (n ≤ i → g (a + i) ≡ None) → option_flatten (slice_get (map g (range_with_len a n)) i) ≡ g (a + i)
table_from g a zero i past = sym (past (omega arith))
table_from g a (suc n) zero past = let same : a ≡ a + 0 = omega arith in ap g same
table_from g a (suc n) (suc i) past =
    let same : a + 1 + i ≡ a + suc i = omega arith in
    table_from g (a + 1) n i (λ beyond. ap g same ∙ past (omega (arith, beyond))) ∙ ap g same

-- a table of a function's values at the first n numbers, where the function is None at the others
table : (g : ℕ → Option ℕ) (n i : ℕ) → (n ≤ i → g i ≡ None) → option_flatten (slice_get (map g (range_with_len 0 n)) i) ≡ g i
table g n i past =
    let same : 0 + i ≡ i = omega arith in
    table_from g 0 n i (λ beyond. ap g same ∙ past beyond) ∙ ap g same

close_past : (body : List Stmt) (i : ℕ) → length body ≤ i → close_of body i ≡ None
unfolding close_of
close_past body i past = ap (λ o. option_map_or (closing_in body i) o None) (slice_get_past body i past)

open_past : (body : List Stmt) (i : ℕ) → length body ≤ i → open_of body i ≡ None
unfolding open_of
open_past body i past = ap (λ o. cond (option_map_or is_end o false) (find (λ k. option_map_or (nat_eq i) (close_of body k) false) (range_with_len 0 (length body))) None) (slice_get_past body i past)

close_by : (f : Option Func) (pc : ℕ) → option_and_then (λ b. option_flatten (slice_get b.closes pc)) (option_map (λ f. blocks_of f.body) f) ≡ close_of (option_map_or (λ f. f.body) f []) pc
close_by None pc = sym (close_past [] pc (omega arith))
close_by (Some f) pc = table (close_of f.body) (length f.body) pc (close_past f.body pc)

open_by : (f : Option Func) (pc : ℕ) → option_and_then (λ b. option_flatten (slice_get b.opens pc)) (option_map (λ f. blocks_of f.body) f) ≡ open_of (option_map_or (λ f. f.body) f []) pc
open_by None pc = sym (open_past [] pc (omega arith))
open_by (Some f) pc = table (open_of f.body) (length f.body) pc (open_past f.body pc)

-- the table gives where a block closes
pub closing_is : (jumps : List Blocks) (script : Script) (func pc : ℕ) → jumps ≡ jumps_of script.funcs → closing jumps func pc ≡ close_of (body_of script func) pc
unfolding closing
closing_is jumps script func pc made =
    ap (λ (js : List Blocks). option_and_then (λ b. option_flatten (slice_get b.closes pc)) (slice_get js func)) made
    ∙ ap (option_and_then (λ (b : Blocks). option_flatten (slice_get b.closes pc))) (slice_get-map (λ (f : Func). blocks_of f.body) script.funcs func)
    ∙ close_by (slice_get script.funcs func) pc

-- the table gives where a block opens
pub opening_is : (jumps : List Blocks) (script : Script) (func pc : ℕ) → jumps ≡ jumps_of script.funcs → opening jumps func pc ≡ open_of (body_of script func) pc
unfolding opening
opening_is jumps script func pc made =
    ap (λ (js : List Blocks). option_and_then (λ b. option_flatten (slice_get b.opens pc)) (slice_get js func)) made
    ∙ ap (option_and_then (λ (b : Blocks). option_flatten (slice_get b.opens pc))) (slice_get-map (λ (f : Func). blocks_of f.body) script.funcs func)
    ∙ open_by (slice_get script.funcs func) pc

-- ---- bodies of a script

abbrev sections_of : Script → Contents
sections_of script = record { globals = script.globals; mutexes = script.mutexes; conds = script.conds; sems = script.sems; onces = script.onces; funcs = script.funcs }

nests_by : (funcs : List Func) (func pc : ℕ) (test : Stmt → Bool) → list_all nests funcs ≡ true → holds (option_map_or (λ f. f.body) (slice_get funcs func) []) test pc ≡ true → are_nested (block.Function ∷ []) (map role_of (option_map_or (λ f. f.body) (slice_get funcs func) [])) ≡ true
nests_by [] func pc test all some = absurd cc
nests_by (f ∷ funcs) zero pc test all some = (and_parts (nests f) (list_all nests funcs) all).0
nests_by (f ∷ funcs) (suc func) pc test all some = nests_by funcs func pc test (and_parts (nests f) (list_all nests funcs) all).1 some

-- the blocks of a body that has a statement nest
nested_in : (script : Script) (func pc : ℕ) (test : Stmt → Bool) → holds (body_of script func) test pc ≡ true → are_nested (block.Function ∷ []) (map role_of (body_of script func)) ≡ true
nested_in script func pc test some = nests_by script.funcs func pc test (passes_all (sections_of script) script.passes_checks).nested some

-- each block of a script is closed
pub is_closed_in : (jumps : List Blocks) (func pc : ℕ) → IsOpening jumps func pc → is_some (closing jumps func pc) ≡ true
is_closed_in jumps func pc is =
    ap is_some (closing_is jumps is.script func pc is.made)
    ∙ is_closed (body_of is.script func) pc (nested_in is.script func pc opens_block is.opening) is.opening

-- a block closes after it was opened, and before the last statement
pub closes_inside : (script : Script) (func pc close : ℕ) → close_of (body_of script func) pc ≡ Some close → (pc < close) × (close + 1 < length (body_of script func))
closes_inside script func pc close is =
    let inside = close_within (body_of script func) pc close (nested_in script func pc opens_block (opens_if_closed (body_of script func) pc close is)) is in
    (inside.0, omega (arith, inside.1))

-- a block was opened by an earlier statement
pub opens_earlier : (script : Script) (func pc : ℕ) (o : Option ℕ) → open_of (body_of script func) pc ≡ o → IfSome o (λ opening. (opening < pc) × (holds (body_of script func) opens_block opening ≡ true))
opens_earlier script func pc None is = tt
opens_earlier script func pc (Some opening) is = opened_before (body_of script func) pc opening (nested_in script func pc is_end (ends_if_opened (body_of script func) pc opening is)) is

last_by : (body : List Stmt) (pc : ℕ) (o : Option ℕ) → are_nested (block.Function ∷ []) (map role_of body) ≡ true → holds body is_end pc ≡ true → open_of body pc ≡ o → o ≡ None → pc < length body → (suc pc ≡ length body) ⊎ (suc pc < length body) → pc + 1 ≡ length body
last_by body pc o nests end is none within (inl last) = omega (arith, last)
last_by body pc o nests end is none within (inr more) = absurd (true≢false (sym (is_opened body pc nests end more) ∙ ap is_some (is ∙ none)))

-- the last `end` of a body alone closes the function
pub opens_unless_last : (script : Script) (func pc : ℕ) (o : Option ℕ) → open_of (body_of script func) pc ≡ o → holds (body_of script func) is_end pc ≡ true → (o ≡ None) ↔ (pc + 1 ≡ length (body_of script func))
opens_unless_last script func pc o is end =
    let body = body_of script func in
    let nests = nested_in script func pc is_end end in
    let within : pc < length body = held_within body is_end pc end in
    let at_most : suc pc ≤ length body = omega (arith, within) in
    (λ none. last_by body pc o nests end is none within (eq-or-lt_of_le at_most), λ last. sym is ∙ is_not_opened body pc nests (omega (arith, last)))

few_statements : (c : Contents) (i : ℕ) (d : Func) → is_static c ≡ true → i < length c.funcs → length (get_or c.funcs i d).body ≤ 2000
unfolding keeps_limits
few_statements c i d static within =
    let limits = (passes_all c static).limits in
    let some = get_or-le-sum_by (λ (f : Func). length f.body) c.funcs i d within in
    let a = and_parts _ (list_all (λ (f : Func). nat_le (length f.locals) 8) c.funcs) limits in
    let b = and_parts _ (nat_le (statement_lines c.funcs) 2000) a.0 in
    omega (arith, some, leb-true (statement_lines c.funcs) 2000 b.1)

-- no body of a script has more than 2,000 statements
pub few_in : (script : Script) (funcs : List Func) (i : ℕ) (f : Func) (body : List Stmt) → funcs ≡ script.funcs → i < length funcs → f ≡ get_or funcs i f → body ≡ f.body → length body ≤ 2000
few_in script funcs i f body are within is holds =
    let long : length funcs ≡ length script.funcs = ap length are in
    let few = few_statements (sections_of script) i f script.passes_checks (omega (arith, long, within)) in
    let same : length body ≡ length (get_or script.funcs i f).body = ap length holds ∙ ap (λ (g : Func). length g.body) is ∙ ap (λ (fs : List Func). length (get_or fs i f).body) are in
    omega (arith, few, same)
