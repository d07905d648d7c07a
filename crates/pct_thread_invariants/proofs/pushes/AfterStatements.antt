-- The pushes that are open after the first statements of a body.
use Rattle.pct_names.proofs.Names.{◌+◌, ◌++◌, [], ap, drop, List, refl, same_Some, slice_get, Some, Stmt, suc, sym, take, take-add, zero, ℕ}
use Rattle.pct_names.proofs.Names.{◌∙◌, ◌∷◌, ◌≡◌}
use Rattle.pct_model.specs.declared.statement.Stmt.TheVariants as statement
use Rattle.pct_laws.specs.OpenPushes.{pushes_after, open_pushes}

-- one statement, then the others
pub pushes_after-cons : (s : Stmt) (stmts : List Stmt) (pushes : List ℕ) → pushes_after (s ∷ stmts) pushes ≡ pushes_after stmts (pushes_after (s ∷ []) pushes)
pushes_after-cons (statement.Push f v) stmts pushes = refl
pushes_after-cons _ stmts pushes = refl

pushes_after-append : (before after : List Stmt) (pushes : List ℕ) → pushes_after (before ++ after) pushes ≡ pushes_after after (pushes_after before pushes)
pushes_after-append [] after pushes = refl
pushes_after-append (s ∷ before) after pushes =
    pushes_after-cons s (before ++ after) pushes
    ∙ pushes_after-append before after (pushes_after (s ∷ []) pushes)
    ∙ ap (pushes_after after) (sym (pushes_after-cons s before pushes))

-- the statements from a pc on begin with the one at the pc
pub drop-at : (body : List Stmt) (pc : ℕ) (s : Stmt) → slice_get body pc ≡ Some s → drop pc body ≡ s ∷ drop (suc pc) body
drop-at [] pc s is = absurd cc
drop-at (x ∷ body) zero s is = ap (λ y. y ∷ body) (same_Some x s is)
drop-at (x ∷ body) (suc pc) s is = drop-at body pc s is

pub open_pushes-add : (body : List Stmt) (pc k : ℕ) → open_pushes body (pc + k) ≡ pushes_after (take k (drop pc body)) (open_pushes body pc)
open_pushes-add body pc k = ap (λ stmts. pushes_after stmts []) (take-add pc k body) ∙ pushes_after-append (take pc body) (take k (drop pc body)) []

next_from : (body : List Stmt) (pc : ℕ) (s : Stmt) (pushes : List ℕ) → slice_get body pc ≡ Some s → pushes_after (take (suc pc) body) pushes ≡ pushes_after (s ∷ []) (pushes_after (take pc body) pushes)
next_from [] pc s pushes is = absurd cc
next_from (x ∷ body) zero s pushes is = ap (λ y. pushes_after (y ∷ []) pushes) (same_Some x s is)
next_from (x ∷ body) (suc pc) s pushes is =
    pushes_after-cons x (take (suc pc) body) pushes
    ∙ next_from body pc s (pushes_after (x ∷ []) pushes) is
    ∙ ap (pushes_after (s ∷ [])) (sym (pushes_after-cons x (take pc body) pushes))

-- the statement at a pc changes the pushes
pub open_pushes-next : (body : List Stmt) (pc : ℕ) (s : Stmt) → slice_get body pc ≡ Some s → open_pushes body (suc pc) ≡ pushes_after (s ∷ []) (open_pushes body pc)
open_pushes-next body pc s is = next_from body pc s [] is
