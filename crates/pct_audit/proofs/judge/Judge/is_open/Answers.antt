-- The answer for `is_open`.
use Rattle.std.proofs.Common.{◌≡◌, ℕ, Bool, true, false, not, ◌&&◌, sym, ap, ◌∙◌, subst}
use Rattle.std.specs.List.{list_all}
use Rattle.pct_laws.specs.KnownIds.{known_ids}
use Rattle.pct_laws.specs.SlotLaw.{leaves_slot}
use Rattle.pct_holders.specs.Holds.{holds}
use Rattle.pct_audit.proofs.SlotTold.{free_told}
use Rattle.pct_audit.proofs.judge.Judge.is_open.Goals as goal

pub returns-then-not-row : goal.returns-then-not-row
returns-then-not-row c = λ detached events told.
    let slots = c.args.self.now.slots in
    let pid = c.args.pid in
    let id = c.args.id in
    let held = holds c.args.self.now.holders in
    let known = ap (λ r. r.known) c.at-row.ensures ∙ (told.rows pid id).known in
    free_told slots pid id events held told.holders c.is_free.result
    (λ is. subst (λ s. (tid : ℕ) → held pid s tid ≡ false) c.slot_of.ensures.slot (c.is_free.ensures.free is))
    (λ is. subst (λ s. (tid : ℕ) × (held pid s tid ≡ true)) c.slot_of.ensures.slot (c.is_free.ensures.held is))
    ∙ ap (λ (b : Bool). b && list_all (leaves_slot slots pid id events) (known_ids pid events)) (sym c.if-not-row.true ∙ ap not known)
