-- What the audit answers is determined by the events, and is nothing where they keep the laws.
use Rattle.std.proofs.Common.{◌≡◌, ℕ, ◌<◌, ◌≤◌, Bool, true, false, not, cond, List, [], ◌∷◌, ◌++◌, take, drop, reverse, Option, Some, None, refl, sym, ap, ◌∙◌, subst, arith, ◌⊎◌, inl, inr, true≢false}
use Rattle.std.specs.Prelude.{find, unwrap_or}
use Rattle.std.proofs.lemmas.Bool.{and_parts, cases_lt}
use Rattle.std.proofs.lemmas.List.{reverse-append, take-append-drop}
use Rattle.std.proofs.lemmas.Option.{none-some}
use Rattle.pct_model.specs.declared.event.Event.{Event}
use Rattle.pct_laws.specs.Each.{each}
use Rattle.pct_audit.specs.declared.law.Law.{Law}
use Rattle.pct_audit.specs.declared.law.Law.TheVariants as law
use Rattle.pct_audit.specs.declared.law.AuditFault.{AuditFault}
use Rattle.pct_audit.specs.AuditOf.{judged_laws, allows, keeps, first_broken, first_events, IsFirstFault, IsAuditOf}

-- ---- one answer

abbrev law_of : Option Law → Law
law_of found = unwrap_or found law.Once

not_before : (passes slots : ℕ) (events : List Event) (f g : AuditFault) → IsFirstFault passes slots events f → IsFirstFault passes slots events g → f.event ≤ g.event
not_before passes slots events f g one other = by_place (cases_lt g.event f.event)
  where
    by_place : (g.event < f.event) ⊎ (f.event ≤ g.event) → f.event ≤ g.event
    by_place (inl earlier) = absurd (none-some g.law (sym (one.before g.event earlier) ∙ other.broken))
    by_place (inr later) = later

same_fault : (f g : AuditFault) → f.event ≡ g.event → f.law ≡ g.law → f ≡ g
same_fault f g event law = ap (λ (n : ℕ). record f { event = n }) event ∙ ap (λ (l : Law). record g { law = l }) law

-- at most one answer is that of an audit
pub audit_is_one : (passes slots : ℕ) (events : List Event) (one other : Option AuditFault) → IsAuditOf passes slots events one → IsAuditOf passes slots events other → one ≡ other
audit_is_one passes slots events None None a b = refl
audit_is_one passes slots events None (Some g) a b = absurd (none-some g.law (sym (a g.event b.within) ∙ b.broken))
audit_is_one passes slots events (Some f) None a b = absurd (none-some f.law (sym (b f.event a.within) ∙ a.broken))
audit_is_one passes slots events (Some f) (Some g) a b =
    let event : f.event ≡ g.event = omega (arith, not_before passes slots events f g a b, not_before passes slots events g f b a) in
    ap (λ (fault : AuditFault). Some fault) (same_fault f g event
    (ap law_of (sym a.broken ∙ ap (λ (k : ℕ). first_broken passes slots (first_events k events)) event ∙ b.broken)))

-- ---- no fault

each_later : (test : Event → List Event → Bool) (newer older : List Event) → each test (newer ++ older) ≡ true → each test older ≡ true
each_later test [] older kept = kept
each_later test (e ∷ newer) older kept = each_later test newer older (and_parts (test e (newer ++ older)) (each test (newer ++ older)) kept).1

beginning_kept : (law : Law) (passes slots k : ℕ) (events : List Event) → keeps law passes slots (reverse events) ≡ true → keeps law passes slots (first_events k events) ≡ true
beginning_kept law passes slots k events kept =
    each_later (allows law passes slots) (reverse (drop k events)) (first_events k events)
    (subst (λ (es : List Event). each (allows law passes slots) es ≡ true) (ap (λ (es : List Event). reverse es) (sym (take-append-drop k events)) ∙ reverse-append (take k events) (drop k events)) kept)

none_left : (before after : Bool) (law : Law) (rest other : Option Law) → (before ≡ true → after ≡ true) → (rest ≡ None → other ≡ None) → cond (not before) (Some law) rest ≡ None → cond (not after) (Some law) other ≡ None
none_left true true law rest other one others none = others none
none_left true false law rest other one others none = absurd (true≢false (sym (one refl)))
none_left false after law rest other one others none = absurd (none-some law (sym none))

all_kept : (passes slots : ℕ) (events earlier : List Event) → ((law : Law) → keeps law passes slots events ≡ true → keeps law passes slots earlier ≡ true)
    → (laws : List Law) → find (λ law. not (keeps law passes slots events)) laws ≡ None → find (λ law. not (keeps law passes slots earlier)) laws ≡ None
all_kept passes slots events earlier kept [] none = refl
all_kept passes slots events earlier kept (law ∷ laws) none =
    none_left (keeps law passes slots events) (keeps law passes slots earlier) law _ _ (kept law) (all_kept passes slots events earlier kept laws) none

-- where all events keep the laws, so does each of their beginnings
pub none_of_kept : (passes slots : ℕ) (events : List Event) → first_broken passes slots (reverse events) ≡ None → IsAuditOf passes slots events None
none_of_kept passes slots events none = λ k low. all_kept passes slots (reverse events) (first_events k events) (λ law. beginning_kept law passes slots k events) judged_laws none

-- where all events keep the laws, the audit answers nothing
pub kept_is_none : (passes slots : ℕ) (events : List Event) (found : Option AuditFault) → first_broken passes slots (reverse events) ≡ None → IsAuditOf passes slots events found → found ≡ None
kept_is_none passes slots events found none is =
    audit_is_one passes slots events found None is (none_of_kept passes slots events none)

found_none : (passes slots : ℕ) (events : List Event) → ((law : Law) → keeps law passes slots events ≡ true) → (laws : List Law) → find (λ law. not (keeps law passes slots events)) laws ≡ None
found_none passes slots events kept [] = refl
found_none passes slots events kept (law ∷ laws) =
    ap (λ (b : Bool). cond (not b) (Some law) (find (λ law. not (keeps law passes slots events)) laws)) (kept law) ∙ found_none passes slots events kept laws

-- where all events keep each of the laws, the audit answers nothing
pub lawful_is_none : (passes slots : ℕ) (events : List Event) (found : Option AuditFault) → ((law : Law) → keeps law passes slots (reverse events) ≡ true) → IsAuditOf passes slots events found → found ≡ None
lawful_is_none passes slots events found kept is = kept_is_none passes slots events found (found_none passes slots (reverse events) kept judged_laws) is
