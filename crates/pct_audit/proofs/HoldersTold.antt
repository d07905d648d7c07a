-- The threads that hold their slots after an event more.
use Rattle.std.proofs.Common.{◌≡◌, ℕ, Bool, true, false, not, ◌&&◌, ◌||◌, cond, List, is_some, refl, sym, ap, ◌∙◌, nat_eq}
use Rattle.std.proofs.lemmas.Bool.{and_parts, eqb-true}
use Rattle.pct_model.specs.declared.event.Event.{Event}
use Rattle.pct_model.specs.declared.event.What.{What}
use Rattle.pct_laws.specs.JoinLaw as JoinLaw
use Rattle.pct_laws.specs.KnownThreads.{makes_process, is_known, is_joined, reports_end}
use Rattle.pct_laws.specs.ThreadSummary.{summary_of}
use Rattle.pct_model.specs.ThreadSlots.{slot_of}
use Rattle.pct_audit.specs.declared.rows.Row.{Row}
use Rattle.pct_audit.specs.IsRow.{IsThread, IsOwnChange, names, marked, copied}
use Rattle.pct_audit.specs.JoinTests.{is_live}

-- a row says whether its thread is known, and the lifetime of its id not over
pub live_told : (stacks : List (List (ℕ × ℕ))) (row : Row) (pid tid : ℕ) (events : List Event) → IsThread stacks row pid tid events → is_live row ≡ JoinLaw.is_live pid tid events
live_told stacks row pid tid events t =
    ap (λ k. k && not (is_some row.ended && (row.joined || row.detached))) t.known
    ∙ ap (λ o. is_known pid tid events && not (is_some o && (row.joined || row.detached))) t.summary.ended
    ∙ ap (λ b. is_known pid tid events && not (is_some (summary_of pid tid events).ended && (b || row.detached))) t.joined
    ∙ ap (λ b. is_known pid tid events && not (is_some (summary_of pid tid events).ended && (is_joined pid tid events || b))) t.detached

and_all : (b : Bool) → (b && true) ≡ b
and_all true = refl
and_all false = refl

held_by : (own named fork z : Bool) (new old : Bool) → (own ≡ false → named ≡ false → fork ≡ false → new ≡ old)
    → cond (fork && z) new (cond (named && z) new (cond (own && z) new (old && z))) ≡ (new && z)
held_by own named fork false new old same = nothing own named fork new old
  where
    none : (b x y : Bool) → cond (b && false) x y ≡ y
    none true x y = refl
    none false x y = refl

    and_none : (b : Bool) → (b && false) ≡ false
    and_none true = refl
    and_none false = refl

    nothing : (own named fork new old : Bool) → cond (fork && false) new (cond (named && false) new (cond (own && false) new (old && false))) ≡ (new && false)
    nothing own named fork new old = none fork new _ ∙ none named new _ ∙ none own new (old && false) ∙ and_none old ∙ sym (and_none new)
held_by own named true true new old same = sym (and_all new)
held_by own true false true new old same = sym (and_all new)
held_by true false false true new old same = sym (and_all new)
held_by false false false true new old same = ap (λ b. b && true) (sym (same refl refl refl))

-- an event of a thread other than its end leaves it as it is
live_kept : (w : What) (row next : Row) → IsOwnChange w row next → reports_end w ≡ false → is_live next ≡ is_live row
live_kept w row next made goes_on =
    ap (λ k. k && not (is_some next.ended && (next.joined || next.detached))) made.known
    ∙ ap (λ o. row.known && not (is_some o && (next.joined || next.detached))) (made.ended goes_on)
    ∙ ap (λ b. row.known && not (is_some row.ended && (b || next.detached))) made.joined
    ∙ ap (λ b. row.known && not (is_some row.ended && (row.joined || b))) made.detached

module _ (e : Event) (r0 r1 r2 r3 : ℕ → ℕ → Row) (next : Row)
    (first : (q u : ℕ) → r1 q u ≡ cond (nat_eq e.pid q && names u e.what) (marked e.what (r0 q u)) (r0 q u))
    (second : (q u : ℕ) → r2 q u ≡ cond (nat_eq e.tid u && makes_process q e.what) (copied (r1 e.pid e.tid) (r1 q u)) (r1 q u))
    (third : (q u : ℕ) → r3 q u ≡ cond (nat_eq e.pid q && nat_eq e.tid u) next (r2 q u))
    (made : IsOwnChange e.what (r2 e.pid e.tid) next) where
  by_own : (own : Bool) (q u : ℕ) → (nat_eq e.pid q && nat_eq e.tid u) ≡ own → (own && reports_end e.what) ≡ false → is_live (cond own next (r2 q u)) ≡ is_live (r2 q u)
  by_own true q u is goes_on =
      let parts = and_parts (nat_eq e.pid q) (nat_eq e.tid u) is in
      live_kept e.what (r2 e.pid e.tid) next made goes_on ∙ ap (λ p. is_live (r2 p e.tid)) (eqb-true e.pid q parts.0) ∙ ap (λ t. is_live (r2 q t)) (eqb-true e.tid u parts.1)
  by_own false q u is goes_on = refl

  untouched : (q u : ℕ) → ((nat_eq e.pid q && nat_eq e.tid u) && reports_end e.what) ≡ false → (nat_eq e.pid q && names u e.what) ≡ false → (nat_eq e.tid u && makes_process q e.what) ≡ false → is_live (r3 q u) ≡ is_live (r0 q u)
  untouched q u goes_on named fork =
      ap is_live (third q u) ∙ by_own (nat_eq e.pid q && nat_eq e.tid u) q u refl goes_on
      ∙ ap is_live (second q u ∙ ap (λ t. cond t (copied (r1 e.pid e.tid) (r1 q u)) (r1 q u)) fork ∙ first q u ∙ ap (λ t. cond t (marked e.what (r0 q u)) (r0 q u)) named)

  pub holders_told : (slots : ℕ) (h0 h1 h2 h3 : ℕ → ℕ → ℕ → Bool) → ((p s t : ℕ) → h0 p s t ≡ (is_live (r0 p t) && nat_eq (slot_of slots t) s))
      → ((p s t : ℕ) → h1 p s t ≡ cond (((nat_eq e.pid p && nat_eq e.tid t) && reports_end e.what) && nat_eq (slot_of slots t) s) (is_live (r3 p t)) (h0 p s t))
      → ((p s t : ℕ) → h2 p s t ≡ cond ((nat_eq e.pid p && names t e.what) && nat_eq (slot_of slots t) s) (is_live (r3 p t)) (h1 p s t))
      → ((p s t : ℕ) → h3 p s t ≡ cond ((nat_eq e.tid t && makes_process p e.what) && nat_eq (slot_of slots t) s) (is_live (r3 p t)) (h2 p s t))
      → (p s t : ℕ) → h3 p s t ≡ (is_live (r3 p t) && nat_eq (slot_of slots t) s)
  holders_told slots h0 h1 h2 h3 told one two three p s t =
      let z = nat_eq (slot_of slots t) s in
      let own = (nat_eq e.pid p && nat_eq e.tid t) && reports_end e.what in
      let named = nat_eq e.pid p && names t e.what in
      let fork = nat_eq e.tid t && makes_process p e.what in
      three p s t ∙ ap (cond (fork && z) (is_live (r3 p t))) (two p s t ∙ ap (cond (named && z) (is_live (r3 p t))) (one p s t ∙ ap (cond (own && z) (is_live (r3 p t))) (told p s t)))
      ∙ held_by own named fork z (is_live (r3 p t)) (is_live (r0 p t)) (untouched p t)
