use Rattle.pct_names.proofs.Names.{◌++◌, [], ap, Entry, None, Option, option_map, Run, Some, subst, sym, ℕ, ◌∙◌, ◌∷◌, ◌≡◌}
use Rattle.pct_engine.specs.EngineStates.{EngineValue, IsChoice, IsRunOf}
use Rattle.pct_shared.specs.TurnSteps.{MayGive, gave_view}
use Rattle.pct_shared.proofs.Seats.{seat_with}
use Rattle.pct_shared.proofs.TurnUsed.{lifted_number, may_give, may_return, turn_made, turn_over}
use Rattle.pct_shared.proofs.shared.use_turn.Goals as goal

-- what is chosen for a number
choice_for : (engine : EngineValue) (number other a b : ℕ) (answer : Option Entry) → other ≡ number → ((after : Run) → IsRunOf engine after → IsChoice engine after other a b answer) → (after : Run) → IsRunOf engine after → IsChoice engine after number a b answer
choice_for engine number other a b answer same choice after is = subst (λ (n : ℕ). IsChoice engine after n a b answer) same (choice after is)

-- the engine after its step
moved : (now then engine : EngineValue) (e : Entry) → then ≡ record now { history = now.history ++ e ∷ [] } → now ≡ engine → then ≡ record engine { history = engine.history ++ e ∷ [] }
moved now then engine e made is = made ∙ ap (λ (x : EngineValue). record x { history = x.history ++ e ∷ [] }) is

pub give_turn-requires-clause-gives : goal.give_turn-requires-clause-gives
give_turn-requires-clause-gives c =
    let l = c.requires.lifted in
    let engine : EngineValue = c.args.engine.value in
    let e : Entry = c.in-Some.entry in
    let r : (after : Run) × IsRunOf engine after = rw c.deref_mut.ensures.value at c.in-Some.ensures.runs in
    may_give l.0 c.args.seat.now.me engine l.1 r.0 c.args.choice.a c.args.choice.b e r.1
    (choice_for engine l.0.known.number c.args.choice.number c.args.choice.a c.args.choice.b (Some e) (sym l.2) (rw c.deref_mut.ensures.value at c.in-Some.ensures.choice) r.0 r.1) c.advance.new.self
    (moved c.deref_mut.result.now c.advance.new.self engine e c.in-Some.ensures.made c.deref_mut.ensures.value)

pub give_turn-requires-in-None-clause-gives : goal.give_turn-requires-in-None-clause-gives
give_turn-requires-in-None-clause-gives c =
    let l = c.requires.lifted in
    subst (MayGive c.args.seat.now.me) (sym (c.in-None.ensures.same ∙ c.deref_mut.ensures.value)) (may_return l.0 c.args.seat.now.me c.args.engine.value l.1)

pub returns-in-Some-clause-turn : goal.returns-in-Some-clause-turn
returns-in-Some-clause-turn c = λ v lifted.
    let l = c.requires.lifted in
    let engine : EngineValue = c.args.engine.value in
    let e : Entry = c.in-Some.entry in
    let r : (after : Run) × IsRunOf engine after = rw c.deref_mut.ensures.value at c.in-Some.ensures.runs in
    let number = sym l.2 ∙ sym (lifted_number l.0 v c.args.seat.now.me engine l.1 lifted) in
    turn_made v c.args.seat.now.me engine lifted r.0 c.args.choice.a c.args.choice.b e r.1
    (choice_for engine v.known.number c.args.choice.number c.args.choice.a c.args.choice.b (Some e) number (rw c.deref_mut.ensures.value at c.in-Some.ensures.choice) r.0 r.1) c.give_turn.new.seat.me c.advance.new.self
    (moved c.deref_mut.result.now c.advance.new.self engine e c.in-Some.ensures.made c.deref_mut.ensures.value) c.give_turn.ensures.gave

pub returns-in-None-clause-turn : goal.returns-in-None-clause-turn
returns-in-None-clause-turn c = λ v lifted.
    let l = c.requires.lifted in
    let engine : EngineValue = c.args.engine.value in
    let r : (after : Run) × IsRunOf engine after = rw c.deref_mut.ensures.value at c.in-None.ensures.runs in
    let number = sym l.2 ∙ sym (lifted_number l.0 v c.args.seat.now.me engine l.1 lifted) in
    let kept : c.advance.new.self ≡ engine = c.in-None.ensures.same ∙ c.deref_mut.ensures.value in
    let told = rw (c.deref.ensures ∙ kept) at c.verdict-verdict.ensures.value in
    turn_over v c.args.seat.now.me engine lifted c.give_turn-in-None.new.seat.me r.0 c.args.choice.a c.args.choice.b c.verdict-verdict.result
    (c.give_turn-in-None.ensures.gave ∙ ap (λ (x : EngineValue). seat_with (option_map (gave_view x.history) c.args.seat.now.me.0) []) kept) r.1 (told r.0 r.1)
    (choice_for engine v.known.number c.args.choice.number c.args.choice.a c.args.choice.b None number (rw c.deref_mut.ensures.value at c.in-None.ensures.choice) r.0 r.1)
