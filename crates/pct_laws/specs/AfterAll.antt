-- What each of the events of a step changes in turn.
use Rattle.std.specs.Prelude.{List, [], ◌∷◌}
use Rattle.pct_model.specs.declared.event.What.{What}

-- what is left of a value after these events, the first of them first, where each changes it so
abbrev pub after_all : {T : Type 0} → (What → T → T) → List What → T → T
after_all change [] x = x
after_all change (w ∷ events) x = after_all change events (change w x)
