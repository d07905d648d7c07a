-- Events of destructors.
use Rattle.std.specs.Prelude.{ℕ, Bool, false, ◌&&◌, nat_eq}
use Rattle.pct_model.specs.declared.event.What.{What}
use Rattle.pct_model.specs.declared.event.What.TheVariants as what

-- the event is that the destructor of a key is called in a pass
abbrev pub destroys : ℕ → ℕ → What → Bool
destroys q k (what.DtorRun pass key f v) = nat_eq pass q && nat_eq key k
destroys q k _ = false
