-- What the limits of a configuration are.
use Rattle.pct_names.proofs.Names.{◌&&◌, and_parts, Bool, Config, is_config, MAX_BUDGET, MAX_PASSES, MAX_SLOTS, MIN_PASSES, nat_le, true, ◌≡◌}
use Rattle.pct_names.proofs.Names.{◌≤◌}
use Rattle.std.proofs.lemmas.Bool.{leb-true}

-- a configuration within the limits has 1 to 64 slots
pub slots_within : (config : Config) → is_config config ≡ true → (1 ≤ config.slots) × (config.slots ≤ MAX_SLOTS)
slots_within config limits =
    let early : Bool = nat_le 1 config.budget && nat_le config.budget MAX_BUDGET && nat_le MIN_PASSES config.passes && nat_le config.passes MAX_PASSES in
    let few = and_parts (early && nat_le 1 config.slots) (nat_le config.slots MAX_SLOTS) limits in
    let some = and_parts early (nat_le 1 config.slots) few.0 in
    (leb-true 1 config.slots some.1, leb-true config.slots MAX_SLOTS few.1)
