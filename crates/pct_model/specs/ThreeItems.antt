-- The items of a short list.
use Rattle.std.specs.Prelude.{List, [], ◌∷◌}
use Rattle.pct_model.specs.declared.up_to_three.Items.{Items}
use Rattle.pct_model.specs.declared.up_to_three.Items.TheVariants as items

-- the items, in order
abbrev pub items_of : {T : Type 0} → Items T → List T
items_of items.Zero = []
items_of (items.One xs) = xs
items_of (items.Two xs) = xs
items_of (items.Three xs) = xs
