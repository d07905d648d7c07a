-- The functions of lines, one after the other.
use Rattle.pct_names.proofs.Names.{[], functions_in, refl, split_sections, ◌≡◌}

-- without lines there is no function
pub no_functions : functions_in [] ≡ []
unfolding split_sections
no_functions = refl
