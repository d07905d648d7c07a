use Rattle.std.proofs.Common.{◌≡◌, ◌+◌, length}
use Rattle.std.specs.Prelude.{bytes_eq}
use Rattle.std.specs.List.{position_or_len}
use Rattle.pct_model.specs.declared.keyword.Keyword.TheVariants as keyword
use Rattle.pct_model.specs.Keywords.{keyword_text}
use Rattle.pct_model.specs.Names.{names_of}
use Rattle.pct_model.proofs.script.main_of.Given as goal

abbrev pub invariant-loop-func : goal.invariant-loop-func
invariant-loop-func l = record {
  found : l.index + position_or_len (bytes_eq (keyword_text keyword.Main)) (names_of l.rest) ≡ position_or_len (bytes_eq (keyword_text keyword.Main)) (names_of l.funcs);
  count : l.index + length l.rest ≡ length l.funcs;
}

abbrev pub decreases-loop-func : goal.decreases-loop-func
decreases-loop-func l = length l.rest
