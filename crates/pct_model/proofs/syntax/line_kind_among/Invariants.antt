use Rattle.std.proofs.Common.{◌≡◌, length}
use Rattle.std.specs.Prelude.{bytes_eq, find, IsTrue}
use Rattle.std.specs.List.{list_all}
use Rattle.pct_model.specs.LineKinds.{syntax_of, is_no_point}
use Rattle.pct_model.proofs.syntax.line_kind_among.Given as goal

abbrev pub invariant-loop-line_kind : goal.invariant-loop-line_kind
invariant-loop-line_kind l = record {
  found : find (λ f. bytes_eq (syntax_of f).keyword l.word) l.rest ≡ find (λ f. bytes_eq (syntax_of f).keyword l.word) l.among;
  no_points : IsTrue (list_all is_no_point l.rest);
}

abbrev pub decreases-loop-line_kind : goal.decreases-loop-line_kind
decreases-loop-line_kind l = length l.rest
