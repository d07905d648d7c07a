use Rattle.pct_names.proofs.Names.{◌||◌, ap, bytes_eq, List, list_any, ℕ, ◌∙◌}
use Rattle.pct_expect.proofs.ThreadNames.{put_in}
use Rattle.pct_expect.proofs.threads.ThreadSet.insert.Goals as goal

pub returns : goal.returns
returns c = λ other.
    put_in c.self.inside.names.keys c.insert.new.self.keys c.args.name c.in_ok-insert.ensures.keys other
    ∙ ap (λ (names : List (List ℕ)). bytes_eq other c.args.name.now || list_any (bytes_eq other) names) c.self.view_is
