use Rattle.pct_names.proofs.Names.{◌||◌, All, ap, bytes_eq, List, list_any, subst, sym, thread_text, ℕ, ◌∙◌}
use Rattle.std.proofs.lemmas.Map.Views.{All-insert_key}
use Rattle.pct_survey.proofs.ThreadTexts.{Fits, order_of, put_in}
use Rattle.pct_survey.proofs.threads.ThreadSet.insert.Goals as goal

pub returns : goal.returns
returns c = λ text.
    put_in c.self.inside.threads.keys c.insert.new.self.keys (c.args.pid, c.args.tid) c.in_ok-insert.ensures.keys text
    ∙ ap (λ (texts : List (List ℕ)). bytes_eq text (thread_text c.args.pid c.args.tid) || list_any (bytes_eq text) texts) c.self.view_is

pub invariant_of-self-2 : goal.invariant_of-self-2
invariant_of-self-2 c =
    subst (λ (keys : List (ℕ × ℕ)). All Fits keys) (sym c.in_ok-insert.ensures.keys)
    (All-insert_key order_of (c.args.pid, c.args.tid) Fits c.self.inside.threads.keys c.self.invariant (c.ranges.pid.fits, c.ranges.tid.fits))
