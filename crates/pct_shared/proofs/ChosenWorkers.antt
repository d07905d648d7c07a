-- An entry that a worker chooses has its number.
use Rattle.pct_names.proofs.Names.{Alt, ap, Bool, Candidate, candidates, chosen, cond, Config, Entry, entry_for, false, is_none, item_at}
use Rattle.pct_names.proofs.Names.{None, none-some, Option, option_and_then, option_map, same_Some, Script, Some, sym, true, World, ℕ, ◌≡◌}

by_item : (worker : ℕ) (c : Candidate) (choice : Option Alt) (e : Entry) → option_map {U = Entry} (λ x. record { worker = worker; pid = c.pid; tid = c.tid; alt = x }) choice ≡ Some e → e.worker ≡ worker
by_item worker c None e is = absurd (none-some e is)
by_item worker c (Some x) e is = ap (λ (y : Entry). y.worker) (sym (same_Some (record { worker = worker; pid = c.pid; tid = c.tid; alt = x }) e is))

by_candidate : (worker b : ℕ) (candidate : Option Candidate) (e : Entry) → option_and_then (entry_for worker b) candidate ≡ Some e → e.worker ≡ worker
by_candidate worker b None e is = absurd (none-some e is)
by_candidate worker b (Some c) e is = by_item worker c (item_at c.choices b) e is

by_stop : (t : Bool) (worker b : ℕ) (candidate : Option Candidate) (e : Entry) → cond t (option_and_then (entry_for worker b) candidate) None ≡ Some e → e.worker ≡ worker
by_stop true worker b candidate e is = by_candidate worker b candidate e is
by_stop false worker b candidate e is = absurd (none-some e is)

pub chosen-worker : (script : Script) (config : Config) (w : World) (worker a b : ℕ) (e : Entry) → chosen script config w worker a b ≡ Some e → e.worker ≡ worker
unfolding chosen
chosen-worker script config w worker a b e is = by_stop (is_none w.stop) worker b (item_at (candidates script config w) a) e is
