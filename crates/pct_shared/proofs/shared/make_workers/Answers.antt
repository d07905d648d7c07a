use Rattle.pct_names.proofs.Names.{◌+◌, ◌++◌, [], ap, arith, length, List, option_map, Some, subst, suc, sym, ℕ, ◌∙◌, ◌∷◌, ◌≡◌}
use Rattle.std.proofs.Common.{length-append}
use Rattle.atomic_table.specs.Seated.{TableId}
use Rattle.atomic_table.specs.Table.{Me}
use Rattle.pct_shared.specs.declared.view.Opening.{Opening}
use Rattle.pct_shared.specs.declared.worker.Worker.{Worker}
use Rattle.pct_shared.specs.Hosts.{IsNewWorker}
use Rattle.pct_shared.specs.TurnRule.{SeatView, Slot}
use Rattle.pct_shared.specs.Views.{new_view, next_view}
use Rattle.pct_shared.proofs.NewWorkers.{new_more, newest_splits}
use Rattle.pct_shared.proofs.Seats.{seat_with}
use Rattle.pct_shared.proofs.shared.make_workers.Goals as goal

pub split_seat-next-requires : goal.split_seat-next-requires
split_seat-next-requires c =
    let l = c.loop-number in
    let host = c.args.host.now in (
      l.invariant.table,
      omega (arith, c.requires.few.words),
      newest_splits host.desk.now.shared.key host.opening.now l.newest.id l.number l.newest.me c.requires.desk.key_is l.invariant.newest l.invariant.some c.loop-number-test.true,
    )

-- the seat of the next pass
next_seat : (me then : Me Slot SeatView) (o : Opening) (number more : ℕ) → more ≡ suc number → then ≡ (option_map next_view me.0, []) → me ≡ (Some (new_view o number), []) → then ≡ (Some (new_view o more), [])
next_seat me then o number more is split at = split ∙ ap (λ (m : Me Slot SeatView). seat_with (option_map next_view m.0) []) at ∙ ap (λ (n : ℕ). seat_with (Some (new_view o n)) []) (sym is)

-- a new worker of the same table
same_table : (o : Opening) (seed number : ℕ) (w : Worker) (one other : TableId) → one ≡ other → IsNewWorker (record { host = one; opening = o }) seed number w → IsNewWorker (record { host = other; opening = o }) seed number w
same_table o seed number w one other same new = subst (λ (host : TableId). IsNewWorker (record { host = host; opening = o }) seed number w) same new

pub loop-number-preserved : goal.loop-number-preserved
loop-number-preserved c =
    let l = c.loop-number in
    let i = l.invariant in
    let host = c.args.host.now in
    let split = c.split_seat-next.ensures in
    let test = c.loop-number-test.true in
    let items : c.push.new.self.items ≡ l.workers.items ++ c.new_worker-worker.result ∷ [] = rw c.unwrap.ensures at c.push.ensures.items in
    let worker = c.new_worker-worker.result in
    let new = same_table host.opening.now c.args.seed l.number worker _ host.desk.now.shared.table_id (split.0 ∙ i.table) c.new_worker-worker.ensures in
    let longer : length c.push.new.self.items ≡ length l.workers.items + 1 = ap (λ (xs : List Worker). length xs) items ∙ length-append l.workers.items (worker ∷ []) in
    record {
      some = omega arith;
      within = omega (arith, test);
      room = omega (arith, i.room, c.push.ensures.capacity);
      made = omega (arith, longer, i.made);
      each = new_more (record { host = host.desk.now.shared.table_id; opening = host.opening.now }) c.args.seed l.number l.workers.items worker i.made i.each new c.push.new.self.items items;
      table = split.3 ∙ i.table;
      newest = next_seat l.newest.me c.split_seat-next.result.me host.opening.now l.number (l.number + 1) (omega arith) split.4 i.newest;
    }

pub returns : goal.returns
returns c =
    let l = c.loop-number in
    let i = l.invariant in
    let host = c.args.host.now in
    let test = c.loop-number-test.false in
    let within = i.within in
    let items : c.push-2.new.self.items ≡ l.workers.items ++ c.new_worker-worker-2.result ∷ [] = rw c.unwrap-2.ensures at c.push-2.ensures.items in
    let worker = c.new_worker-worker-2.result in
    let new = same_table host.opening.now c.args.seed l.number worker _ host.desk.now.shared.table_id i.table c.new_worker-worker-2.ensures in
    let longer : length c.push-2.new.self.items ≡ length l.workers.items + 1 = ap (λ (xs : List Worker). length xs) items ∙ length-append l.workers.items (worker ∷ []) in
    record {
      count_is = omega (arith, longer, i.made, test, within);
      each = new_more (record { host = host.desk.now.shared.table_id; opening = host.opening.now }) c.args.seed l.number l.workers.items worker i.made i.each new c.push-2.new.self.items items;
    }
