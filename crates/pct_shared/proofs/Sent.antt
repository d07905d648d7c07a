-- A worker may go to another thread.
use denote.RattleType.{RattleType}
use denote.Struct.Declared as declared
use denote.Param.Send.{IsSend, plain_send, recorded_send, struct_send, view_send}
use Rattle.pct_names.proofs.Names.{crosses, ghosts}
use Rattle.std.proofs.alloc.Global.TheSendSync as heap
use Rattle.std.below.std_heap.proofs.GlobalAllocator.TheSendSync as allocator
use Rattle.std.proofs.boxed.Box.TheSendSync as boxed
use Rattle.std.proofs.option.Option.TheSendSync as optional
use Rattle.std.specs.contracts.alloc.Global as Global
use Rattle.std.specs.contracts.boxed.Box as Box
use Rattle.std.specs.contracts.option.Option as Option
use Rattle.std.specs.contracts.snapshot.Snapshot as Snapshot
use Rattle.atomic_table.proofs.shared.Seat.TheSendSync as seat
use Rattle.rand_pcg.proofs.pcg64.Lcg64Xsh32.TheSendSync as words
use Rattle.pct_engine.proofs.engine.Engine.TheSendSync as engine
use Rattle.pct_engine.specs.contracts.engine.Engine as Engine
use Rattle.pct_shared.specs.contracts.pass.Pass as Pass
use Rattle.pct_shared.specs.contracts.pass.Pass.TheInside as inside
use Rattle.pct_shared.specs.contracts.view.Opening as Opening
use Rattle.pct_shared.specs.contracts.view.View as View
use Rattle.pct_shared.specs.contracts.worker.Worker as Worker

slot : RattleType
slot = Option.the_row (Box.the_row Engine.the_row Global.the_row ghosts)

slot_send : IsSend slot
unfolding slot
slot_send =
    optional.the_send (Box.the_row Engine.the_row Global.the_row ghosts)
    (boxed.the_send Engine.the_row Global.the_row ghosts engine.the_send heap.the_send allocator.the_frees)

opening_send : IsSend (Snapshot.the_row Opening.the_row)
opening_send = search crosses depth 5

pass_send : IsSend Pass.the_row
unfolding slot
pass_send =
    view_send inside.the_row _ _ _ _
    (recorded_send (inside.the_field).row _ _ (inside.the_type).to_one
    (struct_send (declared.shape inside.the_type) (
      seat.the_send slot (Option.the_row View.the_row) slot_send,
      (plain_send _ _ _ _ _, (opening_send, tt)),
    )))

pub worker_send : IsSend Worker.the_row
worker_send =
    recorded_send (Worker.the_field).row _ _ (Worker.the_type).to_one
    (struct_send (declared.shape Worker.the_type) (pass_send, (words.the_send, tt)))
