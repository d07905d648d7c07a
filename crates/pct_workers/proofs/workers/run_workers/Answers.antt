use denote.Param.Send.{arg_send, param_send}
use Rattle.pct_shared.proofs.Sent.{worker_send}
use Rattle.pct_workers.proofs.workers.run_workers.Goals as goal

-- a worker may go to another thread
pub for_each_mut-requires-send-T : goal.for_each_mut-requires-send-T
for_each_mut-requires-send-T g c κs within = search (param_send, arg_send, worker_send)
