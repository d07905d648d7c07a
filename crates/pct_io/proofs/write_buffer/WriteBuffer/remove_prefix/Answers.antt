use Rattle.std.proofs.Common.{◌-◌, ◌≤◌, length, ap, ◌∙◌, take, drop, arith, length-take}
use Rattle.pct_io.proofs.Prefixes.{moved_rest}
use Rattle.pct_io.proofs.write_buffer.WriteBuffer.remove_prefix.Goals as goal

pub returns : goal.returns
returns c =
    let xs = c.self.inside.bytes in
    let end = c.self.inside.count in
    let n = c.args.count in
    let within : n ≤ end = omega (arith, c.requires, ap length c.self.view_is, length-take end xs) in
    ap (take (end - n)) c.copy_within.ensures.after ∙ moved_rest xs n end within (omega arith) ∙ ap (drop n) c.self.view_is
