use Rattle.std.proofs.Common.{arith}
use Rattle.mirror.proofs.Powers.{power, log_only}
use Rattle.mirror.proofs.log_of.Goals as goal

pub returns : goal.returns
returns c =
    let log = log_only c.args.size c.ilog2.result c.requires c.ilog2.ensures.power_le c.ilog2.ensures.next_power_gt in
    record { value = log; small = omega (arith, (power c.args.size c.requires).1) }
