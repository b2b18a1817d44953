use Rattle.std.proofs.Common.{rules}
use Rattle.areas.specs.Calls.{opened}
use Rattle.areas.proofs.Searches.{parted}
use Rattle.areas.proofs.areas.Areas.count_below.Goals as goal

pub returns : goal.returns
returns c =
    let s = c.args.self.now in
    let facts = c.partition_point.ensures in
    parted (opened s) s.apart _ c.deref.ensures.0 c.args.limit _ facts.bound facts.partitioned (λ a r q called. search rules)
