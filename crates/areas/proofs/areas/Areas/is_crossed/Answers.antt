use Rattle.std.proofs.Common.{rules}
use Rattle.areas.specs.Area.{crosses}
use Rattle.areas.proofs.Searches.{crosses_tells, tells}
use Rattle.areas.proofs.areas.Areas.is_crossed.Goals as goal

pub returns : goal.returns
returns c =
    let new = c.args.new in
    tells _ c.args.self.now.apart (crosses new.start new.length) _ (crosses_tells _ _ _ c.end.ensures) _ _ _ c.is_some_and.ensures c.last_below.ensures (λ i h called. search rules)
