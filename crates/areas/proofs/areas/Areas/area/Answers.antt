use Rattle.std.proofs.Common.{arith}
use Rattle.std.proofs.lemmas.Grind.{elements}
use Rattle.areas.proofs.Order.{some_within}
use Rattle.areas.proofs.areas.Areas.area.Goals as goal

pub returns-clause-within : goal.returns-clause-within
returns-clause-within c = some_within c.args.self.now.list.items c.args.i _ c.args.self.now.apart (grind (arith, elements))
