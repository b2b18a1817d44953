use Rattle.std.proofs.Common.{refl, rules}
use Rattle.search.proofs.search.Goals as goal

pub returns-in-None-clause-answer : goal.returns-in-None-clause-answer
returns-in-None-clause-answer g c = ((c.in-None.ensures.cases, refl), search rules)
