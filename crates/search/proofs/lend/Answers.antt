use Rattle.std.proofs.Common.{refl, rules}
use Rattle.search.proofs.lend.Goals as goal

pub returns-in-Some : goal.returns-in-Some
returns-in-Some g c = (
  c.in-Some.ensures.cases.enough,
  (c.f.new.arg2, record { shown = _; shows = c.in-Some.ensures.cases.same; left = _; met = c.f.ensures; leaves = refl }, search rules),
)

pub returns-in-None : goal.returns-in-None
returns-in-None g c = ((c.in-None.ensures.cases, refl), search rules)
