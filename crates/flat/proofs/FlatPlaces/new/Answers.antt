use Rattle.flat.proofs.Held.{memory_new, whole_new}
use Rattle.flat.proofs.FlatPlaces.new.Goals as goal

pub invariant_of-result : goal.invariant_of-result
invariant_of-result c = record { ok = whole_new 4096 c.alone.result c.alone.ensures }

pub returns : goal.returns
returns c = memory_new 4096 c.alone.result c.alone.ensures
