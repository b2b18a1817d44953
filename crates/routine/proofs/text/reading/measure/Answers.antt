use Rattle.std.proofs.Common.{refl, arith}
use Rattle.routine.specs.Body.{count_of}
use Rattle.routine.proofs.text.reading.measure.Goals as goal

pub returns-in-None : goal.returns-in-None
returns-in-None c = (λ m. c.in-None.ensures (count_of c.args.body.now) (record { sized = omega arith; some = m.0; few = m.1; whole = omega (arith, m.2) }), refl)
