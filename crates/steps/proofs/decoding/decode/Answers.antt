use Rattle.std.proofs.Common.{rules}
use Rattle.steps.proofs.Spelling.{decoded}
use Rattle.steps.proofs.decoding.decode.Goals as goal

pub returns : goal.returns
returns c = decoded _ _ _ _ _ c.read.ensures c.step.ensures (λ s b q. search rules) c.filter.ensures
