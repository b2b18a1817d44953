use Rattle.std.proofs.Common.{◌≡◌, ℕ, ◌<◌, length, get_or}
use Rattle.steps.specs.declared.step.Step.TheVariants.{Stop}
use Rattle.steps.specs.Format.{Spells}
use Rattle.routine.specs.Body.{part}
use Rattle.routine.proofs.text.reading.read_text.Given as goal

abbrev pub invariant-loop-i : goal.invariant-loop-i
invariant-loop-i l = (length l.steps ≡ 256) × ((k : ℕ) → k < l.i → Spells (part l.body k) (get_or l.steps k Stop))
