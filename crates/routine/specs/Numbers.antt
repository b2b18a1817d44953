-- The numbers of the verdicts.
use Rattle.std.specs.Prelude.{ℕ}
use Rattle.routine.specs.declared.verdict.Verdict.{Verdict}
use Rattle.routine.specs.declared.verdict.Verdict.TheVariants.{LeftOut, NoCheck, BarePath}

abbrev pub number_of : Verdict → ℕ
number_of LeftOut = 1
number_of NoCheck = 2
number_of BarePath = 3
