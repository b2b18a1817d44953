-- The steps that a text or a routine holds.
use Rattle.std.specs.Prelude.{take}
use Rattle.routine.specs.declared.text.Text.{Text}
use Rattle.routine.specs.declared.routine.Routine.{Routine}
use Rattle.routine.specs.Flow.{Steps}

unfoldable pub text_of : Text → Steps
text_of t = take t.count t.steps

abbrev pub steps_of : Routine → Steps
steps_of r = text_of r.text
