-- What a refusal is, and the number of each rule.
use Rattle.std.specs.Prelude.{ℕ, Result}
use Rattle.refusal.specs.declared.Rule.{Rule}
use Rattle.refusal.specs.declared.Rule.TheVariants.{MapFile, RoutineLength, StepForm, SetOnce, OperandType, Target, SetBefore, LayoutLength, FieldForm, FieldsApart, AreaExtent, Marks, Placing, AreasApart, AreaRoom, AreaOpen, FieldInside}

-- the rule that is broken, and the first place that breaks it
abbrev pub Refusal : Type 0
Refusal = Rule × ℕ

abbrev pub number_of : Rule → ℕ
number_of MapFile = 1
number_of RoutineLength = 2
number_of StepForm = 3
number_of SetOnce = 4
number_of OperandType = 5
number_of Target = 6
number_of SetBefore = 7
number_of LayoutLength = 8
number_of FieldForm = 9
number_of FieldsApart = 10
number_of AreaExtent = 11
number_of Marks = 14
number_of Placing = 15
number_of AreasApart = 24
number_of AreaRoom = 25
number_of AreaOpen = 26
number_of FieldInside = 27

-- granted, or refused
abbrev pub Answer : Type 0
Answer = Result (Unit {0}) Refusal
