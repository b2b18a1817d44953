-- The codes of steps, and the numbers that they have.
use Rattle.std.specs.Prelude.{◌≡◌, ℕ, cond, Some, None, Option, Result, ◌==◌}
use Rattle.std.specs.Result.{result_ok}
use Rattle.steps.specs.declared.step.Operation.{Operation}
use Rattle.steps.specs.declared.step.Operation.TheVariants.{Add, Sub, Mul, Div, And, Or, Shl, Shr}
use Rattle.steps.specs.declared.step.Comparison.{Comparison}
use Rattle.steps.specs.declared.step.Comparison.TheVariants.{Equal, Less}
use Rattle.steps.specs.declared.code.Code.{Code}
use Rattle.steps.specs.declared.code.Code.TheVariants.{Stop, Set, Copy, Compute, Compare, Load, Store, Offset, Retype, Resize, Jump, Branch}
use Rattle.steps.specs.declared.code.UnknownCode.{UnknownCode}

abbrev pub operation_code : Operation → ℕ
operation_code Add = 3
operation_code Sub = 4
operation_code Mul = 5
operation_code Div = 6
operation_code And = 7
operation_code Or = 8
operation_code Shl = 9
operation_code Shr = 10

abbrev pub comparison_code : Comparison → ℕ
comparison_code Equal = 11
comparison_code Less = 12

abbrev pub code_number : Code → ℕ
code_number Stop = 0
code_number Set = 1
code_number Copy = 2
code_number (Compute p) = operation_code p
code_number (Compare p) = comparison_code p
code_number Load = 13
code_number Store = 14
code_number Offset = 15
code_number Retype = 16
code_number Resize = 17
code_number Jump = 18
code_number Branch = 19

abbrev pub code_of : ℕ → Option Code
code_of n =
    cond (n == 0) (Some Stop) (cond (n == 1) (Some Set) (cond (n == 2) (Some Copy)
    (cond (n == 3) (Some (Compute Add)) (cond (n == 4) (Some (Compute Sub)) (cond (n == 5) (Some (Compute Mul))
    (cond (n == 6) (Some (Compute Div)) (cond (n == 7) (Some (Compute And)) (cond (n == 8) (Some (Compute Or))
    (cond (n == 9) (Some (Compute Shl)) (cond (n == 10) (Some (Compute Shr)) (cond (n == 11) (Some (Compare Equal))
    (cond (n == 12) (Some (Compare Less)) (cond (n == 13) (Some Load) (cond (n == 14) (Some Store)
    (cond (n == 15) (Some Offset) (cond (n == 16) (Some Retype) (cond (n == 17) (Some Resize)
    (cond (n == 18) (Some Jump) (cond (n == 19) (Some Branch) None)))))))))))))))))))

-- what a number is turned into, and what a code is
abbrev pub CodeOf : ℕ → Result Code UnknownCode → Type 0
CodeOf n r = result_ok r ≡ code_of n

abbrev pub NumberOf : Code → ℕ → Type 0
NumberOf c n = n ≡ code_number c
