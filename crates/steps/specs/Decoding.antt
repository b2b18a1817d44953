-- The step that fields name by their code, letter, value and operands. Fields that the step does not use are not looked at here.
use Rattle.std.specs.Prelude.{ℕ, ◌/◌, ◌%◌, cond, List, Some, None, Option, option_and_then, ◌==◌}
use Rattle.little_endian.specs.Numbers.{byte, two, four}
use Rattle.store.specs.Scalars.{scalar_of}
use Rattle.steps.specs.declared.step.Operand.{Operand}
use Rattle.steps.specs.declared.step.Operand.TheVariants.{Value, Literal}
use Rattle.steps.specs.declared.step.Step.{Step}
use Rattle.steps.specs.declared.step.Step.TheVariants.{Stop, Set, Copy, Compute, Compare, Load, Store, Offset, Retype, Resize, Jump, Branch}
use Rattle.steps.specs.declared.fields.Fields.{Fields}
use Rattle.steps.specs.declared.code.Code.{Code}
use Rattle.steps.specs.declared.code.Code.TheVariants.{Stop as StopCode, Set as SetCode, Copy as CopyCode, Compute as ComputeCode, Compare as CompareCode, Load as LoadCode, Store as StoreCode, Offset as OffsetCode, Retype as RetypeCode, Resize as ResizeCode, Jump as JumpCode, Branch as BranchCode}
use Rattle.steps.specs.Codes.{code_of}
use Rattle.steps.specs.Tables.{named}
use Rattle.steps.specs.Format.{row}

-- as `?` goes on where there is a value
infixl 10 ◌>>=◌
abbrev pub ◌>>=◌ : {X Y : Type 0} → Option X → (X → Option Y) → Option Y
o >>= f = option_and_then f o

-- the operand of a form, if it is one
abbrev pub operand_of : ℕ → ℕ → Option Operand
operand_of f x = cond (f == 1) (Some (Value x)) (cond (f == 2) (Some (Literal x)) None)

unfoldable pub fields_at : List ℕ → Fields
fields_at bs =
    row (byte bs 0) (byte bs 1) (byte bs 2)
    (operand_of (byte bs 3 % 16) (four bs 4)) (operand_of (byte bs 3 / 16) (four bs 8)) (two bs 12) (two bs 14)

-- the literal that stands as an operand
abbrev pub literal : Operand → Option ℕ
literal (Value v) = None
literal (Literal x) = Some x

-- the step of a code: one row a code
abbrev pub by_code : Fields → Code → Option Step
by_code w StopCode = Some Stop
by_code w SetCode = do
  t ← scalar_of w.letter
  a ← w.a
  x ← literal a
  Some (Set t w.value x)
by_code w CopyCode = do
  t ← scalar_of w.letter
  a ← w.a
  u ← named a
  Some (Copy t w.value u)
by_code w (ComputeCode p) = do
  t ← scalar_of w.letter
  a ← w.a
  b ← w.b
  Some (Compute p t w.value a b)
by_code w (CompareCode p) = do
  t ← scalar_of w.letter
  a ← w.a
  b ← w.b
  Some (Compare p t w.value a b)
by_code w LoadCode = do
  t ← scalar_of w.letter
  a ← w.a
  Some (Load t w.value a)
by_code w StoreCode = do
  t ← scalar_of w.letter
  a ← w.a
  b ← w.b
  Some (Store t a b)
by_code w OffsetCode = do
  a ← w.a
  b ← w.b
  Some (Offset w.value a b)
by_code w RetypeCode = do
  t ← scalar_of w.letter
  a ← w.a
  u ← named a
  Some (Retype t w.value u)
by_code w ResizeCode = do
  t ← scalar_of w.letter
  a ← w.a
  u ← named a
  Some (Resize t w.value u)
by_code w JumpCode = Some (Jump w.first)
by_code w BranchCode = do
  a ← w.a
  Some (Branch a w.first w.second)

abbrev pub step_of : Fields → Option Step
step_of w = do
  c ← code_of w.code
  by_code w c
