-- What makes a step bad, number by number, the answers that the rules allow, and what an accepted routine has.
use Rattle.std.specs.Prelude.{◌≡◌, ℕ, ◌+◌, ◌<◌, ◌≤◌, true, false, ◌⊎◌, List, length, IsSomeAnd, Some, Ok, Err}
use Rattle.refusal.specs.declared.Rule.TheVariants.{RoutineLength, StepForm, SetOnce, OperandType, Target, SetBefore}
use Rattle.refusal.specs.Refusals.{Answer}
use Rattle.store.specs.declared.scalars.Scalar.{Scalar}
use Rattle.first.specs.First.{Nowhere, Somewhere, FirstAt, Granted, Ruled}
use Rattle.steps.specs.declared.step.Step.{Step}
use Rattle.steps.specs.declared.step.Takes.{Takes}
use Rattle.steps.specs.Types.{accepts}
use Rattle.steps.specs.Tables.{sets, uses, targets, terminator, nexts}
use Rattle.steps.specs.Format.{Spells}
use Rattle.routine.specs.Flow.{Steps, step_at, Either, Sets, Path, Before}
use Rattle.routine.specs.Body.{count_of, Measured, part, Written, written}

-- 3: the bytes of step k are not those of a well-formed step
abbrev pub Malformed : List ℕ → ℕ → Type 0
Malformed b k = (s : Step) → Spells (part b k) s → ⊥

-- 4: step k sets a value that an earlier step sets
abbrev pub SetTwice : Steps → ℕ → Type 0
SetTwice r k = IsSomeAnd (sets (step_at r k)) (λ s. Somewhere (Sets r s.0) k)

-- step i sets the value of an operand to a type that the operand does not take
abbrev pub SetsOther : Steps → ℕ × Takes → ℕ → Type 0
SetsOther r u i = IsSomeAnd (sets (step_at r i)) (λ s. (s.0 ≡ u.0) × (accepts u.1 s.1 ≡ false))

-- 5: a value operand of step k is set by no step, or to a type that it does not take
abbrev pub Unfit : Steps → ℕ × Takes → Type 0
Unfit r u = Nowhere (Sets r u.0) (length r) ⊎ Somewhere (SetsOther r u) (length r)

abbrev pub UnfitOperand : Steps → ℕ → Type 0
UnfitOperand r k = Either (Unfit r) (uses (step_at r k))

-- 6: a target of step k is past the routine, or step k is the last and leads to the step below
abbrev pub Astray : Steps → ℕ → Type 0
Astray r k = Either (λ j. length r ≤ j) (targets (step_at r k)) ⊎ ((k + 1 ≡ length r) × (terminator (step_at r k) ≡ false))

-- 7: a value operand stands at step 0, or a path leads from step 0 to step k with the setting nowhere before its end
abbrev pub Unset : Steps → ℕ → ℕ → Type 0
Unset r v k = (p : Path r 0 k) × ((s : ℕ) → Sets r v s → Before p s → ⊥)

abbrev pub UnsetOperand : Steps → ℕ → Type 0
UnsetOperand r k = Either (λ u. (k ≡ 0) ⊎ Unset r u.0 k) (uses (step_at r k))

-- Each number is tried over all steps before the next, and the first bad step is named. From 4 on the body is that of the steps r.
pub data Allowed (b : List ℕ) : Answer → Type 0 where
  wrong_length : (Measured b → ⊥) → Allowed b (Err (RoutineLength, 0))
  malformed : (k : ℕ) → Measured b → FirstAt (Malformed b) (count_of b) k → Allowed b (Err (StepForm, k))
  set_twice : (r : Steps) (k : ℕ) → Written b r → FirstAt (SetTwice r) (length r) k → Allowed b (Err (SetOnce, k))
  unfit : (r : Steps) (k : ℕ) → Written b r → Nowhere (SetTwice r) (length r) → FirstAt (UnfitOperand r) (length r) k → Allowed b (Err (OperandType, k))
  astray : (r : Steps) (k : ℕ) → Written b r → Nowhere (SetTwice r) (length r) → Nowhere (UnfitOperand r) (length r) → FirstAt (Astray r) (length r) k → Allowed b (Err (Target, k))
  unset : (r : Steps) (k : ℕ) → Written b r → Nowhere (SetTwice r) (length r) → Nowhere (UnfitOperand r) (length r) → Nowhere (Astray r) (length r) → FirstAt (UnsetOperand r) (length r) k → Allowed b (Err (SetBefore, k))
  accepted : (r : Steps) → Written b r → Nowhere (SetTwice r) (length r) → Nowhere (UnfitOperand r) (length r) → Nowhere (Astray r) (length r) → Nowhere (UnsetOperand r) (length r) → Allowed b (Ok tt)

-- the numbers from 4 on, one after the other
abbrev pub InOrder : Steps → Answer → Type 0
InOrder r =
    Ruled SetOnce (SetTwice r) (length r) (Ruled OperandType (UnfitOperand r) (length r)
    (Ruled Target (Astray r) (length r) (Ruled SetBefore (UnsetOperand r) (length r) Granted)))

-- A value operand of step k is covered: one step sets it, to a type that it takes, and comes before the end of every path from step 0 to step k.
pub record Covered (r : Steps) (k : ℕ) (u : ℕ × Takes) : Type 0 where
  pub setting : ℕ
  pub scalar : Scalar
  pub sets_it : sets (step_at r setting) ≡ Some (u.0, scalar)
  pub takes_it : accepts u.1 scalar ≡ true
  pub alone : (i : ℕ) → Sets r u.0 i → i ≡ setting
  pub not_first : 0 < k
  pub before : (p : Path r 0 k) → Before p setting

-- what an accepted routine has
pub record Sound (r : Steps) : Type 0 where
  pub once : (v i j : ℕ) → Sets r v i → Sets r v j → j ≡ i
  pub covered : (k : ℕ) → k < length r → (u : ℕ × Takes) → Either (λ w. w ≡ u) (uses (step_at r k)) → Covered r k u
  pub inside : (k j : ℕ) → k < length r → Either (λ i. i ≡ j) (nexts (step_at r k) k) → j < length r

-- the steps r are those that the accepted body b spells
pub record Accepted (b : List ℕ) (r : Steps) : Type 0 where
  pub spelled : Written b r
  pub again : written r ≡ b
  pub sound : Sound r
