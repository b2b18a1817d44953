-- Bare paths, and the verdict on the claim that a check may be left out.
use Rattle.std.specs.Prelude.{◌≡◌, ℕ, ◌≤◌, Bool, true, false, cond, ◌||◌, Some, None, Ok, Err, Option, Result, ◌==◌, ◌≢◌}
use Rattle.refusal.specs.Refusals.{Refusal}
use Rattle.first.specs.First.{Only}
use Rattle.search.specs.Marks.{Few}
use Rattle.search.specs.Paths.{Unstopped}
use Rattle.steps.specs.declared.step.Step.{Step}
use Rattle.steps.specs.Tables.{unsure, checks}
use Rattle.routine.specs.declared.verdict.Verdict.{Verdict}
use Rattle.routine.specs.declared.verdict.Verdict.TheVariants.{LeftOut, NoCheck, BarePath}
use Rattle.routine.specs.Flow.{Steps, step_at, Sets, Next}

-- the value that a step checks in operand o: 0 is A and 1 is B, and there is no other
abbrev pub checked_in : Option ℕ × Option ℕ → ℕ → Option ℕ
checked_in p o = cond (o == 0) p.0 (cond (o == 1) p.1 None)

abbrev pub checked_at : Steps → ℕ → ℕ → Option ℕ
checked_at r i o = checked_in (checks (step_at r i)) o

abbrev pub is_it : ℕ → Option ℕ → Bool
is_it v None = false
is_it v (Some w) = w == v

-- the step checks v, in A or in B
abbrev pub checks_it : ℕ → Step → Bool
checks_it v s = is_it v (checks s).0 || is_it v (checks s).1

-- step i is an unsure setting of v
abbrev pub Unsure : Steps → ℕ → ℕ → Type 0
Unsure r v i = Sets r v i × (unsure (step_at r i) ≡ true)

-- a path leads from step i, an unsure setting of v, to step j, and no step between checks v
abbrev pub Exposes : Steps → ℕ → ℕ → ℕ → Type 0
Exposes r v j i = Unsure r v i × Unstopped (Next r) (λ x. checks_it v (step_at r x)) i j

-- A bare path to the check of v in operand o of step j. Where o is B, operand A of the step does not check v either.
abbrev pub Bare : Steps → ℕ → ℕ → ℕ → Type 0
Bare r j o v = ((i : ℕ) × Exposes r v j i) × (o ≡ 1 → (checks (step_at r j)).0 ≢ Some v)

-- The verdict on operand o of step j. It looks at the routine alone: a check that is itself claimed still covers others.
pub data Judged (r : Steps) (j o : ℕ) : Verdict → Type 0 where
  left_out : (v : ℕ) → checked_at r j o ≡ Some v → (Bare r j o v → ⊥) → Judged r j o LeftOut
  no_check : checked_at r j o ≡ None → Judged r j o NoCheck
  bare_path : (v : ℕ) → checked_at r j o ≡ Some v → Bare r j o v → Judged r j o BarePath

-- The answer to a claim, with n marks for the search: one verdict is right, and there are enough marks, or they are too few and that is said.
abbrev pub Answers : Steps → ℕ → ℕ → ℕ → Result Verdict Refusal → Type 0
Answers r j o n (Ok v) = (256 ≤ n) × Only (Judged r j o) v
Answers r j o n (Err e) = Few n e
