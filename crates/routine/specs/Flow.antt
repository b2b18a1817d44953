-- A routine as the list of its steps: which step sets a value, which steps come next, and the paths through it.
use Rattle.std.specs.Prelude.{◌≡◌, ℕ, ◌<◌, cond, ◌⊎◌, List, length, IsSomeAnd, Some, None, Option, nat_lt, slice_index_or}
use Rattle.store.specs.declared.scalars.Scalar.{Scalar}
use Rattle.first.specs.First.{Nowhere, FirstAt}
use Rattle.search.specs.Paths.{Walk, Between}
use Rattle.steps.specs.declared.step.Step.{Step}
use Rattle.steps.specs.declared.step.Step.TheVariants.{Stop}
use Rattle.steps.specs.Tables.{sets, nexts}

abbrev pub Steps : Type 0
Steps = List Step

-- step i; past the last there is none, which is as a stop
abbrev pub step_at : Steps → ℕ → Step
step_at r i = slice_index_or r i Stop

-- Q holds of one of two
abbrev pub Either : {A : Type 0} → (A → Type 0) → Option A × Option A → Type 0
Either Q p = IsSomeAnd p.0 Q ⊎ IsSomeAnd p.1 Q

-- step i sets the value v
abbrev pub Sets : Steps → ℕ → ℕ → Type 0
Sets r v i = IsSomeAnd (sets (step_at r i)) (λ s. s.0 ≡ v)

-- step j of the routine is a next step of step i
abbrev pub Next : Steps → ℕ → ℕ → Type 0
Next r i j = (j < length r) × Either (λ k. k ≡ j) (nexts (step_at r i) i)

-- a path through the routine: two or more steps, each a next step of the one before
abbrev pub Path : Steps → ℕ → ℕ → Type 0
Path r i j = Walk (Next r) i j

-- step s comes in a path before its end
abbrev pub Before : {edge : ℕ → ℕ → Type 0} {i j : ℕ} → Walk edge i j → ℕ → Type 0
Before {i = i} p s = (s ≡ i) ⊎ Between p s

-- the answer to a question for step i: none past the last
abbrev pub asked : Steps → ℕ → Option Step
asked r i = cond (nat_lt i (length r)) (Some (step_at r i)) None

-- the type of a value: that of the first step that sets it, and none where no step does
abbrev pub Typed : Steps → ℕ → Option Scalar → Type 0
Typed r v None = Nowhere (Sets r v) (length r)
Typed r v (Some t) = (i : ℕ) × FirstAt (Sets r v) (length r) i × (sets (step_at r i) ≡ Some (v, t))
