-- The graph that a search follows: each step has two slots, which lead to its next steps.
use Rattle.std.specs.Prelude.{ℕ, Bool, true, false, cond, not, ◌&&◌, length, Some, None, Option, ◌==◌, nat_lt}
use Rattle.store.specs.declared.scalars.Scalar.{Scalar}
use Rattle.steps.specs.declared.step.Takes.{Takes}
use Rattle.steps.specs.Types.{accepts}
use Rattle.steps.specs.Tables.{nexts}
use Rattle.routine.specs.Flow.{Steps, step_at}

abbrev pub two_slots : ℕ → ℕ
two_slots i = 2

abbrev pub slot : Option ℕ × Option ℕ → ℕ → Option ℕ
slot p k = cond (k == 0) p.0 p.1

-- a step of the routine only
abbrev pub below : ℕ → Option ℕ → Option ℕ
below n None = None
below n (Some j) = cond (nat_lt j n) (Some j) None

abbrev pub leads : Steps → ℕ → ℕ → Option ℕ
leads r i k = below (length r) (slot (nexts (step_at r i) i) k)

-- what a step sets is v
abbrev pub is_set : ℕ → Option (ℕ × Scalar) → Bool
is_set v None = false
is_set v (Some s) = s.0 == v

-- every next step of step i is a step of the routine
abbrev pub under : ℕ → Option ℕ → Bool
under n None = true
under n (Some j) = nat_lt j n

abbrev pub nexts_inside : Steps → ℕ → Bool
nexts_inside r i = under (length r) (nexts (step_at r i) i).0 && under (length r) (nexts (step_at r i) i).1

-- what a step sets is the value of an operand, of a type that the operand does not take
abbrev pub is_other : ℕ × Takes → Option (ℕ × Scalar) → Bool
is_other u None = false
is_other u (Some s) = s.0 == u.0 && not (accepts u.1 s.1)
