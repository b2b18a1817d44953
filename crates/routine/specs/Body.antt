-- The body of a routine: 1 to 256 steps of 16 bytes, one after the other.
use Rattle.std.specs.Prelude.{◌≡◌, ℕ, ◌*◌, ◌/◌, ◌<◌, ◌≤◌, List, [], ◌∷◌, ◌++◌, length, take, drop}
use Rattle.steps.specs.Format.{encoded, Spells}
use Rattle.routine.specs.Flow.{Steps, step_at}

-- the number of steps, and the lengths that a body may have
abbrev pub count_of : List ℕ → ℕ
count_of b = length b / 16

abbrev pub Measured : List ℕ → Type 0
Measured b = (1 ≤ count_of b) × (count_of b ≤ 256) × (length b ≡ 16 * count_of b)

-- the bytes of step i
abbrev pub part : List ℕ → ℕ → List ℕ
part b i = take 16 (drop (16 * i) b)

-- the body is right in length, and its bytes are those of the steps
pub record Written (b : List ℕ) (r : Steps) : Type 0 where
  pub measured : Measured b
  pub count : length r ≡ count_of b
  pub each : (i : ℕ) → i < length r → Spells (part b i) (step_at r i)

-- the steps written one after the other
abbrev pub written : Steps → List ℕ
written [] = []
written (s ∷ r) = encoded s ++ written r
