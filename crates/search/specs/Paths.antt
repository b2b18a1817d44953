-- Paths through a graph of numbered nodes. Assumes nothing.
use Rattle.std.specs.Prelude.{◌≡◌, ℕ, ◌<◌, Bool, false, ◌⊎◌, Some, Option}

-- An edge: some slot of node i leads to node j.
abbrev pub Edge : (ℕ → ℕ) → (ℕ → ℕ → Option ℕ) → ℕ → ℕ → Type 0
Edge slots leads i j = (k : ℕ) × (k < slots i) × (leads i k ≡ Some j)

-- A path from i, to another node or back to i: two or more nodes, each led to by the one before.
-- A node may come more than once in it, which the field calls a walk.
pub data Walk (edge : ℕ → ℕ → Type 0) (i : ℕ) : ℕ → Type 0 where
  step : {j : ℕ} → edge i j → Walk edge i j
  onward : {j k : ℕ} → Walk edge i j → edge j k → Walk edge i k

-- Node x stands between the ends of a path.
abbrev pub Between : {edge : ℕ → ℕ → Type 0} {i j : ℕ} → Walk edge i j → ℕ → Type 0
Between (step e) x = ⊥
Between (onward {j = j} p e) x = Between p x ⊎ (x ≡ j)

-- A path with no stop between its ends.
abbrev pub Unstopped : (ℕ → ℕ → Type 0) → (ℕ → Bool) → ℕ → ℕ → Type 0
Unstopped edge stop i j = (p : Walk edge i j) × ((x : ℕ) → Between p x → stop x ≡ false)
