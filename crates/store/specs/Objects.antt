-- Memory in the words of objects.
use Rattle.std.specs.Prelude.{◌≡◌, ℕ, ◌+◌, ◌<◌, ◌≤◌, true}
use Rattle.store.specs.declared.tags.Kind.{Kind}
use Rattle.store.specs.Cells.{Memory, cell_of, unallocated, sized}

-- j is one of the n bytes from a
abbrev pub Among : ℕ → ℕ → ℕ → Type 0
Among a n j = (a ≤ j) × (j < a + n)

-- The n bytes from s are one object of the kind: each has its kind and size, and its own position in it.
pub record Object (m : Memory) (s : ℕ) (k : Kind) (n : ℕ) : Type 0 where
  pub size : sized k n ≡ true
  pub within : s + n ≤ 4096
  pub bytes : (j : ℕ) → j < n → m (s + j) ≡ cell_of k n j

-- Memory is divided into whole objects: each of its bytes lies in one, and past its end all is unallocated.
pub record Divided (m : Memory) : Type 0 where
  pub covered : (i : ℕ) → i < 4096 → (s : ℕ) × (k : Kind) × (n : ℕ) × Among s n i × Object m s k n
  pub ended : (i : ℕ) → 4096 ≤ i → m i ≡ unallocated

-- j is a byte of the object of byte i
abbrev pub Together : Memory → ℕ → ℕ → Type 0
Together m i j = (i ≤ j + (m i).position) × (j + (m i).position < i + (m i).size)
