-- A memory as the list of its 4,096 cells.
use Rattle.std.specs.Prelude.{◌≡◌, ℕ, ◌<◌, List, map, length, slice_index_or}
use Rattle.std.specs.List.{range_with_len}
use Rattle.store.specs.declared.tags.Cell.{Cell}
use Rattle.store.specs.Cells.{Memory, Whole, unallocated}

unfoldable pub listed : Memory → List Cell
listed m = map m (range_with_len 0 4096)

-- The list has 4,096 cells, that of each address at its place, and no two memories of stores have one list.
pub record Listing : Type 0 where
  pub long : (m : Memory) → length (listed m) ≡ 4096
  pub each : (m : Memory) (i : ℕ) → i < 4096 → slice_index_or (listed m) i unallocated ≡ m i
  pub only : (m n : Memory) → Whole m → Whole n → listed m ≡ listed n → m ≡ n
