-- What the placing of a body's fields leaves.
use Rattle.std.specs.Prelude.{◌≡◌, ℕ, zero, suc, ◌+◌, ◌-◌, ◌<◌, ◌≤◌, List, IfSome, Some, None, Ok, Option, MatchOption}
use Rattle.store.specs.declared.tags.Cell.{Cell}
use Rattle.store.specs.Cells.{Memory, cell_of, torn, number_of, put}
use Rattle.store.specs.Objects.{Together}
use Rattle.first.specs.First.{Nowhere, Somewhere}
use Rattle.layout.specs.declared.field.Field.{Field}
use Rattle.layout.specs.Fields.{field_at, count_of, Owns}
use Rattle.layout.specs.Rules.{Allowed}

-- a field's kind and size, placed at its address
abbrev pub put_field : Memory → Option Field → Memory
put_field m None = m
put_field m (Some f) = put m f.address (number_of f.scalar.kind) f.scalar.size

-- the memory after the first n fields, placed in order
abbrev pub laid_cells : Memory → List ℕ → ℕ → Memory
laid_cells m b zero = m
laid_cells m b (suc n) = put_field (laid_cells m b n) (field_at b n)

-- each of the first n fields lies inside the memory
abbrev pub Inside : List ℕ → ℕ → Type 0
Inside b n = (k : ℕ) → k < n → IfSome (field_at b k) (λ f. f.address + f.scalar.size ≤ 4096)

-- byte i of memory is one of field k's own
abbrev pub Has : List ℕ → ℕ → ℕ → Type 0
Has b k i = MatchOption (field_at b k) ⊥ (λ f. Owns f i)

-- field k has a byte of the object that byte i is part of in m
abbrev pub Cuts : Memory → List ℕ → ℕ → ℕ → Type 0
Cuts m b i k = (j : ℕ) × Has b k j × Together m i j

-- The cell of byte i, once n fields were placed over m. A byte of a field is that byte of an object of the field's kind and size.
-- A byte of no field is as before, unless its object had a byte in some field: then it is torn.
pub data Left (m : Memory) (b : List ℕ) (n i : ℕ) : Cell → Type 0 where
  own : (k : ℕ) (f : Field) → k < n → field_at b k ≡ Some f → Owns f i → Left m b n i (cell_of f.scalar.kind f.scalar.size (i - f.address))
  cut : Nowhere (λ k. Has b k i) n → Somewhere (Cuts m b i) n → Left m b n i torn
  kept : Nowhere (λ k. Has b k i) n → Nowhere (Cuts m b i) n → Left m b n i (m i)

-- What placing the fields of a granted body leaves of m, where all of them lie inside: each byte of memory is some field's own, cut or kept.
abbrev pub Laid : Memory → List ℕ → Memory → Type 0
Laid m b o = Allowed b (Ok tt) → Inside b (count_of b) → (i : ℕ) → Left m b (count_of b) i (o i)
