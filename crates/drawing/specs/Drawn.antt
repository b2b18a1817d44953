-- What is drawn of a packed record, alone in a new memory of which all bytes may be used.
use Rattle.std.specs.Prelude.{◌≡◌, ℕ, zero, suc, ◌+◌, ◌-◌, ◌%◌, ◌<◌, ◌≤◌, min, max, cond, ◌⊎◌, List, Some, None, Ok, Err, Option, MatchOption, ◌==◌, nat_lt}
use Rattle.std.specs.Option.{option_map}
use Rattle.refusal.specs.declared.Rule.TheVariants.{FieldInside}
use Rattle.refusal.specs.Refusals.{Answer, Refusal}
use Rattle.store.specs.declared.tags.Cell.{Cell}
use Rattle.store.specs.Cells.{Memory, cell_of, unallocated}
use Rattle.mirror.specs.Nibbles.{nibble_of}
use Rattle.first.specs.First.{First, FirstAt, Nowhere}
use Rattle.layout.specs.declared.field.Field.{Field}
use Rattle.layout.specs.declared.layout.Layout.{Layout}
use Rattle.layout.specs.Fields.{field_at, count_of, Owns, byte_of}
use Rattle.layout.specs.Rules.{Allowed as Readable}
use Rattle.layout.specs.Placing.{Has}
use Rattle.drawing.specs.Fields.{Past}
use Rattle.drawing.specs.declared.row.Row.{Row}
use Rattle.drawing.specs.declared.row.Extent.{Extent}

-- field k of a layout, and none past its last
abbrev pub field_in : Layout → ℕ → Option Field
field_in l k = cond (nat_lt k l.count) (field_at l.body.now k) None

-- the rules of a layout first, and 27 after them
pub data Allowed (b : List ℕ) : Answer → Type 0 where
  unreadable : (e : Refusal) → Readable b (Err e) → Allowed b (Err e)
  past_memory : (k : ℕ) → Readable b (Ok tt) → FirstAt (Past b) (count_of b) k → Allowed b (Err (FieldInside, k))
  granted : Readable b (Ok tt) → Nowhere (Past b) (count_of b) → Allowed b (Ok tt)

-- The cell of byte i: a byte of a field is that byte of an object of the field's kind and size, and any other is unallocated.
pub data Shown (b : List ℕ) (i : ℕ) : Cell → Type 0 where
  own : (k : ℕ) (f : Field) → k < count_of b → field_at b k ≡ Some f → Owns f i → Shown b i (cell_of f.scalar.kind f.scalar.size (i - f.address))
  gap : Nowhere (λ k. Has b k i) (count_of b) → Shown b i unallocated

-- the byte of the reset value of field k that lies at i
abbrev pub reset_at : Layout → ℕ → Option ℕ → Option ℕ
reset_at l i None = None
reset_at l i (Some k) = option_map (λ f. byte_of f.reset (i - f.address)) (field_in l k)

-- field k of the layout has byte i
abbrev pub HasIn : Layout → ℕ → ℕ → Type 0
HasIn l i k = MatchOption (field_in l k) ⊥ (λ f. Owns f i)

-- the row of byte i, in a memory m: the field that has it, if any, its cell, its nibble in the mirror and its reset byte
pub record Drawn (m : Memory) (l : Layout) (i : ℕ) (r : Row) : Type 0 where
  pub inside : i < 4096
  pub address : r.address ≡ i
  pub field : First (HasIn l i) l.count r.field
  pub cell : r.cell ≡ m i
  pub nibble : r.nibble ≡ nibble_of (m i)
  pub reset : r.reset ≡ reset_at l i r.field

-- A row of a record in its own store: the cell is the one that the row's field gives the byte, and a gap is unallocated.
abbrev pub CellByField : List ℕ → ℕ → Option ℕ → Cell → Type 0
CellByField b i None c = c ≡ unallocated
CellByField b i (Some k) c = MatchOption (field_at b k) ⊥ (λ f. c ≡ cell_of f.scalar.kind f.scalar.size (i - f.address))

-- the bytes of a field, and whether the first has an odd address
abbrev pub extent_of : Field → Extent
extent_of f = record { scalar = f.scalar; first = f.address; last = f.address + f.scalar.size - 1; odd = (f.address % 2 == 1) }

-- where a field ends, and where the last of the first n fields does
abbrev pub ending : Option Field → ℕ
ending None = 0
ending (Some f) = f.address + f.scalar.size

abbrev pub end_of : Layout → ℕ → ℕ
end_of l zero = 0
end_of l (suc n) = max (end_of l n) (ending (field_in l n))

-- The end of a record, of which no more than the memory counts: no field ends later, and one ends there.
pub record Ends (l : Layout) (r : ℕ) : Type 0 where
  pub reaches : (k : ℕ) → k < l.count → min (ending (field_in l k)) 4096 ≤ r
  pub reached : (r ≡ 0) ⊎ ((k : ℕ) × (k < l.count) × (r ≡ min (ending (field_in l k)) 4096))
