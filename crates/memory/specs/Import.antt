-- The import of a packed record into a memory.
use Rattle.std.specs.Prelude.{◌≡◌, ℕ, zero, suc, ◌-◌, ◌<◌, false, List, Some, None, Ok, Err, Option, MatchOption}
use Rattle.refusal.specs.declared.Rule.TheVariants.{FieldInside}
use Rattle.refusal.specs.Refusals.{Answer, Refusal}
use Rattle.store.specs.declared.tags.Cell.{Cell}
use Rattle.store.specs.Cells.{Memory as Cells, cell_of, torn}
use Rattle.first.specs.First.{FirstAt, Nowhere, Somewhere}
use Rattle.areas.specs.declared.area.Area.{Area}
use Rattle.areas.specs.Area.{lawful}
use Rattle.areas.specs.Calls.{left}
use Rattle.layout.specs.declared.field.Field.{Field}
use Rattle.layout.specs.Fields.{Owns, byte_of, count_of, field_at}
use Rattle.layout.specs.Rules.{Allowed as GrantedBody}
use Rattle.layout.specs.Placing.{Cuts, Has, laid_cells}
use Rattle.memory.specs.Bytes.{Bytes, written}
use Rattle.memory.specs.State.{State, state_of}

-- 27: the field's bytes do not all lie in one open area
abbrev pub Unhoused : List Area → List ℕ → ℕ → Type 0
Unhoused xs b k = MatchOption (field_at b k) ⊥ (λ f. lawful xs f.address f.scalar.size ≡ false)

-- What the rules allow: first a body is refused as it is wherever it is imported, by 8, 9 or 10. Then 27 is tried over all its fields.
pub data Allowed (xs : List Area) (b : List ℕ) : Answer → Type 0 where
  wrong_body : (e : Refusal) → GrantedBody b (Err e) → Allowed xs b (Err e)
  no_area : (k : ℕ) → GrantedBody b (Ok tt) → FirstAt (Unhoused xs b) (count_of b) k → Allowed xs b (Err (FieldInside, k))
  granted : GrantedBody b (Ok tt) → Nowhere (Unhoused xs b) (count_of b) → Allowed xs b (Ok tt)

-- the bytes once the first n fields hold their reset values
abbrev pub write_field : Bytes → Option Field → Bytes
write_field f None = f
write_field f (Some x) = written f x.address x.reset x.scalar.size

abbrev pub laid_bytes : Bytes → List ℕ → ℕ → Bytes
laid_bytes f b zero = f
laid_bytes f b (suc n) = write_field (laid_bytes f b n) (field_at b n)

abbrev pub imports : State → List ℕ → State
imports s b = state_of (laid_bytes s.bytes b (count_of b)) (laid_cells s.cells b (count_of b)) s.areas

abbrev pub after_import : State → List ℕ → Answer → State
after_import s b r = left r (imports s b) s

-- The value and the cell of byte i, once n fields were placed over the bytes f and the cells m.
-- A byte of a field holds that byte of the reset value, and is that byte of an object of the field's kind and size.
-- A byte of no field keeps its value. It keeps its cell too, unless its object had a byte in some field: then it is torn.
pub data Left (f : Bytes) (m : Cells) (b : List ℕ) (n i : ℕ) : ℕ → Cell → Type 0 where
  own : (k : ℕ) (x : Field) → k < n → field_at b k ≡ Some x → Owns x i
      → Left f m b n i (byte_of x.reset (i - x.address)) (cell_of x.scalar.kind x.scalar.size (i - x.address))
  cut : Nowhere (λ k. Has b k i) n → Somewhere (Cuts m b i) n → Left f m b n i (f i) torn
  kept : Nowhere (λ k. Has b k i) n → Nowhere (Cuts m b i) n → Left f m b n i (f i) (m i)

-- what a granted import of b leaves of each byte of a memory
abbrev pub Imported : State → List ℕ → State → Type 0
Imported s b t = (i : ℕ) → Left s.bytes s.cells b (count_of b) i (t.bytes i) (t.cells i)
