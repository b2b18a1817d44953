-- What makes a body bad, number by number, and the answers that the rules allow.
use Rattle.std.specs.Prelude.{ℕ, ◌^◌, ◌≤◌, List, IfSome, Ok, Err, MatchOption}
use Rattle.refusal.specs.declared.Rule.TheVariants.{LayoutLength, FieldForm, FieldsApart}
use Rattle.refusal.specs.Refusals.{Answer}
use Rattle.first.specs.First.{Nowhere, Somewhere, FirstAt}
use Rattle.layout.specs.declared.field.Field.{Field}
use Rattle.layout.specs.Fields.{field_at, count_of, Measured, Owns}

-- the field's reset value needs more bytes than its type has
abbrev pub TooLarge : Field → Type 0
TooLarge f = 256 ^ f.scalar.size ≤ f.reset

-- 9: there is no such letter, or the reset value is too large for it
abbrev pub Unfit : List ℕ → ℕ → Type 0
Unfit b k = IfSome (field_at b k) TooLarge

-- two fields have a byte of memory in common
abbrev pub Common : Field → Field → Type 0
Common f g = (i : ℕ) × Owns f i × Owns g i

-- 10: the field has a byte in common with an earlier one
abbrev pub Shared : List ℕ → ℕ → Type 0
Shared b k = MatchOption (field_at b k) ⊥ (λ f. Somewhere (λ j. MatchOption (field_at b j) ⊥ (λ e. Common e f)) k)

-- a body that breaks no rule
abbrev pub Accepted : List ℕ → Type 0
Accepted b = Measured b × Nowhere (Unfit b) (count_of b) × Nowhere (Shared b) (count_of b)

-- each rule is tried over all fields before the next, and the first bad field is named
pub data Allowed (b : List ℕ) : Answer → Type 0 where
  wrong_length : (Measured b → ⊥) → Allowed b (Err (LayoutLength, 0))
  unfit_field : (k : ℕ) → Measured b → FirstAt (Unfit b) (count_of b) k → Allowed b (Err (FieldForm, k))
  shared_byte : (k : ℕ) → Measured b → Nowhere (Unfit b) (count_of b) → FirstAt (Shared b) (count_of b) k → Allowed b (Err (FieldsApart, k))
  granted : Measured b → Nowhere (Unfit b) (count_of b) → Nowhere (Shared b) (count_of b) → Allowed b (Ok tt)
