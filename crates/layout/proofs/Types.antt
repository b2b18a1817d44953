-- What the type of a field tells, over its kind and size. Assumes nothing.
use Rattle.std.proofs.Common.{◌≡◌, ℕ, ◌+◌, ◌<◌, ◌≤◌, Bool, true, false, cond, eqb, List, get_or, IfSome, Some, None, Option, refl, ap, ◌∙◌, subst, arith}
use Rattle.std.proofs.lemmas.Bool.Decides.{nat_tests}
use Rattle.std.specs.Option.{option_map}
use Rattle.store.specs.declared.scalars.Scalar.{Scalar}
use Rattle.store.specs.declared.tags.Kind.{Kind}
use Rattle.store.specs.declared.tags.Kind.TheVariants.{Unallocated, Uninitialized, Zero, Integral, Real, Pointer, Torn}
use Rattle.store.specs.Cells.{Memory, kind_of, number_of, is_size, sized, single, refused, put, placed}
use Rattle.store.specs.Scalars.{scalar_of}
use Rattle.store.proofs.Numbers.{kind_number, size_of}
use Rattle.layout.specs.declared.field.Field.{Field}
use Rattle.layout.specs.Fields.{field_at, field_of, start_of}

-- the type is that of one object: its kind is not one of single bytes, and may have its size
pub record WholeTyped (t : Scalar) : Type 0 where
  pub sized_so : sized t.kind t.size ≡ true
  pub many : single t.kind ≡ false

abbrev Known : Option Scalar → Type 0
Known o = IfSome o WholeTyped

-- one letter more, whose type is t
letter : (b : Bool) (t : Scalar) (o : Option Scalar) → WholeTyped t → Known o → Known (cond b (Some t) o)
letter true t o h g = h
letter false t o h g = g

letters : (l : ℕ) → Known (scalar_of l)
letters l =
    letter (eqb l 98) _ _ (record { sized_so = refl; many = refl })
    (letter (eqb l 104) _ _ (record { sized_so = refl; many = refl })
    (letter (eqb l 119) _ _ (record { sized_so = refl; many = refl })
    (letter (eqb l 102) _ _ (record { sized_so = refl; many = refl })
    (letter (eqb l 112) _ None (record { sized_so = refl; many = refl }) tt))))

pub field-typed : (b : List ℕ) (k : ℕ) (f : Field) → field_at b k ≡ Some f → WholeTyped f.scalar
unfolding field_at
field-typed b k f e = go (scalar_of (get_or b (start_of k) 0)) (letters (get_or b (start_of k) 0)) e
  where
    go : (o : Option Scalar) → IfSome o WholeTyped → option_map (field_of b k) o ≡ Some f → WholeTyped f.scalar
    go None h e = let no_such : ◌≡◌ {A = ℕ} 0 1 = cc in absurd (omega arith)
    go (Some t) h e = let same : field_of b k t ≡ f = cc in subst WholeTyped (ap (λ x. x.scalar) same) h

some_bytes : (n : ℕ) → is_size n ≡ true → 0 < n
some_bytes n h = grind (arith, nat_tests)

pub typed-some : (t : Scalar) → WholeTyped t → 0 < t.size
typed-some t h = some_bytes t.size (size_of t.kind t.size h.sized_so)

-- an object that fits into memory may be placed there
placeable : (k : Kind) (a n : ℕ) → sized k n ≡ true → a + n ≤ 4096 → refused a (number_of k) n ≡ false
placeable Unallocated a n s h = grind (arith, nat_tests)
placeable Uninitialized a n s h = grind (arith, nat_tests)
placeable Zero a n s h = grind (arith, nat_tests)
placeable Integral a n s h = grind (arith, nat_tests)
placeable Real a n s h = grind (arith, nat_tests)
placeable Pointer a n s h = grind (arith, nat_tests)
placeable Torn a n s h = grind (arith, nat_tests)

pub put-placed : (m : Memory) (a : ℕ) (t : Scalar) → WholeTyped t → a + t.size ≤ 4096 → put m a (number_of t.kind) t.size ≡ placed m a t.kind t.size
put-placed m a t h l =
    ap (λ r. cond r m (placed m a (kind_of (number_of t.kind)) t.size)) (placeable t.kind a t.size h.sized_so l)
    ∙ ap (λ k. placed m a k t.size) (kind_number t.kind)
