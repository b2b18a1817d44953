-- The types of fields and values, by the codes of their letters: b, h and w are integrals of 1, 2 and 4 bytes, f is a real and p a pointer, of 4 bytes each.
use Rattle.std.specs.Prelude.{ℕ, cond, Some, None, Option, ◌==◌}
use Rattle.store.specs.declared.tags.Kind.{Kind}
use Rattle.store.specs.declared.tags.Kind.TheVariants.{Unallocated, Uninitialized, Zero, Integral, Real, Pointer, Torn}
use Rattle.store.specs.declared.scalars.Scalar.{Scalar}

abbrev pub typed : Kind → ℕ → Option Scalar
typed k n = Some (record { kind = k; size = n })

abbrev pub scalar_of : ℕ → Option Scalar
scalar_of l =
    cond (l == 98) (typed Integral 1)
    (cond (l == 104) (typed Integral 2)
    (cond (l == 119) (typed Integral 4)
    (cond (l == 102) (typed Real 4)
    (cond (l == 112) (typed Pointer 4) None))))

-- the letter that stands for a kind and a size, if one does
abbrev pub letter_by : Kind → ℕ → Option ℕ
letter_by Integral n = cond (n == 1) (Some 98) (cond (n == 2) (Some 104) (cond (n == 4) (Some 119) None))
letter_by Real n = cond (n == 4) (Some 102) None
letter_by Pointer n = cond (n == 4) (Some 112) None
letter_by Unallocated n = None
letter_by Uninitialized n = None
letter_by Zero n = None
letter_by Torn n = None

abbrev pub letter_for : Scalar → Option ℕ
letter_for t = letter_by t.kind t.size
