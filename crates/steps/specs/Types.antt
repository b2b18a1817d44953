-- The types that steps and their operands have.
use Rattle.std.specs.Prelude.{ℕ, Bool, not, ◌&&◌, ◌==◌}
use Rattle.store.specs.declared.tags.Kind.{Kind}
use Rattle.store.specs.declared.tags.Kind.TheVariants.{Integral, Pointer}
use Rattle.store.specs.declared.scalars.Scalar.{Scalar}
use Rattle.store.specs.Cells.{number_of}
use Rattle.steps.specs.declared.step.Takes.{Takes}
use Rattle.steps.specs.declared.step.Takes.TheVariants.{Exactly, OtherWord, OtherIntegral}

abbrev pub scalar : Kind → ℕ → Scalar
scalar k n = record { kind = k; size = n }

-- the types of the letters b, w and p
abbrev pub byte : Scalar
byte = scalar Integral 1

abbrev pub word : Scalar
word = scalar Integral 4

abbrev pub pointer : Scalar
pointer = scalar Pointer 4

abbrev pub same_type : Scalar → Scalar → Bool
same_type t u = number_of t.kind == number_of u.kind && t.size == u.size

-- b, h and w
abbrev pub is_integral : Scalar → Bool
is_integral t = number_of t.kind == 3

-- w, f and p: the types with the size of a pointer
abbrev pub is_word : Scalar → Bool
is_word t = t.size == 4

-- whether an operand takes a value of type u
abbrev pub accepts : Takes → Scalar → Bool
accepts (Exactly t) u = same_type u t
accepts (OtherWord t) u = is_word u && not (same_type u t)
accepts (OtherIntegral t) u = is_integral u && not (same_type u t)
