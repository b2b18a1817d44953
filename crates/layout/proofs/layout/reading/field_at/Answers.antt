use Rattle.std.proofs.Common.{◌≡◌, ℕ, ◌+◌, List, get_or, Some, None, Option, ap, ◌∙◌}
use Rattle.std.specs.Option.{option_map}
use Rattle.store.specs.declared.scalars.Scalar.{Scalar}
use Rattle.store.specs.Scalars.{scalar_of}
use Rattle.layout.specs.declared.field.Field.{Field}
use Rattle.little_endian.specs.Numbers.{four}
use Rattle.layout.specs.Fields.{field_at, field_of, start_of, address_of}
use Rattle.layout.proofs.layout.reading.field_at.Goals as goal

-- the field whose letter is l
field_by : (b : List ℕ) (k l : ℕ) (o : Option Scalar) → o ≡ scalar_of l → l ≡ get_or b (start_of k) 0 → option_map (field_of b k) o ≡ field_at b k
unfolding field_at
field_by b k l o e h = ap (option_map (field_of b k)) (e ∙ ap scalar_of h)

-- a field from its parts
field_is : (b : List ℕ) (k : ℕ) (t : Scalar) (address reset : ℕ) → address ≡ address_of b (start_of k) → reset ≡ four b (start_of k + 3)
    → ◌≡◌ {A = Option Field} (Some (record { scalar = t; address = address; reset = reset })) (Some (field_of b k t))
field_is b k t address reset p q = λ i. Some (record { scalar = t; address = p i; reset = q i })

pub returns-in_err-scalar : goal.returns-in_err-scalar
returns-in_err-scalar c = c.from_residual.ensures ∙ field_by c.args.body.now c.args.k c.byte_at.result None c.in_err-scalar.ensures c.byte_at.ensures

pub returns : goal.returns
returns c =
    field_is c.args.body.now c.args.k c.in_ok-scalar.scalar c.address_at.result c.u32_at.result c.address_at.ensures c.u32_at.ensures
    ∙ field_by c.args.body.now c.args.k c.byte_at.result (Some c.in_ok-scalar.scalar) c.in_ok-scalar.ensures c.byte_at.ensures
