-- The body of a packed record: a base address of 2 bytes, and then fields of 7 bytes, each a letter, an offset of 2 bytes and a reset value of 4.
-- Every number has its low byte first, and bytes past the end of a body read as 0.
use Rattle.std.specs.Prelude.{◌≡◌, ℕ, ◌+◌, ◌-◌, ◌*◌, ◌/◌, ◌%◌, ◌^◌, ◌≤◌, List, length, Option}
use Rattle.std.specs.Option.{option_map}
use Rattle.little_endian.specs.Numbers.{byte, two, four}
use Rattle.store.specs.declared.scalars.Scalar.{Scalar}
use Rattle.store.specs.Scalars.{scalar_of}
use Rattle.store.specs.Objects.{Among}
use Rattle.layout.specs.declared.field.Field.{Field}

-- where field k begins in a body
abbrev pub start_of : ℕ → ℕ
start_of k = 2 + 7 * k

-- the address of the field that begins at s: base plus offset, which does not wrap
abbrev pub address_of : List ℕ → ℕ → ℕ
address_of b s = two b 0 + two b (s + 1)

-- field k, if t is its type
abbrev pub field_of : List ℕ → ℕ → Scalar → Field
field_of b k t = record { scalar = t; address = address_of b (start_of k); reset = four b (start_of k + 3) }

-- field k, and none where there is no such letter
unfoldable pub field_at : List ℕ → ℕ → Option Field
field_at b k = option_map (field_of b k) (scalar_of (byte b (start_of k)))

-- the number of fields, and the lengths that a body may have: those of 1 to 64 fields
abbrev pub count_of : List ℕ → ℕ
count_of b = (length b - 2) / 7

abbrev pub Measured : List ℕ → Type 0
Measured b = (1 ≤ count_of b) × (count_of b ≤ 64) × (length b ≡ 2 + 7 * count_of b)

-- byte i of memory is one of the field's own
abbrev pub Owns : Field → ℕ → Type 0
Owns f i = Among f.address f.scalar.size i

-- byte j of a number, the low one first
abbrev pub byte_of : ℕ → ℕ → ℕ
byte_of x j = x / 256 ^ j % 256
