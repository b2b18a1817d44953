-- The nibble mirror: which nibble an address has, and which cells nibbles stand for.
use Rattle.std.specs.Prelude.{ℕ, zero, suc, ◌+◌, ◌-◌, ◌*◌, ◌/◌, ◌%◌, ◌^◌, cond, List, Some, None, Option, ◌==◌, nat_lt, slice_index}
use Rattle.store.specs.declared.tags.Cell.{Cell}
use Rattle.store.specs.Cells.{Memory, cell_of, number_of, kind_of}

-- the base-2 logarithm, rounded down: how often n can be halved before it is below 2
abbrev pub halvings : ℕ → ℕ → ℕ
halvings zero n = 0
halvings (suc most) n = cond (nat_lt n 2) 0 (suc (halvings most (n / 2)))

abbrev pub log2 : ℕ → ℕ
log2 n = halvings n n

-- A cell's nibble: its kind's number in the first byte of an object, 8 and the logarithm of its size in the second, 8 in any further one.
abbrev pub nibble_of : Cell → ℕ
nibble_of c = cond (c.position == 0) (number_of c.kind) (cond (c.position == 1) (8 + log2 c.size) 8)

-- byte i of the mirror of a memory: the nibble of an even address in the low half, that of the odd one above it in the high half
abbrev pub mirrored : Memory → ℕ → ℕ
mirrored m i = nibble_of (m (2 * i)) + 16 * nibble_of (m (2 * i + 1))

abbrev pub byte_answer : Memory → ℕ → Option ℕ
byte_answer m i = cond (nat_lt i 2048) (Some (mirrored m i)) None

abbrev pub nibble_answer : Memory → ℕ → Option ℕ
nibble_answer m a = cond (nat_lt a 4096) (Some (nibble_of (m a))) None

-- the nibble of each address, in a row of bytes
abbrev pub nibbles : List ℕ → ℕ → ℕ
nibbles bytes i = cond (i % 2 == 0) (slice_index bytes (i / 2) % 16) (slice_index bytes (i / 2) / 16)

-- the position of byte i in its object: a first nibble is below 8, a second above 8, and a further one, 8, is one past the byte before
abbrev pub place_in : (ℕ → ℕ) → ℕ → ℕ
place_in f zero = 0
place_in f (suc i) = cond (nat_lt (f (suc i)) 8) 0 (cond (nat_lt 8 (f (suc i))) 1 (place_in f i + 1))

-- the size that the nibble after an object's first tells: 1 where that is the first of another
abbrev pub size_from : ℕ → ℕ
size_from x = 2 ^ (x - 8)

-- the cells that nibbles stand for
abbrev pub decoded : (ℕ → ℕ) → Memory
decoded f i = cell_of (kind_of (f (i - place_in f i))) (size_from (f (i - place_in f i + 1))) (place_in f i)
