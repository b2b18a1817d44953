-- Numbers in bytes, the low byte first. Bytes past the end read as 0.
use Rattle.std.specs.Prelude.{ℕ, ◌+◌, ◌*◌, List, slice_index}

abbrev pub byte : List ℕ → ℕ → ℕ
byte bs i = slice_index bs i

-- the numbers that two and four bytes from i on stand for
abbrev pub two : List ℕ → ℕ → ℕ
two bs i = byte bs i + 256 * byte bs (i + 1)

abbrev pub four : List ℕ → ℕ → ℕ
four bs i = byte bs i + 256 * byte bs (i + 1) + 65536 * byte bs (i + 2) + 16777216 * byte bs (i + 3)
