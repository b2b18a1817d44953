-- What stands where in a map file: a count, that many entries of 5 bytes, and the bodies.
use Rattle.std.specs.Prelude.{ℕ, zero, suc, ◌+◌, ◌*◌, List, [], ◌++◌, take, drop}
use Rattle.little_endian.specs.Numbers.{byte, two}

-- how many entries there are
abbrev pub entry_count : List ℕ → ℕ
entry_count file = byte file 0

-- an entry: its letter, its body's offset in the file, its body's length
abbrev pub letter_at : List ℕ → ℕ → ℕ
letter_at file i = byte file (1 + 5 * i)

abbrev pub offset_at : List ℕ → ℕ → ℕ
offset_at file i = two file (2 + 5 * i)

abbrev pub length_at : List ℕ → ℕ → ℕ
length_at file i = two file (4 + 5 * i)

abbrev pub body_at : List ℕ → ℕ → List ℕ
body_at file i = take (length_at file i) (drop (offset_at file i) file)

abbrev pub end_at : List ℕ → ℕ → ℕ
end_at file i = offset_at file i + length_at file i

-- the count and the entries stand before the first body
abbrev pub header_length : List ℕ → ℕ
header_length file = 1 + 5 * entry_count file

abbrev pub header : List ℕ → List ℕ
header file = take (header_length file) file

-- where body i has to begin: behind the header, or where the body before it ended
abbrev pub due_at : List ℕ → ℕ → ℕ
due_at file zero = header_length file
due_at file (suc i) = end_at file i

-- the first n bodies, one after another
abbrev pub bodies : List ℕ → ℕ → List ℕ
bodies file zero = []
bodies file (suc n) = bodies file n ++ body_at file n
