-- The bytes of a memory, as a function of the address, and the numbers in them, the low byte first.
use Rattle.std.specs.Prelude.{ℕ, zero, suc, ◌+◌, ◌-◌, ◌*◌, cond, List, slice_index}
use Rattle.store.specs.Cells.{among}
use Rattle.layout.specs.Fields.{byte_of}

abbrev pub Bytes : Type 0
Bytes = ℕ → ℕ

-- the bytes of a row; past its end they read as 0
abbrev pub held : List ℕ → Bytes
held xs i = slice_index xs i

abbrev pub zeros : Bytes
zeros i = 0

-- the number v in the n bytes from a
abbrev pub written : Bytes → ℕ → ℕ → ℕ → Bytes
written f a v n i = cond (among a n i) (byte_of v (i - a)) (f i)

-- the n bytes from a at zero
abbrev pub cleared : Bytes → ℕ → ℕ → Bytes
cleared f a n i = cond (among a n i) 0 (f i)

-- the number in the n bytes from a
abbrev pub value_at : Bytes → ℕ → ℕ → ℕ
value_at f a zero = 0
value_at f a (suc n) = f a + 256 * value_at f (a + 1) n
