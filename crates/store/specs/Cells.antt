-- The rules of tag stores. A store means a cell for each address; past its 4,096 bytes every cell is unallocated.
use Rattle.std.specs.Prelude.{◌≡◌, ℕ, ◌+◌, ◌-◌, ◌≤◌, Bool, true, false, cond, not, ◌&&◌, ◌||◌, List, codes, Some, None, Ok, Err, Option, Result, ◌==◌, nat_le, nat_lt}
use Rattle.refusal.specs.declared.Rule.TheVariants.{Placing as PlacingRule}
use Rattle.refusal.specs.Refusals.{Refusal}
use Rattle.store.specs.declared.tags.Kind.{Kind}
use Rattle.store.specs.declared.tags.Kind.TheVariants.{Unallocated, Uninitialized, Zero, Integral, Real, Pointer, Torn}
use Rattle.store.specs.declared.tags.Cell.{Cell}
use Rattle.store.specs.declared.tags.UnknownKind.{UnknownKind}

abbrev pub Memory : Type 0
Memory = ℕ → Cell

abbrev pub cell_of : Kind → ℕ → ℕ → Cell
cell_of k n p = record { kind = k; size = n; position = p }

abbrev pub unallocated : Cell
unallocated = cell_of Unallocated 1 0

-- what is left of an object that was cut: each byte is an object of its own
abbrev pub torn : Cell
torn = cell_of Torn 1 0

-- the memory of a new store
abbrev pub empty : Memory
empty i = unallocated

abbrev pub number_of : Kind → ℕ
number_of Unallocated = 0
number_of Uninitialized = 1
number_of Zero = 2
number_of Integral = 3
number_of Real = 4
number_of Pointer = 5
number_of Torn = 6

-- the kind of a number up to 6; where this is used, a number above 6 is refused
abbrev pub kind_of : ℕ → Kind
kind_of k =
    cond (k == 0) Unallocated (cond (k == 1) Uninitialized (cond (k == 2) Zero
    (cond (k == 3) Integral (cond (k == 4) Real (cond (k == 5) Pointer Torn)))))

-- the word for a kind, as it is printed
abbrev pub kind_word : Kind → List ℕ
kind_word Unallocated = codes "unallocated"
kind_word Uninitialized = codes "uninitialized"
kind_word Zero = codes "zero"
kind_word Integral = codes "integral"
kind_word Real = codes "real"
kind_word Pointer = codes "pointer"
kind_word Torn = codes "torn"

-- the answer to which kind has a number
abbrev pub kind_answer : ℕ → Result Kind UnknownKind
kind_answer n = cond (nat_le n 6) (Ok (kind_of n)) (Err (record { 0 = n }))

-- the sizes of objects, in bytes
abbrev pub is_size : ℕ → Bool
is_size n = n == 1 || (n == 2 || n == 4)

-- the sizes that an object of the kind may have
abbrev pub sized : Kind → ℕ → Bool
sized Unallocated n = n == 1
sized Uninitialized n = n == 1
sized Zero n = n == 1
sized Integral n = is_size n
sized Real n = n == 4
sized Pointer n = n == 4
sized Torn n = n == 1

-- the kinds whose objects have one byte each, so that placing one over n bytes makes n objects
abbrev pub single : Kind → Bool
single Unallocated = true
single Uninitialized = true
single Zero = true
single Integral = false
single Real = false
single Pointer = false
single Torn = true

-- the sizes over which the kind may be placed
abbrev pub fitting : Kind → ℕ → Bool
fitting k n = cond (single k) (is_size n) (sized k n)

-- the cell that placing the kind over n bytes gives the one at position j
abbrev pub fresh : Kind → ℕ → ℕ → Cell
fresh k n j = cond (single k) (cell_of k 1 0) (cell_of k n j)

-- i is one of the n bytes from a
abbrev pub among : ℕ → ℕ → ℕ → Bool
among a n i = nat_le a i && nat_lt i (a + n)

-- The object of byte i, whose cell is c, has a byte among the n from a: it begins at i - position, below a + n, and ends above a.
abbrev pub touched : ℕ → ℕ → ℕ → Cell → Bool
touched a n i c = nat_lt i (a + n + c.position) && nat_lt (a + c.position) (i + c.size)

-- A placing makes its bytes fresh. A byte outside whose object had a byte inside becomes torn. Every other cell stays.
abbrev pub placed : Memory → ℕ → Kind → ℕ → Memory
placed m a k n i = cond (among a n i) (fresh k n (i - a)) (cond (touched a n i (m i)) torn (m i))

-- A placing is refused for an address or a last byte above 4,095, a kind number above 6, a size that no object has, or a real or a pointer of another size than 4.
abbrev pub refused : ℕ → ℕ → ℕ → Bool
refused a k n =
    (nat_lt 4095 a || nat_lt 4096 (a + n)) || (nat_lt 6 k || (not (is_size n) || ((k == 4 || k == 5) && not (n == 4))))

-- what placing kind number k over n bytes from a leaves, and what it answers
abbrev pub put : Memory → ℕ → ℕ → ℕ → Memory
put m a k n = cond (refused a k n) m (placed m a (kind_of k) n)

abbrev pub reply : ℕ → ℕ → ℕ → Result (Unit {0}) Refusal
reply a k n = cond (refused a k n) (Err (PlacingRule, 0)) (Ok tt)

-- the answer to a question for the cell of an address
abbrev pub asked : Memory → ℕ → Option Cell
asked m a = cond (nat_lt a 4096) (Some (m a)) None

-- a cell that may stand: its size is one of its kind, and its position lies within
abbrev pub sound : Cell → Bool
sound c = sized c.kind c.size && nat_lt c.position c.size

-- d may follow c: it is the next byte of the same object, or, after its last byte, the first of another
abbrev pub next : Cell → Cell → Bool
next c d =
    cond (nat_lt (c.position + 1) c.size)
    (number_of d.kind == number_of c.kind && (d.size == c.size && d.position == c.position + 1))
    (d.position == 0)

abbrev pub blank : Cell → Bool
blank c = number_of c.kind == 0 && (c.size == 1 && c.position == 0)

-- Memory is divided into whole objects, told by neighbouring bytes, and ends at 4,096.
abbrev pub Whole : Memory → Type 0
Whole m =
    ((m 0).position ≡ 0)
    × ((i : ℕ) → sound (m i) ≡ true)
    × ((i : ℕ) → next (m i) (m (i + 1)) ≡ true)
    × ((i : ℕ) → 4096 ≤ i → blank (m i) ≡ true)
