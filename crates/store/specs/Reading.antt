-- The kind that bytes are read as.
use Rattle.std.specs.Prelude.{ℕ, zero, suc, ◌+◌, Bool, true, cond, ◌&&◌, Some, None, Option, ◌==◌, nat_le}
use Rattle.store.specs.declared.tags.Kind.{Kind}
use Rattle.store.specs.declared.tags.Kind.TheVariants.{Uninitialized, Zero, Torn}
use Rattle.store.specs.Cells.{Memory, number_of}

abbrev pub same : Kind → Kind → Bool
same k l = number_of k == number_of l

-- each of the n bytes from a has the kind
abbrev pub all_of : Memory → Kind → ℕ → ℕ → Bool
all_of m k a zero = true
all_of m k a (suc n) = all_of m k a n && same (m (a + n)).kind k

-- Uninitialized or zero if all the n bytes from a have that kind. Otherwise the kind of an object of size n that starts at a, and torn if there is none.
abbrev pub kind_read : Memory → ℕ → ℕ → Kind
kind_read m a n =
    cond (all_of m Uninitialized a n) Uninitialized
    (cond (all_of m Zero a n) Zero
    (cond ((m a).position == 0 && (m a).size == n) (m a).kind Torn))

-- the answer to a reading: none where there are no bytes, or not all lie in memory
abbrev pub read_answer : Memory → ℕ → ℕ → Option Kind
read_answer m a n = cond (nat_le 1 n && nat_le (a + n) 4096) (Some (kind_read m a n)) None
