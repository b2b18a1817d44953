-- What the calls of a memory answer and leave.
use Rattle.std.specs.Prelude.{ℕ, Bool, cond, ◌&&◌, List, Some, None, Ok, Err, Option, nat_le}
use Rattle.refusal.specs.declared.Rule.TheVariants.{AreaOpen}
use Rattle.store.specs.declared.tags.Kind.{Kind}
use Rattle.store.specs.declared.tags.Kind.TheVariants.{Unallocated, Uninitialized}
use Rattle.store.specs.Cells.{number_of, placed, put}
use Rattle.store.specs.Reading.{kind_read}
use Rattle.areas.specs.declared.area.Area.{Area}
use Rattle.areas.specs.Area.{area_of, lawful}
use Rattle.areas.specs.Ordered.{found, inserted, without}
use Rattle.areas.specs.Calls.{Answer, left, open_answer}
use Rattle.memory.specs.Bytes.{cleared, value_at, written}
use Rattle.memory.specs.State.{State, state_of}

-- an area is opened: its bytes become uninitialized, and no byte changes its value
abbrev pub opens : State → ℕ → ℕ → State
opens s a n = state_of s.bytes (placed s.cells a Uninitialized n) (inserted (area_of a n) s.areas)

abbrev pub after_open : State → ℕ → ℕ → State
after_open s a n = left (open_answer s.areas a n) (opens s a n) s

-- an area is shut: its bytes become zero and unallocated
abbrev pub shuts : State → Area → State
shuts s x = state_of (cleared s.bytes x.start x.length) (placed s.cells x.start Unallocated x.length) (without x.start s.areas)

-- granted, or refused by 26
abbrev pub shut_answer : Option Area → Answer (Unit {0})
shut_answer (Some x) = Ok tt
shut_answer None = Err (AreaOpen, 0)

abbrev pub shut_found : State → Option Area → State
shut_found s (Some x) = shuts s x
shut_found s None = s

abbrev pub after_shut : State → ℕ → State
after_shut s a = shut_found s (found a s.areas)

-- the most bytes that one access has
abbrev pub widest : ℕ
widest = 4

abbrev pub is_access : ℕ → Bool
is_access n = nat_le 1 n && nat_le n widest

-- an access of n bytes at a that may be made: all of them lie in one open area
abbrev pub accessible : List Area → ℕ → ℕ → Bool
accessible xs a n = is_access n && lawful xs a n

-- the number in the bytes and the kind read from them
abbrev pub loaded : State → ℕ → ℕ → Option (ℕ × Kind)
loaded s a n = cond (accessible s.areas a n) (Some (value_at s.bytes a n, kind_read s.cells a n)) None

-- the n low bytes of the number v, placed with the kind
abbrev pub writes : State → ℕ → ℕ → ℕ → Kind → State
writes s a n v k = state_of (written s.bytes a v n) (put s.cells a (number_of k) n) s.areas

abbrev pub after_write : State → ℕ → ℕ → ℕ → Kind → State
after_write s a n v k = cond (accessible s.areas a n) (writes s a n v k) s
