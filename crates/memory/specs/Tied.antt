-- How bytes, cells and areas agree in every memory that calls can make.
use Rattle.std.specs.Prelude.{◌≡◌, ℕ, ◌+◌, Bool, true, false, ◌&&◌, List, Some, ◌≢◌, nat_le}
use Rattle.refusal.specs.Refusals.{Answer}
use Rattle.store.specs.declared.tags.Kind.{Kind}
use Rattle.store.specs.declared.tags.Kind.TheVariants.{Unallocated}
use Rattle.store.specs.declared.tags.Cell.{Cell}
use Rattle.store.specs.Cells.{among, unallocated}
use Rattle.areas.specs.declared.area.Area.{Area}
use Rattle.areas.specs.Area.{any, lawful}
use Rattle.areas.specs.Ordered.{found}
use Rattle.memory.specs.State.{State, blank}
use Rattle.memory.specs.Rules.{after_open, after_shut, after_write}
use Rattle.memory.specs.Import.{Allowed, after_import}

-- byte i lies in an open area
abbrev pub inside : List Area → ℕ → Bool
inside xs i = lawful xs i 1

-- the object of byte i, whose cell is c, lies in the area
abbrev pub houses : ℕ → Cell → Area → Bool
houses i c x = nat_le (x.start + c.position) i && nat_le (i + c.size) (x.start + x.length + c.position)

-- A byte in no open area is unallocated and 0. A byte in an open area is not unallocated, and its object lies in one open area.
pub record Tied (s : State) : Type 0 where
  pub bare : (i : ℕ) → inside s.areas i ≡ false → s.cells i ≡ unallocated
  pub clean : (i : ℕ) → inside s.areas i ≡ false → s.bytes i ≡ 0
  pub used : (i : ℕ) → inside s.areas i ≡ true → (s.cells i).kind ≢ Unallocated
  pub housed : (i : ℕ) → inside s.areas i ≡ true → any (houses i (s.cells i)) s.areas ≡ true

-- outside the n bytes from a, every byte and every cell is as it was
abbrev pub UnchangedOutside : ℕ → ℕ → State → State → Type 0
UnchangedOutside a n s t = (i : ℕ) → among a n i ≡ false → (t.bytes i ≡ s.bytes i) × (t.cells i ≡ s.cells i)

-- In a tied memory, opening or shutting an area changes nothing outside it: no object there has a byte inside.
abbrev pub OpenAlone : ℕ → ℕ → State → State → Type 0
OpenAlone a n s t = Tied s → UnchangedOutside a n s t

abbrev pub ShutAlone : ℕ → State → State → Type 0
ShutAlone a s t = (x : Area) → found a s.areas ≡ Some x → Tied s → UnchangedOutside a x.length s t

-- The states that calls can make of a new memory, granted or refused. A write is of any kind but unallocated, which no reading of a tied memory gives.
pub data Reached : State → Type 0 where
  made : Reached blank
  opening : {s : State} → Reached s → (a n : ℕ) → Reached (after_open s a n)
  shutting : {s : State} → Reached s → (a : ℕ) → Reached (after_shut s a)
  importing : {s : State} → Reached s → (b : List ℕ) (r : Answer) → Allowed s.areas b r → Reached (after_import s b r)
  writing : {s : State} → Reached s → (a n v : ℕ) (k : Kind) → (k ≢ Unallocated) → Reached (after_write s a n v k)

-- every memory that calls can make is tied
abbrev pub AlwaysTied : Type 0
AlwaysTied = (s : State) → Reached s → Tied s
