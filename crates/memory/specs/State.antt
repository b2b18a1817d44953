-- A memory as the rules see it: its bytes, its cells and its open areas.
use Rattle.std.specs.Prelude.{List, []}
use Rattle.store.specs.Cells.{Memory as Cells, empty}
use Rattle.areas.specs.declared.area.Area.{Area}
use Rattle.areas.specs.Calls.{opened}
use Rattle.memory.specs.declared.Memory.{Memory}
use Rattle.memory.specs.Bytes.{Bytes, held, zeros}

pub record State : Type 0 where
  pub bytes : Bytes
  pub cells : Cells
  pub areas : List Area

abbrev pub state_of : Bytes → Cells → List Area → State
state_of f m xs = record { bytes = f; cells = m; areas = xs }

-- the state of a memory whose store means its cells by `cells`
abbrev pub view : {S : Type 0} → (S → Cells) → Memory S → State
view cells s = state_of (held s.bytes) (cells s.store) (opened s.areas)

-- a new memory: zero bytes, all unallocated, and no area
abbrev pub blank : State
blank = state_of zeros empty []
