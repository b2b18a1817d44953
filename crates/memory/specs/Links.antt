-- Which areas lead to which.
use Rattle.std.specs.Prelude.{◌≡◌, ℕ, ◌+◌, ◌/◌, ◌%◌, ◌^◌, ◌<◌, ◌≤◌, Bool, cond, ◌&&◌, ◌⊎◌, Some, None, Ok, Err, Decides, Option, Result, ◌==◌, nat_lt}
use Rattle.std.specs.List.{slice_get}
use Rattle.refusal.specs.declared.Rule.TheVariants.{Marks as MarksRule, AreaOpen}
use Rattle.refusal.specs.Refusals.{Refusal}
use Rattle.store.specs.declared.tags.Kind.TheVariants.{Pointer}
use Rattle.store.specs.declared.tags.Cell.{Cell}
use Rattle.store.specs.Cells.{Memory as Cells, number_of}
use Rattle.store.specs.Objects.{Among, Object}
use Rattle.search.specs.Paths.{Walk}
use Rattle.areas.specs.declared.area.Area.{Area}
use Rattle.areas.specs.Area.{begins, holds}
use Rattle.areas.specs.Ordered.{index_of}
use Rattle.areas.specs.Calls.{opened}
use Rattle.memory.specs.declared.links.Links.{Links}
use Rattle.memory.specs.Bytes.{held, value_at}
use Rattle.memory.specs.State.{State, state_of}

-- Area i leads to area j: some pointer object that begins in i holds an address in j.
pub record Leads (s : State) (i j : ℕ) : Type 0 where
  pub source : Area
  pub goal : Area
  pub pointer : ℕ
  pub from : slice_get s.areas i ≡ Some source
  pub to : slice_get s.areas j ≡ Some goal
  pub inside : Among source.start source.length pointer
  pub object : Object s.cells pointer Pointer 4
  pub address : Among goal.start goal.length (value_at s.bytes pointer 4)

-- area j is area i, or can be reached from it
abbrev pub Reaches : State → ℕ → ℕ → Type 0
Reaches s i j = (j ≡ i) ⊎ Walk (Leads s) i j

-- bit j of a number
unfoldable pub bit : ℕ → ℕ → Bool
bit w j = w / 2 ^ j % 2 == 1

-- The answer to which areas the one at a leads to, with n marks.
pub data Reach (s : State) (a n : ℕ) : Result ℕ Refusal → Type 0 where
  few_marks : n < 256 → Reach s a n (Err (MarksRule, 0))
  no_area : 256 ≤ n → index_of (begins a) s.areas ≡ None → Reach s a n (Err (AreaOpen, 0))
  reached : (i w : ℕ) → 256 ≤ n → index_of (begins a) s.areas ≡ Some i → ((j : ℕ) → Decides (bit w j) (Reaches s i j)) → Reach s a n (Ok w)

-- The graph that is searched: its slots are proved to lead where the areas do.

-- what the view of a memory stands for
abbrev pub linked : {C : Type 0} → (C → Cells) → Links C → State
linked cells l = state_of (held l.bytes.now) (cells l.store.now) (opened l.areas.now)

-- a slot for each byte of an area
abbrev pub size_of : Option Area → ℕ
size_of None = 0
size_of (Some x) = x.length

abbrev pub slots_of : State → ℕ → ℕ
slots_of s i = size_of (slice_get s.areas i)

-- a pointer begins at the cell
abbrev pub is_pointer : Cell → Bool
is_pointer c = number_of c.kind == number_of Pointer && c.position == 0

-- the area that the byte leads to: that of the address in the pointer that begins there
abbrev pub aims : State → ℕ → Option ℕ
aims s p = cond (is_pointer (s.cells p)) (index_of (holds (value_at s.bytes p 4) 1) s.areas) None

abbrev pub aims_from : State → Option Area → ℕ → Option ℕ
aims_from s None k = None
aims_from s (Some x) k = aims s (x.start + k)

abbrev pub leads_of : State → ℕ → ℕ → Option ℕ
leads_of s i k = aims_from s (slice_get s.areas i) k

-- the bits of a number show the test for each place below n
abbrev pub Shows : (ℕ → Bool) → ℕ → ℕ → Type 0
Shows t n w = (j : ℕ) → bit w j ≡ (nat_lt j n && t j)
