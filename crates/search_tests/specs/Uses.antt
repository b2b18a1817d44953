-- What is asked of the two uses that read many marks. Assumes nothing.
use Rattle.std.specs.Prelude.{◌≡◌, ℕ, ◌<◌, ◌≤◌, Bool, false, ◌⊎◌, List, length, Ok, Err, Decides, Result, slice_index_or}
use Rattle.refusal.specs.Refusals.{Refusal}
use Rattle.search.specs.Paths.{Walk}
use Rattle.search.specs.Marks.{Few}
use Rattle.search_tests.specs.declared.Pair.{Pair}

-- A pair as it was, answered by whether a path leads from its one end to the other.
pub record Linked (edge : ℕ → ℕ → Type 0) (old new : Pair) : Type 0 where
  pub from : new.from ≡ old.from
  pub to : new.to ≡ old.to
  pub linked : Decides new.linked (Walk edge new.from new.to)

abbrev pub AllLinked : (ℕ → ℕ → Type 0) → ℕ → List Pair → List Pair → Result (Unit {0}) Refusal → Type 0
AllLinked edge n old new (Ok _) = (256 ≤ n) × ((i : ℕ) (d : Pair) → i < length old → Linked edge (slice_index_or old i d) (slice_index_or new i d))
AllLinked edge n old new (Err e) = Few n e × (new ≡ old)

-- The first 32 nodes, each with whether it is the start or a path leads to it.
abbrev pub Near : (ℕ → ℕ → Type 0) → ℕ → ℕ → Bool → Type 0
Near edge from i b = Decides b ((i ≡ from) ⊎ Walk edge from i)

abbrev pub AllNear : (ℕ → ℕ → Type 0) → ℕ → ℕ → List Bool → List Bool → Result (Unit {0}) Refusal → Type 0
AllNear edge from n old new (Ok _) = (256 ≤ n) × ((i : ℕ) → i < 32 → Near edge from i (slice_index_or new i false))
AllNear edge from n old new (Err e) = Few n e × (new ≡ old)
