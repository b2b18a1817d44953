-- Fields that lie past the memory.
use Rattle.std.specs.Prelude.{ℕ, ◌+◌, ◌<◌, List, MatchOption}
use Rattle.layout.specs.Fields.{field_at}

-- the field does not lie inside the memory, which counts as one open area
abbrev pub Past : List ℕ → ℕ → Type 0
Past b k = MatchOption (field_at b k) ⊥ (λ f. 4096 < f.address + f.scalar.size)
