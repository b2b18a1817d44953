-- A graph with slots taken away, so that its paths are those with no stop between their ends. Assumes nothing.
use Rattle.std.specs.Prelude.{ℕ, Bool, cond, not, ◌&&◌, ◌==◌}

-- Every stop loses its slots, unless it is the start.
abbrev pub open_slots : (ℕ → Bool) → ℕ → (ℕ → ℕ) → ℕ → ℕ
open_slots stop from slots i = cond (stop i && not (i == from)) 0 (slots i)
