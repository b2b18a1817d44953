use Rattle.std.proofs.Common.{◌≡◌, ℕ, cond, ◌&&◌, ltb, leb, length}
use Rattle.store.specs.Placing.{laid}
use Rattle.flat.specs.Rows.{memory}
use Rattle.flat.proofs.FlatPlaces.lay.Given as goal

-- from low to i each cell is laid, and any other is as it was
abbrev pub invariant-loop-i : goal.invariant-loop-i
invariant-loop-i l =
    (length l.held ≡ 4096)
    × ((j : ℕ) → memory l.held j ≡ cond (leb l.low j && ltb j l.i) (laid l.placing j) (memory l.initial.held j))
