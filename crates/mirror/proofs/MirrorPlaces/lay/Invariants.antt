use Rattle.std.proofs.Common.{◌≡◌, ℕ, cond, ◌&&◌, ltb, leb}
use Rattle.store.specs.Placing.{laid}
use Rattle.mirror.specs.Nibbles.{nibbles, nibble_of}
use Rattle.mirror.proofs.MirrorPlaces.lay.Given as goal

-- from low to i each nibble is laid, and any other is as it was
abbrev pub invariant-loop-i : goal.invariant-loop-i
invariant-loop-i l =
    (j : ℕ) → nibbles l.row.bytes j ≡ cond (leb l.low j && ltb j l.i) (nibble_of (laid l.placing j)) (nibbles l.initial.row.bytes j)
