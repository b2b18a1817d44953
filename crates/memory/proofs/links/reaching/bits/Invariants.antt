use Rattle.std.proofs.Common.{◌≡◌, ℕ, ◌+◌, ◌-◌, ◌^◌, ◌<◌, ◌&&◌, ◌||◌, eqb, ltb}
use Rattle.search.specs.Marks.{marked}
use Rattle.memory.specs.Links.{bit}
use Rattle.memory.proofs.links.reaching.bits.Given as goal

-- the bits so far tell of the nodes from i on
abbrev pub invariant-loop-i : goal.invariant-loop-i
invariant-loop-i l =
    (l.all < 2 ^ (l.count - l.i))
    × ((d : ℕ) → bit l.all d ≡ (ltb (l.i + d) l.count && (eqb (l.i + d) l.from || marked l.marks.all.now (l.i + d))))
