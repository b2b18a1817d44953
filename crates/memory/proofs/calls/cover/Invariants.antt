use Rattle.std.proofs.Common.{◌≡◌}
use Rattle.memory.proofs.Covering.{spread}
use Rattle.memory.proofs.calls.cover.Given as goal

abbrev pub invariant-loop-i : goal.invariant-loop-i
invariant-loop-i g l = g.S.Cells.cells l.store ≡ spread (g.S.Cells.cells l.initial.store) l.at l.kind l.i
