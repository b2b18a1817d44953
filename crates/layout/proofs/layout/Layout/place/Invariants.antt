use Rattle.std.proofs.Common.{◌≡◌}
use Rattle.layout.specs.Placing.{laid_cells}
use Rattle.layout.proofs.layout.Layout.place.Given as goal

abbrev pub invariant-loop-k : goal.invariant-loop-k
invariant-loop-k g l = g.S.Cells.cells l.store ≡ laid_cells (g.S.Cells.cells l.initial.store) l.self.body.now l.k
