use Rattle.std.proofs.Common.{sym, ap, ◌∙◌, arith}
use Rattle.store.proofs.Numbers.{asked_is}
use Rattle.memory.specs.Links.{is_pointer}
use Rattle.memory.proofs.Pointing.{pointer-within}
use Rattle.memory.proofs.links.Links.aim.Goals as goal

pub read-requires : goal.read-requires
read-requires g c =
    let l = c.args.self.now in
    let m = g.C.Cells.cells l.store.now in
    let p = c.args.at in
    let here = asked_is m p c.in_ok-cell.cell c.in_ok-cell.ensures in
    let within = pointer-within m (g.met.C.Cells.whole l.store.now) p c.requires (ap is_pointer here ∙ sym c.if-is_pointer.ensures) in
    record { within = omega (arith, l.long); few = omega arith }
