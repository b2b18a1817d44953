use Rattle.mirror.proofs.Halves.{even_half, odd_half}
use Rattle.mirror.proofs.Mirrored.nibble.Goals as goal

pub returns-then-address-eq0 : goal.returns-then-address-eq0
returns-then-address-eq0 g c =
    even_half (g.Self.Cells.cells c.args.self.now) (g.met.Self.Cells.whole c.args.self.now) c.args.address c.in_ok-byte.byte c.in_ok-byte.ensures c.if-address-eq0.true

pub returns-else-address-eq0 : goal.returns-else-address-eq0
returns-else-address-eq0 g c =
    odd_half (g.Self.Cells.cells c.args.self.now) (g.met.Self.Cells.whole c.args.self.now) c.args.address c.in_ok-byte.byte c.in_ok-byte.ensures c.if-address-eq0.false
