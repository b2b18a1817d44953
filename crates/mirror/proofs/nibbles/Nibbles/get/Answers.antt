use Rattle.std.proofs.Common.{sym, arith, rules}
use Rattle.mirror.proofs.Decoding.{nibble_past}
use Rattle.mirror.proofs.nibbles.Nibbles.get.Goals as goal

pub returns-then-i-ge2048 : goal.returns-then-i-ge2048
returns-then-i-ge2048 c = record { value = sym (nibble_past c.args.self.now.bytes c.args.i (search rules) (omega arith)); small = omega arith }
