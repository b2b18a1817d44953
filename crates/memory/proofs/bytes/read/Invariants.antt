use Rattle.std.proofs.Common.{◌≡◌, ◌+◌, ◌-◌, ◌^◌, ◌<◌}
use Rattle.memory.specs.Bytes.{held, value_at}
use Rattle.memory.proofs.bytes.read.Given as goal

abbrev pub invariant-loop-i : goal.invariant-loop-i
invariant-loop-i l = (l.value ≡ value_at (held l.bytes) (l.at + l.i) (l.size - l.i)) × (l.value < 256 ^ (l.size - l.i))
