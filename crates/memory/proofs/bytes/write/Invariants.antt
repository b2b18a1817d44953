use Rattle.std.proofs.Common.{◌≡◌, ◌/◌, ◌^◌}
use Rattle.memory.specs.Bytes.{held, written}
use Rattle.memory.proofs.bytes.write.Given as goal

abbrev pub invariant-loop-i : goal.invariant-loop-i
invariant-loop-i l = (held l.bytes ≡ written (held l.initial.bytes) l.at l.value l.i) × (l.rest ≡ l.value / 256 ^ l.i)
