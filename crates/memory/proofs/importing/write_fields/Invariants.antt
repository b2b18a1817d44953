use Rattle.std.proofs.Common.{◌≡◌}
use Rattle.memory.specs.Bytes.{held}
use Rattle.memory.specs.Import.{laid_bytes}
use Rattle.memory.proofs.importing.write_fields.Given as goal

abbrev pub invariant-loop-k : goal.invariant-loop-k
invariant-loop-k l = held l.bytes ≡ laid_bytes (held l.initial.bytes) l.layout.body.now l.k
