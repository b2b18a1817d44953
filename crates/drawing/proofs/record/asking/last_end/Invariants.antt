use Rattle.std.proofs.Common.{◌≡◌}
use Rattle.drawing.specs.Drawn.{end_of}
use Rattle.drawing.proofs.record.asking.last_end.Given as goal

abbrev pub invariant-loop-k : goal.invariant-loop-k
invariant-loop-k l = l.end ≡ end_of l.layout l.k
