use Rattle.std.proofs.Common.{ℕ, sym, subst}
use lib.ListN.{length-replicate}
use Rattle.memory.specs.Tied.{Tied}
use Rattle.memory.proofs.Rows.{zeros_new}
use Rattle.memory.proofs.Tying.{tied_new}
use Rattle.memory.proofs.Reaching.{state_is, always_tied}
use Rattle.memory.proofs.Memory.new.Goals as goal

pub returns : goal.returns
returns g c =
    let is = state_is _ _ (zeros_new 4096 c.unwritten.result c.unwritten.ensures) c.new.ensures c.new-2.ensures in
    record { state = is; tied = subst Tied (sym is) tied_new; law = always_tied }
