use Rattle.std.proofs.Common.{◌≡◌, ℕ, ◌<◌, false, length, get_or}
use Rattle.search.specs.Paths.{Edge}
use Rattle.search_tests.specs.Uses.{Near}
use Rattle.search_tests.proofs.reach.Given as goal

abbrev pub invariant-loop-node : goal.invariant-loop-node
invariant-loop-node g l =
    let m = g.G.Graph in
    (length l.near ≡ 32)
    × ((i : ℕ) → i < l.node → Near (Edge (m.slots l.graph) (m.leads l.graph)) l.from i (get_or l.near i false))
