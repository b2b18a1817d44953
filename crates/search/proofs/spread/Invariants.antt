use Rattle.std.proofs.Common.{◌≡◌, ◌-◌}
use Rattle.search.specs.Paths.{Edge}
use Rattle.search.proofs.Frontier.{Frontier, Following}
use Rattle.search.proofs.spread.Given as goal

abbrev pub invariant-loop-node : goal.invariant-loop-node
invariant-loop-node g l =
    let m = g.G.Graph in
    Frontier (Edge (m.slots l.graph) (m.leads l.graph)) 256 l.from l.marks l.queue.nodes l.queue.head l.queue.tail

abbrev pub decreases-loop-node : goal.decreases-loop-node
decreases-loop-node g l = 256 - l.queue.head

abbrev pub invariant-loop-slot : goal.invariant-loop-slot
invariant-loop-slot g l =
    let m = g.G.Graph in
    (l.queue.head ≡ l.initial.queue.head)
    × Following (m.slots l.graph) (m.leads l.graph) 256 l.from l.marks l.queue.nodes l.queue.head l.queue.tail l.node l.slot
