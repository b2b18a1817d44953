use Rattle.std.proofs.Common.{◌≡◌, ℕ, ◌<◌, ◌≤◌, length, get_or}
use Rattle.search.specs.Paths.{Edge}
use Rattle.search_tests.specs.declared.Pair.{Pair}
use Rattle.search_tests.specs.Uses.{Linked}
use Rattle.search_tests.proofs.link.Given as goal

abbrev pub invariant-loop-pair : goal.invariant-loop-pair
invariant-loop-pair g l =
    let m = g.G.Graph in
    (l.guard.all.ghost_name ≡ l.initial.guard.all.ghost_name)
    × (length l.guard.all.now ≡ length l.initial.guard.all.now)
    × ((i : ℕ) (d : Pair) → i < l.pair-index → Linked (Edge (m.slots l.graph) (m.leads l.graph)) (get_or l.initial.pairs i d) (get_or l.pairs i d))
    × ((i : ℕ) (d : Pair) → l.pair-index ≤ i → get_or l.pairs i d ≡ get_or l.initial.pairs i d)
