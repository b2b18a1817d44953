use Rattle.std.proofs.Common.{◌≡◌, ◌+◌, ap, ◌∙◌, refl, add-one, arith}
use Rattle.store.specs.Cells.{placed}
use Rattle.memory.proofs.Covering.{spread, covered}
use Rattle.memory.proofs.calls.cover.Goals as goal

pub invariant_of-lay : goal.invariant_of-lay
invariant_of-lay g c = record { some = omega arith; within = omega (arith, c.requires.within); fits = rw c.requires.single refl }

pub loop-i-preserved : goal.loop-i-preserved
loop-i-preserved g c = rw add-one (c.lay.ensures ∙ ap (λ m. placed m (c.args.at + c.loop-i.i) c.args.kind 1) c.loop-i.invariant)

pub returns : goal.returns
returns g c =
    let m = g.S.Cells.cells c.args.store.now in
    let all : c.loop-i.i ≡ c.args.count = omega arith in
    c.loop-i.invariant ∙ ap (spread m c.args.at c.args.kind) all
    ∙ covered m (g.met.S.Cells.whole c.args.store.now) c.args.at c.args.kind c.requires.single c.args.count c.requires.some c.requires.within
