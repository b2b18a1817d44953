use Rattle.std.proofs.Common.{◌≤◌, sym, subst, ◌∙◌, arith}
use Rattle.std.proofs.lemmas.List.{length-set}
use Rattle.store.specs.Cells.{Whole}
use Rattle.store.specs.Placing.{laid}
use Rattle.store.proofs.Objects.{span_within, whole-carried}
use Rattle.flat.specs.Rows.{memory}
use Rattle.flat.proofs.Held.{laid_more, laid_all}
use Rattle.flat.proofs.FlatPlaces.lay.Goals as goal

pub bounds-held-i : goal.bounds-held-i
bounds-held-i c =
    let h : c.span-low.result.1 ≤ 4096 = rw c.span-low.ensures (span_within (memory c.args.self.now.held) c.args.self.now.ok c.args.placing) in
    omega arith

pub loop-i-preserved : goal.loop-i-preserved
loop-i-preserved c = (
  length-set c.loop-i.held c.loop-i.i c.cell.result ∙ c.loop-i.invariant.0,
  (λ j. laid_more c.loop-i.held c.span-low.result.0 c.loop-i.i j c.cell.result (laid c.args.placing) (memory c.args.self.now.held)
      c.loop-i.auto.i (omega (arith, c.loop-i.invariant.0, bounds-held-i c)) c.cell.ensures c.loop-i.invariant.1),
)

pub returns : goal.returns
returns c =
    laid_all (memory c.args.self.now.held) c.args.self.now.ok c.args.placing c.span-low.result c.span-low.ensures c.loop-i.held c.loop-i.i
    c.loop-i.auto.i-end c.loop-i-test.false c.loop-i.invariant.1

pub invariant_of-self : goal.invariant_of-self
invariant_of-self c =
    let m = memory c.args.self.now.held in
    let ok = c.args.self.now.ok in
    let p = c.args.placing in
    let all = laid_all m ok p c.span-low.result c.span-low.ensures c.loop-i.held c.loop-i.i c.loop-i.auto.i-end c.loop-i-test.false c.loop-i.invariant.1 in
    record { ok = subst Whole (sym all) (whole-carried m ok p) }
