use Rattle.std.proofs.Common.{◌≡◌, ℕ, ◌≤◌, sym, ap, ◌∙◌, subst, arith}
use Rattle.store.specs.Cells.{Whole}
use Rattle.store.specs.Placing.{laid}
use Rattle.store.proofs.Placings.{sound-laid}
use Rattle.store.proofs.Objects.{span_within, whole-carried}
use Rattle.mirror.specs.Nibbles.{nibbles, nibble_of, decoded}
use Rattle.mirror.proofs.Decoding.{laid_more}
use Rattle.mirror.proofs.Laying.{each, left}
use Rattle.mirror.proofs.MirrorPlaces.lay.Goals as goal

pub nibble_of-requires : goal.nibble_of-requires
nibble_of-requires c = rw c.cell.ensures (sound-laid c.args.placing c.loop-i.i)

pub set-requires : goal.set-requires
set-requires c =
    let h : c.span-low.result.1 ≤ 4096 = rw c.span-low.ensures (span_within (decoded (nibbles c.args.self.now.row.bytes)) c.args.self.now.ok c.args.placing) in
    (omega arith, c.nibble_of.ensures.small)

pub loop-i-preserved : goal.loop-i-preserved
loop-i-preserved c = λ j.
    let lay : ℕ → ℕ = λ i. nibble_of (laid c.args.placing i) in
    let here : c.nibble_of.result ≡ lay c.loop-i.i = c.nibble_of.ensures.value ∙ ap nibble_of c.cell.ensures in
    c.set.ensures j
    ∙ laid_more c.span-low.result.0 c.loop-i.i j c.nibble_of.result (nibbles c.loop-i.row.bytes j) (lay j) (nibbles c.args.self.now.row.bytes j)
    c.loop-i.auto.i (λ e. here ∙ ap lay (sym e)) (c.loop-i.invariant j)

pub returns : goal.returns
returns c =
    let s = c.args.self.now in
    left (nibbles s.row.bytes) (nibbles c.loop-i.row.bytes) c.args.placing c.span-low.result c.loop-i.i s.ok s.exact
    c.span-low.ensures c.loop-i.auto.i-end c.loop-i-test.false c.loop-i.invariant

pub invariant_of-self : goal.invariant_of-self
invariant_of-self c =
    let s = c.args.self.now in
    let old = nibbles s.row.bytes in
    let new = nibbles c.loop-i.row.bytes in
    let p = c.args.placing in
    let now = left old new p c.span-low.result c.loop-i.i s.ok s.exact c.span-low.ensures c.loop-i.auto.i-end c.loop-i-test.false c.loop-i.invariant in
    record {
      ok = subst Whole (sym now) (whole-carried (decoded old) s.ok p);
      exact = λ j. each old new p c.span-low.result c.loop-i.i s.ok s.exact c.span-low.ensures c.loop-i.auto.i-end c.loop-i-test.false c.loop-i.invariant j
          ∙ ap (λ m. nibble_of (m j)) (sym now);
    }
