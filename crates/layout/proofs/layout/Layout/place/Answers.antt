use Rattle.std.proofs.Common.{◌≡◌, sym, ap, ◌∙◌, subst, add-one, arith}
use Rattle.layout.specs.Placing.{laid_cells, put_field, Laid}
use Rattle.layout.proofs.Laying.{body_laid}
use Rattle.layout.proofs.layout.Layout.place.Goals as goal

pub loop-k-preserved : goal.loop-k-preserved
loop-k-preserved g c =
    rw add-one (c.place_field.ensures ∙ (λ i. put_field (c.loop-k.invariant i) (c.field_at.ensures i)))

pub returns : goal.returns
returns g c =
    let m = g.S.Cells.cells c.args.store.now in
    let l = c.args.self.now in
    let all : c.loop-k.k ≡ l.count = omega arith in
    let cells = c.loop-k.invariant ∙ ap (laid_cells m l.body.now) all in
    record { cells = cells; law = subst (Laid m l.body.now) (sym (cells ∙ ap (laid_cells m l.body.now) l.whole)) (body_laid m (g.met.S.Cells.whole c.args.store.now) l.body.now) }
