use Rattle.std.proofs.Common.{◌≡◌, ℕ, sym, refl, ap, ◌∙◌, subst}
use Rattle.store.specs.Cells.{Memory, empty}
use Rattle.store.proofs.Placings.{whole-empty}
use Rattle.layout.specs.Fields.{count_of}
use Rattle.layout.specs.Placing.{laid_cells}
use Rattle.layout.specs.Rules.{granted}
use Rattle.layout.proofs.Laying.{body_laid}
use Rattle.drawing.specs.Drawn.{Shown}
use Rattle.drawing.proofs.Cellwise.{inside, shows}
use Rattle.drawing.proofs.Rowwise.{row-cell}
use Rattle.drawing.proofs.record.Record.placed.Goals as goal

pub returns : goal.returns
returns g c =
    let s = c.args.self.now in
    let l = s.layout in
    let b = l.body.now in
    let m = g.S.Cells.cells c.place_in_new.result in
    let ok = l.accepted in
    let laid = body_laid empty whole-empty b (granted ok.0 ok.1 ok.2) (inside b (count_of b) s.inside) in
    let cells : m ≡ laid_cells empty b (count_of b) = c.place_in_new.ensures ∙ ap (laid_cells empty b) l.whole in
    let shown : (i : ℕ) → Shown b i (m i) = λ i. subst (λ (o : Memory). Shown b i (o i)) (sym cells) (shows b i _ (laid i)) in
    record {
      cells = shown;
      rows = λ i row drawn. row-cell b l i row.cell row.field ok.2 (refl, l.whole) (subst (Shown b i) (sym drawn.cell) (shown i)) drawn.field;
    }
