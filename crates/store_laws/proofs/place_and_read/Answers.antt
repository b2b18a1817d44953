use Rattle.std.specs.Option.{ok_or}
use Rattle.std.proofs.Common.{refl, ap, ◌∙◌}
use Rattle.refusal.specs.declared.Rule.TheVariants.{Placing}
use Rattle.store_laws.proofs.Placements.{read_after}
use Rattle.store_laws.proofs.place_and_read.Goals as goal

pub returns-in-Some-clause-answer : goal.returns-in-Some-clause-answer
returns-in-Some-clause-answer g c =
    let h = read_after (g.S.Cells.cells c.args.store.now) (g.S.Cells.cells c.place.new.self) c.args.address c.args.kind c.args.size
    (g.met.S.Cells.whole c.args.store.now) c.in_ok-place.ensures.answer c.place.ensures.left in
    ap (λ o. ok_or o (Placing, 0)) (c.in-Some.ensures ∙ h.1) ∙ rw h.0 refl

pub returns-in-None-clause-answer : goal.returns-in-None-clause-answer
returns-in-None-clause-answer g c =
    let h = read_after (g.S.Cells.cells c.args.store.now) (g.S.Cells.cells c.place.new.self) c.args.address c.args.kind c.args.size
    (g.met.S.Cells.whole c.args.store.now) c.in_ok-place.ensures.answer c.place.ensures.left in
    ap (λ o. ok_or o (Placing, 0)) (c.in-None.ensures ∙ h.1) ∙ rw h.0 refl
