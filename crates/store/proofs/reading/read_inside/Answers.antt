use Rattle.std.proofs.Common.{◌≡◌, sym, refl, ap, ◌∙◌}
use Rattle.std.proofs.lemmas.Bool.{ne_eqb}
use Rattle.store.specs.declared.tags.Kind.TheVariants.{Uninitialized, Zero}
use Rattle.store.specs.Cells.{number_of}
use Rattle.store.proofs.Numbers.{same_kind, asked_is}
use Rattle.store.proofs.Readings.{read_object, read_uninitialized, read_zero}
use Rattle.store.proofs.reading.read_inside.Goals as goal

pub returns-in-Uninitialized : goal.returns-in-Uninitialized
returns-in-Uninitialized g c =
    let m = g.C.Cells.cells c.args.store.now in
    let a = c.args.address in
    let here = asked_is m a c.in-Some.first c.in-Some.ensures in
    c.read_uniform.ensures
    ∙ read_uninitialized m a c.args.size c.requires.0 ((g.met.C.Cells.whole c.args.store.now).1 a) (ap (λ x. x.kind) here ∙ c.in-Uninitialized.is)

pub returns-in-Zero : goal.returns-in-Zero
returns-in-Zero g c =
    let m = g.C.Cells.cells c.args.store.now in
    let a = c.args.address in
    let here = asked_is m a c.in-Some.first c.in-Some.ensures in
    c.read_uniform-in-Zero.ensures
    ∙ read_zero m a c.args.size c.requires.0 ((g.met.C.Cells.whole c.args.store.now).1 a) (ap (λ x. x.kind) here ∙ c.in-Zero.is)

pub returns-in_default : goal.returns-in_default
returns-in_default g c =
    let m = g.C.Cells.cells c.args.store.now in
    let a = c.args.address in
    let first = c.in-Some.first in
    let here = asked_is m a first c.in-Some.ensures in
    let kind : (m a).kind ≡ first.kind = ap (λ x. x.kind) here in
    c.read_object.ensures
    ∙ sym (read_object m a c.args.size c.requires.0
    (rw kind (ne_eqb (number_of first.kind) 1 (λ e. c.in_default.not-Uninitialized (same_kind first.kind Uninitialized e))))
    (rw kind (ne_eqb (number_of first.kind) 2 (λ e. c.in_default.not-Zero (same_kind first.kind Zero e))))
    ∙ rw here refl)
