use Rattle.std.proofs.Common.{cond, sym, refl, ap, ◌∙◌, subst}
use Rattle.store.specs.Cells.{put}
use Rattle.memory.specs.State.{view}
use Rattle.memory.specs.Rules.{writes}
use Rattle.memory.specs.Tied.{Tied}
use Rattle.memory.proofs.Reaching.{state_is, tied_writes}
use Rattle.memory.proofs.Memory.write.Goals as goal

pub returns : goal.returns
returns g c =
    let s = view g.S.Cells.cells c.args.self.now in
    let a = c.args.address in
    let n = c.args.size in
    let v = c.args.value in
    let k = c.args.kind in
    let h = c.if-not-is_accessible.ensures in
    let now = state_is _ (writes s a n v k) c.write.ensures (c.place.ensures.left ∙ ap (λ x. put s.cells a x n) c.into.ensures) refl in
    record {
      answer = h.value;
      left = now ∙ ap (λ b. cond b (writes s a n v k) s) h.value;
      tied = λ u t. subst Tied (sym now) (tied_writes s a n v k (sym h.value) u t);
    }
