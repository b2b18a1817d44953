use Rattle.std.proofs.Common.{sym, refl, ap, ◌∙◌, subst}
use Rattle.areas.specs.Calls.{left}
use Rattle.areas.proofs.Order.{granted-opening}
use Rattle.memory.specs.State.{view}
use Rattle.memory.specs.Rules.{opens}
use Rattle.memory.specs.Tied.{Tied, UnchangedOutside}
use Rattle.memory.proofs.Tying.{others_open, tied_opened}
use Rattle.memory.proofs.Reaching.{state_is}
use Rattle.memory.proofs.Memory.open.Goals as goal

pub returns : goal.returns
returns g c =
    let s = view g.S.Cells.cells c.args.self.now in
    let a = c.args.start in
    let n = c.args.size in
    let h = c.in_ok-open.ensures in
    let now = state_is _ (opens s a n) refl c.mark.ensures h.areas in
    record {
      answer = h.answer;
      left = now ∙ ap (λ r. left r (opens s a n) s) h.answer;
      law = h.law;
      alone = λ t. subst (UnchangedOutside a n s) (sym now) (others_open s a n (granted-opening s.areas a n h.answer).1 t);
      tied = λ t. subst Tied (sym now) (tied_opened s a n t);
    }
