use Rattle.std.proofs.Common.{◌≡◌, ℕ, Some, None, Ok, Option, sym, ap, ◌∙◌, subst, arith}
use Rattle.areas.specs.declared.area.Area.{Area}
use Rattle.areas.specs.Ordered.{without}
use Rattle.areas.specs.Calls.{shut_answer as answer_with_area}
use Rattle.memory.specs.State.{view}
use Rattle.memory.specs.Rules.{shut_answer, shut_found, shuts}
use Rattle.memory.specs.Tied.{ShutAlone, Tied}
use Rattle.memory.proofs.Tying.{tied_shut}
use Rattle.memory.proofs.Reaching.{found_start, shut_alone, state_is}
use Rattle.memory.proofs.Memory.shut.Goals as goal

-- the area that was shut is the one that was found
was_found : (o : Option Area) (x : Area) → Ok x ≡ answer_with_area o → Some x ≡ o
was_found (Some y) x e = cc
was_found None x e = let no_such : ◌≡◌ {A = ℕ} 0 1 = cc in absurd (omega arith)

pub returns : goal.returns
returns g c =
    let s = view g.S.Cells.cells c.args.self.now in
    let x = c.in_ok-area.area in
    let h = c.in_ok-area.ensures in
    let found = was_found _ x h.answer in
    let start = found_start c.args.start s.areas x c.args.self.now.areas.apart found in
    let now = state_is _ (shuts s x) c.wipe.ensures c.mark.ensures (h.areas ∙ ap (λ (a : ℕ). without a s.areas) (sym h.within.0)) in
    let sound = (g.met.S.Cells.whole c.args.self.now.store).1 in
    let apart = c.args.self.now.areas.apart in
    record {
      answer = ap shut_answer found;
      left = now ∙ ap (shut_found s) found;
      alone = subst (ShutAlone c.args.start s) (sym now) (shut_alone s c.args.start x sound apart found);
      tied = λ t. subst Tied (sym now) (tied_shut s x sound apart start t);
    }
