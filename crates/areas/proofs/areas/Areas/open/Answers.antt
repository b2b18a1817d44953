use Rattle.std.proofs.Common.{◌≡◌, true, sym, subst, arith, rules, ◌∙◌}
use Rattle.areas.specs.Area.{area_of}
use Rattle.areas.specs.Ordered.{ordered, Added}
use Rattle.areas.specs.Calls.{opened}
use Rattle.areas.proofs.Order.{opening-ordered, added}
use Rattle.areas.proofs.Searches.{insert_at}
use Rattle.areas.proofs.areas.Areas.open.Goals as goal

pub invariant_of-self : goal.invariant_of-self
invariant_of-self c =
    let s = c.args.self.now in
    let o = opening-ordered (opened s) c.args.start c.args.size c.in_ok-check_open.ensures.answer s.apart in
    let e = c.insert.ensures.items ∙ insert_at (area_of c.args.start c.args.size) (opened s) _ c.count_below-place.ensures in
    record { room = omega (arith, c.insert.ensures.len, c.in_ok-check_open.ensures.room); apart = subst (λ l. ordered l ≡ true) (sym e) o }

pub returns : goal.returns
returns c =
    let s = c.args.self.now in
    let a = area_of c.args.start c.args.size in
    let o = opening-ordered (opened s) c.args.start c.args.size c.in_ok-check_open.ensures.answer s.apart in
    let e = c.insert.ensures.items ∙ insert_at a (opened s) _ c.count_below-place.ensures in
    record { answer = search rules; areas = e; law = subst (Added (opened s) a) (sym e) (added a (opened s) o) }
