use Rattle.std.proofs.Common.{◌≡◌, true, not, sym, refl, subst, arith, rules, ◌∙◌}
use Rattle.areas.specs.Area.{begins}
use Rattle.areas.specs.Ordered.{ordered}
use Rattle.areas.specs.Calls.{opened}
use Rattle.areas.proofs.Order.{kept-ordered, found_within}
use Rattle.areas.proofs.Places.{index_within, found_none, found_some}
use Rattle.areas.proofs.Searches.{remove_at}
use Rattle.areas.proofs.areas.Areas.shut.Goals as goal

pub returns-in_err-i-clause-answer : goal.returns-in_err-i-clause-answer
returns-in_err-i-clause-answer c = rw (found_none c.args.start (opened c.args.self.now) (sym c.in_err-i.ensures.ok_part ∙ c.index_at.ensures)) (search rules)

pub take_out-requires : goal.take_out-requires
take_out-requires c = (index_within (begins c.args.start) (opened c.args.self.now) _ (sym c.in_ok-i.ensures.ok_part ∙ c.index_at.ensures))

pub invariant_of-self : goal.invariant_of-self
invariant_of-self c =
    let s = c.args.self.now in
    let e = c.take_out.ensures.items ∙ remove_at c.args.start (opened s) _ s.apart (sym c.in_ok-i.ensures.ok_part ∙ c.index_at.ensures) in
    record { room = omega (arith, s.room, c.take_out.ensures.fewer); apart = subst (λ l. ordered l ≡ true) (sym e) (kept-ordered (λ x. not (begins c.args.start x)) (opened s) s.apart) }

pub returns : goal.returns
returns c =
    let s = c.args.self.now in
    let first = sym c.in_ok-i.ensures.ok_part ∙ c.index_at.ensures in
    let found = found_some c.args.start (opened s) _ c.take_out.result first c.take_out.ensures.value in
    record {
      answer = rw found refl;
      areas = c.take_out.ensures.items ∙ remove_at c.args.start (opened s) _ s.apart first;
      within = found_within c.args.start (opened s) c.take_out.result s.apart (sym found);
    }
