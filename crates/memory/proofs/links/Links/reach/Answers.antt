use Rattle.std.specs.Option.{ok_or}
use Rattle.std.proofs.Common.{◌≡◌, ℕ, length, Err, Result, sym, ap, ◌∙◌, subst, arith, rules}
use Rattle.std.proofs.lemmas.Result.{err_from_is_err_and}
use Rattle.refusal.specs.declared.Rule.TheVariants.{AreaOpen}
use Rattle.refusal.specs.Refusals.{Refusal}
use Rattle.search.specs.Marks.{Few}
use Rattle.memory.specs.State.{State}
use Rattle.memory.specs.Links.{Reach, linked, few_marks, no_area, reached}
use Rattle.memory.proofs.Pointing.{bits_reach}
use Rattle.memory.proofs.links.Links.reach.Goals as goal

few : (s : State) (a n : ℕ) (r : Result ℕ Refusal) (e : Refusal) → r ≡ Err e → Few n e → Reach s a n r
few s a n r e is h = subst (Reach s a n) (sym (is ∙ ap Err h.1)) (few_marks h.0)

pub returns-in_err-check_len : goal.returns-in_err-check_len
returns-in_err-check_len g c =
    let s = linked g.C.Cells.cells c.args.self.now in
    let long = ap length c.over-marks.ensures.same in
    let p = err_from_is_err_and c.from_residual.result c.from_residual.ensures.1 in
    let h = c.in_err-check_len.ensures in
    record { answer = few s c.args.start (length c.args.marks.now) _ _ p.1 (omega (arith, h.0), p.2 ∙ h.1); clear = search rules }

pub returns-in_err-from : goal.returns-in_err-from
returns-in_err-from g c =
    let long = ap length c.over-marks.ensures.same in
    let p = err_from_is_err_and c.from_residual-in_err-from.result c.from_residual-in_err-from.ensures.1 in
    let h = c.in_ok-check_len.ensures in
    let none = c.in_err-from.ensures in
    let is = p.1 ∙ ap Err p.2 ∙ none.value ∙ ap (λ o. ok_or o (AreaOpen, 0)) none.ok_part in
    record {
      answer = subst (Reach (linked g.C.Cells.cells c.args.self.now) c.args.start (length c.args.marks.now)) (sym is) (no_area (omega arith) (sym c.index_at.ensures ∙ none.ok_part));
      clear = search rules;
    }

pub returns : goal.returns
returns g c =
    let l = c.args.self.now in
    let s = linked g.C.Cells.cells l in
    let long = ap length c.over-marks.ensures.same in
    let h = c.in_ok-check_len.ensures in
    let found = sym c.in_ok-from.ensures.ok_part ∙ c.index_at.ensures in
    let f = c.in_ok-follow.ensures.answer.1 in
    let shown = bits_reach s (g.met.C.Cells.whole l.store.now) l.areas.now.apart c.args.start c.in_ok-from.from c.count.result c.bits.result _
    found c.count.ensures f c.bits.ensures in
    record { answer = reached c.in_ok-from.from c.bits.result (omega arith) (sym found) shown; clear = search rules }
