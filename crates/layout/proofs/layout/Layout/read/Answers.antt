use Rattle.std.proofs.Common.{Ok, Err, refl, ap, ◌∙◌}
use Rattle.std.proofs.lemmas.Result.{err_from_is_err_and}
use Rattle.refusal.specs.declared.Rule.TheVariants.{LayoutLength}
use Rattle.first.proofs.Firsts.{refused_so, grants_nothing}
use Rattle.layout.proofs.Answering.{answer-length, answer_fields, granted_keeps, field_known}
use Rattle.layout.proofs.layout.Layout.read.Goals as goal

pub returns-in_err-count : goal.returns-in_err-count
returns-in_err-count c =
    let b = c.args.body.now in
    let p = err_from_is_err_and c.from_residual.result c.from_residual.ensures.1 in
    let h = c.in_err-count.ensures in
    let is = p.1 ∙ ap Err (p.2 ∙ h.1) in
    record { answer = refused_so _ (LayoutLength, 0) is (answer-length b h.0); layout = grants_nothing _ _ (LayoutLength, 0) is; fields = grants_nothing _ _ (LayoutLength, 0) is }

pub returns-in_err-try_two : goal.returns-in_err-try_two
returns-in_err-try_two c =
    let b = c.args.body.now in
    let p = err_from_is_err_and c.from_residual-in_err-try_two.result c.from_residual-in_err-try_two.ensures.1 in
    let m = c.in_ok-count.ensures in
    let e = c.in_err-try_two.field-0.0 in
    let is = p.1 ∙ ap Err p.2 in
    record {
      answer = refused_so _ e is (answer_fields b c.in_ok-count.count m.1 m.0 (Err e) c.in_err-try_two.ensures);
      layout = grants_nothing _ _ e is;
      fields = grants_nothing _ _ e is;
    }

pub returns : goal.returns
returns c =
    let b = c.args.body.now in
    let m = c.in_ok-count.ensures in
    let only = answer_fields b c.in_ok-count.count m.1 m.0 (Ok tt) c.in_ok-try_two.ensures in
    record { answer = only; layout = (refl, m.1); fields = λ k l. field_known b k ((granted_keeps b (Ok tt) only.allows refl).1 k l) }
