use Rattle.std.proofs.Common.{◌≡◌, ℕ, List, Ok, Err, ap, ◌∙◌, subst}
use Rattle.std.proofs.lemmas.Result.{err_from_is_err_and}
use Rattle.refusal.specs.declared.Rule.TheVariants.{FieldInside}
use Rattle.refusal.specs.Refusals.{Answer}
use Rattle.first.specs.First.{Only, Ruled, Granted}
use Rattle.first.proofs.Firsts.{refused_so, grants_nothing}
use Rattle.layout.specs.Fields.{count_of}
use Rattle.drawing.specs.Fields.{Past}
use Rattle.drawing.proofs.Answers.{answer_layout, answer_past}
use Rattle.drawing.proofs.record.Record.read.Goals as goal

-- what the rule of drawing answers of a layout is what it answers of the body
of_body : (b : List ℕ) (body : List ℕ) (n : ℕ) (a : Answer) → (body ≡ b) × (n ≡ count_of b) → Only (Ruled FieldInside (Past body) n Granted) a → Only (Ruled FieldInside (Past b) (count_of b) Granted) a
of_body b body n a reads h = subst (λ (x : List ℕ × ℕ). Only (Ruled FieldInside (Past x.0) x.1 Granted) a) (λ t. (reads.0 t, reads.1 t)) h

pub returns-in_err-layout : goal.returns-in_err-layout
returns-in_err-layout c =
    let b = c.args.body.now in
    let p = err_from_is_err_and c.from_residual.result c.from_residual.ensures.1 in
    let e = c.in_err-layout.field-0.0 in
    let is = p.1 ∙ ap Err p.2 in
    record { answer = refused_so _ e is (answer_layout b e c.in_err-layout.ensures.answer); layout = grants_nothing _ _ e is }

pub returns-in_err-try_rule : goal.returns-in_err-try_rule
returns-in_err-try_rule c =
    let b = c.args.body.now in
    let told = c.in_ok-layout.ensures in
    let p = err_from_is_err_and c.from_residual-in_err-try_rule.result c.from_residual-in_err-try_rule.ensures.1 in
    let e = c.in_err-try_rule.field-0.0 in
    let is = p.1 ∙ ap Err p.2 in
    record {
      answer = refused_so _ e is (answer_past b (Err e) told.answer (of_body b _ _ (Err e) told.layout c.in_err-try_rule.ensures));
      layout = grants_nothing _ _ e is;
    }

pub returns : goal.returns
returns c =
    let b = c.args.body.now in
    let told = c.in_ok-layout.ensures in
    let past = of_body b _ _ (Ok tt) told.layout c.in_ok-try_rule.ensures in
    record { answer = answer_past b (Ok tt) told.answer past; layout = told.layout }
