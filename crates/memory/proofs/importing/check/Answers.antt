use Rattle.std.proofs.Common.{◌≡◌, ℕ, List, Ok, Err, ap, ◌∙◌, subst}
use Rattle.std.proofs.lemmas.Result.{err_from_is_err_and}
use Rattle.refusal.specs.declared.Rule.TheVariants.{FieldInside}
use Rattle.refusal.specs.Refusals.{Answer}
use Rattle.first.specs.First.{Granted, Ruled, Only}
use Rattle.first.proofs.Firsts.{refused_so, grants_nothing}
use Rattle.areas.specs.declared.area.Area.{Area}
use Rattle.areas.specs.Calls.{opened}
use Rattle.layout.specs.Fields.{count_of}
use Rattle.layout.specs.Rules.{Allowed as GrantedBody}
use Rattle.memory.specs.Import.{Allowed, Unhoused}
use Rattle.memory.proofs.Placed.{answer_body, answer-areas}
use Rattle.memory.proofs.importing.check.Goals as goal

-- the body that the layout has is the one that was read
homes : (xs : List Area) (b l : List ℕ) (n : ℕ) → l ≡ b → n ≡ count_of b → Only (GrantedBody b) (Ok tt) → (a : Answer) → Only (Ruled FieldInside (Unhoused xs l) n Granted) a → Only (Allowed xs b) a
homes xs b l n e m g a h = answer-areas xs b n m g a (subst (λ l. Only (Ruled FieldInside (Unhoused xs l) n Granted) a) e h)

pub returns-in_err-layout : goal.returns-in_err-layout
returns-in_err-layout c =
    let xs = opened c.args.areas.now in
    let b = c.args.body.now in
    let p = err_from_is_err_and c.from_residual.result c.from_residual.ensures.1 in
    let e = c.in_err-layout.field-0.0 in
    let is = p.1 ∙ ap Err p.2 in
    record { answer = refused_so _ e is (answer_body xs b e c.in_err-layout.ensures.answer); layout = grants_nothing _ _ e is }

pub returns-in_err-try_rule : goal.returns-in_err-try_rule
returns-in_err-try_rule c =
    let xs = opened c.args.areas.now in
    let b = c.args.body.now in
    let p = err_from_is_err_and c.from_residual-in_err-try_rule.result c.from_residual-in_err-try_rule.ensures.1 in
    let h = c.in_ok-layout.ensures in
    let e = c.in_err-try_rule.field-0.0 in
    let is = p.1 ∙ ap Err p.2 in
    let only = homes xs b _ _ h.layout.0 h.layout.1 h.answer (Err e) c.in_err-try_rule.ensures in
    record { answer = refused_so _ e is only; layout = grants_nothing _ _ e is }

pub returns : goal.returns
returns c =
    let h = c.in_ok-layout.ensures in
    record {
      answer = homes (opened c.args.areas.now) c.args.body.now _ _ h.layout.0 h.layout.1 h.answer (Ok tt) c.in_ok-try_rule.ensures;
      layout = h.layout;
    }
