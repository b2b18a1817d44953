use Rattle.std.proofs.Common.{◌≡◌, ℕ, List, IfOk, Ok, Err, Result, sym, ap, ◌∙◌, subst}
use Rattle.std.proofs.lemmas.Result.{err_from_is_err_and}
use Rattle.refusal.specs.declared.Rule.TheVariants.{RoutineLength, StepForm}
use Rattle.refusal.specs.Refusals.{Refusal}
use Rattle.first.specs.First.{Only, answer_of}
use Rattle.first.proofs.Firsts.{granted_nowhere}
use Rattle.routine.specs.declared.routine.Routine.{Routine}
use Rattle.routine.specs.Rules.{Accepted, Allowed}
use Rattle.routine.specs.Text.{text_of, steps_of}
use Rattle.routine.proofs.Answering.{answer-length, answer_form, answer_steps, written_body}
use Rattle.routine.proofs.Sounding.{sound, all-inside}
use Rattle.routine.proofs.routine.Routine.read.Goals as goal

-- what a refusal owes
abbrev Owed : List ℕ → Result Routine Refusal → Type 0
Owed b r = record { answer : Only (Allowed b) (answer_of r); routine : IfOk r (λ t. Accepted b (steps_of t)) }

refusal : (b : List ℕ) (r : Result Routine Refusal) (e : Refusal) → r ≡ Err e → Only (Allowed b) (Err e) → Owed b r
refusal b r e is h = subst (Owed b) (sym is) (record { answer = h; routine = tt })

pub returns-in_err-count : goal.returns-in_err-count
returns-in_err-count c =
    let p = err_from_is_err_and c.from_residual.result c.from_residual.ensures.1 in
    let h = c.in_err-count.ensures in
    refusal _ _ (RoutineLength, 0) (p.1 ∙ ap Err (p.2 ∙ h.1)) (answer-length _ h.0)

pub returns-in_err-try_rule : goal.returns-in_err-try_rule
returns-in_err-try_rule c =
    let p = err_from_is_err_and c.from_residual-in_err-try_rule.result c.from_residual-in_err-try_rule.ensures.1 in
    let m = c.in_ok-count.ensures in
    refusal _ _ c.in_err-try_rule.field-0.0 (p.1 ∙ ap Err p.2) (answer_form _ m.0 _ m.1 _ c.in_err-try_rule.ensures)

pub read_text-text-requires : goal.read_text-text-requires
read_text-text-requires c =
    let m = c.in_ok-count.ensures in
    record { whole = m.0; all = m.1; formed = granted_nowhere StepForm _ _ c.in_ok-try_rule.ensures.allows }

pub returns-in_err-check : goal.returns-in_err-check
returns-in_err-check c =
    let p = err_from_is_err_and c.from_residual-in_err-check.result c.from_residual-in_err-check.ensures.1 in
    refusal _ _ c.in_err-check.field-0.0 (p.1 ∙ ap Err p.2)
    (answer_steps c.args.body.now (text_of c.read_text-text.result) c.read_text-text.ensures (Err c.in_err-check.field-0.0) c.in_err-check.ensures)

pub invariant_of-result : goal.invariant_of-result
unfolding text_of
invariant_of-result c = let r = text_of c.read_text-text.result in record { inside = all-inside r (sound r c.in_ok-check.ensures.allows) }

pub returns : goal.returns
returns c =
    let only = c.in_ok-check.ensures in
    let w = c.read_text-text.ensures in
    let r = text_of c.read_text-text.result in
    let b = c.args.body.now in
    record {
      answer = answer_steps b r w (Ok tt) only;
      routine = record { spelled = w; again = written_body b r w; sound = sound r only.allows };
    }
