use Rattle.std.proofs.Common.{sym, ap, ◌∙◌}
use Rattle.std.proofs.lemmas.Bool.Decides.{Decides-like}
use Rattle.steps.specs.Tables.{sets}
use Rattle.routine.specs.Graph.{is_set}
use Rattle.routine.specs.Text.{text_of}
use Rattle.routine.proofs.Walks.{decides_next, of_unstopped, to_unstopped}
use Rattle.routine.proofs.rules.is_unset.Goals as goal

pub returns-then-not-sets_value : goal.returns-then-not-sets_value
returns-then-not-sets_value c =
    let r = text_of c.args.text.now in
    let v = c.args.value in
    let k = c.args.to in
    let first = sym (ap (λ s. is_set v (sets s)) c.step.ensures) ∙ sym c.sets_value.ensures ∙ c.if-not-sets_value.true in
    Decides-like c.reaches_unset.result (of_unstopped r v k first) (to_unstopped r v k) (decides_next r c.reaches_unset.result _ 0 k c.reaches_unset.ensures)
