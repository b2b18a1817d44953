use Rattle.std.proofs.Common.{ℕ}
use Rattle.search.specs.Paths.{Edge, Unstopped}
use Rattle.search.proofs.Reading.{decides_mark}
use Rattle.std.proofs.lemmas.Bool.Decides.{Decides-at}
use Rattle.routine.specs.Claims.{checks_it}
use Rattle.routine.specs.Flow.{step_at}
use Rattle.routine.specs.Graph.{two_slots, leads}
use Rattle.routine.specs.Text.{steps_of}
use Rattle.routine.proofs.Judging.{decides_given}
use Rattle.routine.proofs.Walks.{decides_next}
use Rattle.routine.proofs.routine.Routine.exposes.Goals as goal

pub returns : goal.returns
returns c =
    let r = steps_of c.args.self.now in
    let stop = λ (x : ℕ). checks_it c.args.value (step_at r x) in
    let found = Decides-at {P = Unstopped (Edge two_slots (leads r)) stop c.args.from c.args.to} c.is_marked.result _ c.is_marked.ensures (decides_mark {path = Unstopped (Edge two_slots (leads r)) stop c.args.from} c.follow_unstopped.ensures.reached c.args.to) in
    decides_given c.is_marked.result (c.is_unsure_setting.ensures.0 c.if-not-is_unsure_setting.false) (decides_next r c.is_marked.result stop c.args.from c.args.to found)
