use Rattle.std.proofs.Common.{sym, arith}
use Rattle.routine.specs.Claims.{no_check}
use Rattle.routine.specs.Text.{steps_of}
use Rattle.routine.proofs.Judging.{judged_only, past_none}
use Rattle.routine.proofs.routine.Routine.judged.Goals as goal

pub returns-then-step-len : goal.returns-then-step-len
returns-then-step-len c =
    let r = steps_of c.args.self.now in
    let j = c.args.step in
    let o = c.args.operand in
    judged_only r j o _ (no_check (past_none r j o (omega arith)))

pub returns-in-Some : goal.returns-in-Some
returns-in-Some c = judged_only _ _ _ _ c.judge.ensures

pub returns-in-None : goal.returns-in-None
returns-in-None c = judged_only _ _ _ _ (no_check (sym c.in-None.ensures))
