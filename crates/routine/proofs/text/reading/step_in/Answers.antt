use Rattle.std.proofs.Common.{◌≡◌, ◌+◌, ◌-◌, ◌*◌, take, drop, refl, subst, arith}
use Rattle.steps.specs.Format.{Decoded}
use Rattle.steps.proofs.Spelling.{decoded-none}
use Rattle.routine.proofs.Texts.{part_short}
use Rattle.routine.proofs.text.reading.step_in.Goals as goal

pub returns-then-body-i : goal.returns-then-body-i
returns-then-body-i c = decoded-none _ _ refl (part_short c.args.body.now c.args.i (omega arith))

pub returns : goal.returns
returns c =
    let i = c.args.i in
    let sixteen : 16 * i + 16 - 16 * i ≡ 16 = omega arith in
    subst (λ n. Decoded (take n (drop (16 * i) c.args.body.now)) c.decode.result) sixteen c.decode.ensures
