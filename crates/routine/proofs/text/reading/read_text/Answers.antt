use Rattle.std.proofs.Common.{◌<◌, ◌≢◌, length, sym, subst, arith, length-set, get_or-set_other, get_or-set_same, below_more}
use Rattle.steps.specs.Format.{Spells}
use Rattle.steps.specs.declared.step.Step.TheVariants.{Stop}
use Rattle.routine.specs.Body.{part}
use Rattle.routine.proofs.Texts.{text_written}
use Rattle.routine.proofs.text.reading.read_text.Goals as goal

pub loop-i-preserved : goal.loop-i-preserved
loop-i-preserved c =
    let i = c.loop-i.i in
    let b = c.args.body.now in
    let steps = c.loop-i.steps in
    let inside : i < length steps = omega (arith, c.requires.all, c.requires.whole.1, c.loop-i.invariant.0) in (
      simp length-set c.loop-i.invariant.0,
      below_more _ i
          (λ k l. let apart : k ≢ i = omega arith in subst (Spells (part b k)) (sym (get_or-set_other steps i k _ Stop apart)) (c.loop-i.invariant.1 k l))
          (subst (Spells (part b i)) (sym (get_or-set_same steps i _ Stop inside)) (c.formed_step.ensures (c.requires.formed i c.loop-i-test.true))),
    )

pub returns : goal.returns
returns c = text_written _ _ c.requires.whole c.requires.all (λ k l. c.loop-i.invariant.1 k (omega arith))
