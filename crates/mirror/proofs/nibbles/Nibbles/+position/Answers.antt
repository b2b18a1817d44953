use Rattle.std.proofs.Common.{◌≡◌, ◌+◌, ap, ◌∙◌, arith}
use Rattle.mirror.specs.Nibbles.{nibbles}
use Rattle.mirror.proofs.Decoding.{place_first, place_second, place_further}
use Rattle.mirror.proofs.nibbles.Nibbles.+position.Goals as goal

pub returns-then-x-lt8 : goal.returns-then-x-lt8
returns-then-x-lt8 t c = record { value = place_first (nibbles c.args.self.now.bytes) c.args.i (omega arith) (omega (arith, c.get-x.ensures.value)); within = omega arith }

pub returns-then-x-gt8 : goal.returns-then-x-gt8
returns-then-x-gt8 t c = record { value = place_second (nibbles c.args.self.now.bytes) c.args.i (omega arith) (omega (arith, c.get-x.ensures.value)); within = omega arith }

pub returns-else-x-gt8 : goal.returns-else-x-gt8
returns-else-x-gt8 t c =
    let f = nibbles c.args.self.now.bytes in
    let e : f c.args.i ≡ 8 = omega (arith, c.get-x.ensures.value) in
    record { value = ap (λ n. n + 1) c.position.ensures.value ∙ place_further f c.args.i (omega arith) e; within = omega (arith, c.position.ensures.within) }
