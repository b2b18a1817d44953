use Rattle.std.proofs.Common.{◌/◌, ◌^◌, ◌<◌, sym, ap, arith}
use Rattle.layout.proofs.Powers.{pow_bytes, none_above}
use Rattle.layout.proofs.field.above.Goals as goal

pub returns-then-count-lt4 : goal.returns-then-count-lt4
returns-then-count-lt4 c = ap (λ p. c.args.value / p) (pow_bytes c.args.count)

pub returns-else-count-lt4 : goal.returns-else-count-lt4
returns-else-count-lt4 c =
    let small : c.args.value < 256 ^ 4 = omega arith in
    sym (none_above c.args.value 4 c.args.count small c.if-count-lt4.false)
