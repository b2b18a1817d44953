use Rattle.std.proofs.Common.{◌%◌, ap, ◌∙◌, arith}
use Rattle.memory.specs.Bytes.{held}
use Rattle.memory.proofs.Rows.{written_more, rest_more}
use Rattle.memory.proofs.bytes.write.Goals as goal

pub loop-i-preserved : goal.loop-i-preserved
loop-i-preserved c = (
  written_more c.loop-i.bytes (held c.args.bytes.now) c.args.at c.args.value c.loop-i.i c.low_byte.result (omega arith)
      (c.low_byte.ensures ∙ ap (λ x. x % 256) c.loop-i.invariant.1) c.loop-i.invariant.0,
  rest_more c.args.value c.loop-i.i c.loop-i.rest c.loop-i.invariant.1,
)
