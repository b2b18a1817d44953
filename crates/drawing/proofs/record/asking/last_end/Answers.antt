use Rattle.std.proofs.Common.{ℕ, max, ap, ◌∙◌, add-one}
use Rattle.drawing.specs.Drawn.{ending}
use Rattle.drawing.proofs.record.asking.last_end.Goals as goal

pub loop-k-preserved : goal.loop-k-preserved
loop-k-preserved c = rw add-one (c.max-end.ensures ∙ ap (λ (x : ℕ × ℕ). max x.0 x.1) (λ t. (c.loop-k.invariant t, (c.end_of.ensures ∙ ap ending c.field.ensures) t)))
