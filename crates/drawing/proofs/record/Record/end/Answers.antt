use Rattle.std.proofs.Common.{min, sym, ap, ◌∙◌, subst}
use Rattle.drawing.specs.Drawn.{Ends}
use Rattle.drawing.proofs.Endings.{ends}
use Rattle.drawing.proofs.record.Record.end.Goals as goal

pub returns : goal.returns
returns c = subst (Ends c.args.self.now.layout) (sym (c.in_memory.ensures ∙ ap (λ e. min e 4096) c.last_end.ensures)) (ends c.args.self.now.layout)
