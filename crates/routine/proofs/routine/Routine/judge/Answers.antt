use Rattle.std.proofs.Common.{sym, ◌∙◌}
use borrow.Author.Tests.{clash}
use Rattle.routine.specs.Claims.{left_out, bare_path}
use Rattle.routine.proofs.routine.Routine.judge.Goals as goal

pub returns-then-is_covered_by_a : goal.returns-then-is_covered_by_a
returns-then-is_covered_by_a c =
    let a = c.is_covered_by_a.ensures.0 c.if-is_covered_by_a.true in
    left_out c.args.value c.requires (λ b. b.1 a.0 a.1)

pub returns-then-is_exposed : goal.returns-then-is_exposed
returns-then-is_exposed c =
    bare_path c.args.value c.requires (
      c.is_exposed.ensures.0 c.if-is_exposed.true,
      λ o e. clash (sym c.if-is_covered_by_a.false ∙ c.is_covered_by_a.ensures.1 (o, e)),
    )

pub returns-else-is_exposed : goal.returns-else-is_exposed
returns-else-is_exposed c =
    left_out c.args.value c.requires (λ b. clash (sym c.if-is_exposed.false ∙ c.is_exposed.ensures.1 b.0))
