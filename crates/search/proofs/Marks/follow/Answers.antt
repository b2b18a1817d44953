use Rattle.std.proofs.Common.{rules}
use Rattle.search.proofs.Filling.{clear_zeros, searched_lent}
use Rattle.search.proofs.Marks.follow.Goals as goal

pub returns-clause-answer : goal.returns-clause-answer
returns-clause-answer g c =
    searched_lent _ _ _ _ _ _ c.lend_to.ensures.answer (search rules) c.lend_to.ensures.size (search (rules, clear_zeros)) (λ u left q. search rules)
