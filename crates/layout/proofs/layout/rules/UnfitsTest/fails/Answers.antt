use Rattle.std.proofs.Common.{IfSome, Decides, subst}
use Rattle.std.proofs.lemmas.Bool.Decides.{Decides-at}
use Rattle.layout.specs.Rules.{TooLarge}
use Rattle.layout.proofs.Powers.{decides_above}
use Rattle.layout.proofs.layout.rules.UnfitsTest.fails.Goals as goal

pub returns-in-Some : goal.returns-in-Some
returns-in-Some c _ =
    let f = c.in-Some.field in
    subst (λ o. Decides c.is_too_large.result (IfSome o TooLarge)) c.in-Some.ensures
    (Decides-at c.is_too_large.result _ c.is_too_large.ensures (decides_above f.reset f.scalar.size))
