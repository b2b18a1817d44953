use Rattle.std.proofs.Common.{refl, inr}
use Rattle.std.proofs.lemmas.Bool.Decides.{not_from_Decides}
use Rattle.first.proofs.Firsts.{granted_nowhere}
use Rattle.mapfile.proofs.reader.accept.Goals as goal

pub returns : goal.returns
returns c =
    inr (
      not_from_Decides _ c.is_unreadable.ensures c.if-is_unreadable.false,
      inr (
        granted_nowhere _ _ _ c.in_ok-try_rule.ensures.allows,
        inr (not_from_Decides _ c.is_incomplete.ensures c.if-is_incomplete.false, refl),
      ),
    )
