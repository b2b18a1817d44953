use Rattle.std.proofs.Common.{◌≡◌, sym, ◌∙◌, rules}
use Rattle.areas.specs.Area.{holds, lawful}
use Rattle.areas.specs.Calls.{opened}
use Rattle.areas.proofs.Order.{lawful-within}
use Rattle.areas.proofs.Searches.{holds_tells, tells}
use Rattle.areas.proofs.areas.Areas.lawful.Goals as goal

pub returns : goal.returns
returns c =
    let s = c.args.self.now in
    let a = c.args.address in
    let n = c.args.bytes in
    let value : c.is_some_and.result ≡ lawful (opened s) a n =
    tells _ s.apart (holds a n) _ (holds_tells a n) _ _ _ c.is_some_and.ensures c.last_below.ensures (λ i h called. search rules) in
    record { value = value; within = λ h. lawful-within (opened s) a n s.apart (sym value ∙ h) }
