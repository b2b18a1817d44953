use Rattle.std.proofs.Common.{◌∙◌, rules}
use Rattle.areas.specs.Calls.{opened}
use Rattle.areas.proofs.Places.{mapped}
use Rattle.areas.proofs.Searches.{searched}
use Rattle.areas.proofs.areas.Areas.index_at.Goals as goal

pub returns : goal.returns
returns c =
    let s = c.args.self.now in
    let facts = c.binary_search_by_key-found.ensures in
    let found = searched (opened s) s.apart _ c.deref.ensures.0 c.args.start _ facts.bound facts.position (λ f a r g called. search rules) in
    mapped _ _ _ c.map.ensures.cases (λ i j called. search rules) ∙ c.ok.ensures.value ∙ found
