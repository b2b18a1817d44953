use Rattle.std.proofs.Common.{sym, ◌∙◌, arith}
use Rattle.std.proofs.lemmas.Option.{slice_get-get_or}
use Rattle.areas.specs.Calls.{opened}
use Rattle.areas.specs.Area.{area_of}
use Rattle.areas.proofs.Searches.{last_index, no_index}
use Rattle.areas.proofs.areas.Areas.index_of.Goals as goal

pub returns-in_err-i : goal.returns-in_err-i
returns-in_err-i c = let s = c.args.self.now in c.from_residual.ensures ∙ sym (no_index (opened s) s.apart c.args.address c.in_err-i.ensures)

pub returns : goal.returns
returns c =
    let s = c.args.self.now in
    let i = c.in_ok-i.i in
    let parted = c.in_ok-i.ensures in
    let one = last_index (opened s) s.apart c.args.address i _ parted (slice_get-get_or (opened s) i (area_of 0 0) (omega (arith, parted.within))) in
    cc (one, c.holds.ensures, c.then_some.ensures, c.deref.ensures.0)
