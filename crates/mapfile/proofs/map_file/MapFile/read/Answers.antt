use Rattle.std.proofs.Common.{refl}
use Rattle.std.proofs.lemmas.Result.{err_from_is_err_and}
use Rattle.mapfile.proofs.Reading.{only_allowed, cut-answer, is_accepted, parted}
use Rattle.mapfile.proofs.map_file.MapFile.read.Goals as goal

pub returns-in_err-accept : goal.returns-in_err-accept
returns-in_err-accept c =
    let p = err_from_is_err_and c.from_residual.result c.from_residual.ensures.1 in
    let h = only_allowed c.args.file.now _ c.in_err-accept.ensures in
    rw (p.1, p.2) (record { answer = h; same = tt; accepted = tt; parted = tt; cut = cut-answer _ _ h })

pub returns : goal.returns
returns c =
    let h = only_allowed c.args.file.now _ c.in_ok-accept.ensures in
    let ok = is_accepted c.args.file.now c.in_ok-accept.ensures in
    record { answer = h; same = refl; accepted = ok; parted = parted _ ok; cut = cut-answer _ _ h }
