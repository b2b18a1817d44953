use Rattle.std.proofs.Common.{◌∙◌}
use Rattle.mapfile.specs.Files.{body_at}
use Rattle.mapfile.proofs.Reading.{the_body}
use Rattle.mapfile.proofs.map_file.MapFile.body_under.Goals as goal

pub returns : goal.returns
returns c =
    the_body _ c.args.letter _ _ _ c.requires c.section_count.ensures c.in_ok-entry.ensures
    (c.body.ensures ∙ (λ i. body_at (c.entry.ensures.file i) (c.entry.ensures.number i)))
