use Rattle.std.proofs.Common.{◌≡◌, ◌∙◌, add-one, rules}
use Rattle.layout.specs.Fields.{field_at}
use Rattle.memory.specs.Import.{write_field}
use Rattle.memory.proofs.importing.write_fields.Goals as goal

pub loop-k-preserved : goal.loop-k-preserved
loop-k-preserved c =
    let b = c.args.layout.now.body.now in
    let k = c.loop-k.k in
    let field : c.field.result ≡ field_at b k = search rules in
    rw add-one (c.write_field.ensures ∙ (λ i. write_field (c.loop-k.invariant i) (field i)))
