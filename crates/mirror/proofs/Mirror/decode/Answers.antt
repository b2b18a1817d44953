use Rattle.std.proofs.Common.{◌≡◌, ◌+◌, ◌-◌, ◌<◌, ap, ◌∙◌, arith, rules}
use Rattle.store.proofs.Numbers.{inside_of}
use Rattle.mirror.specs.Nibbles.{nibbles, place_in, decoded, size_from}
use Rattle.mirror.proofs.Mirror.decode.Goals as goal

pub overflow_cast-result : goal.overflow_cast-result
overflow_cast-result c =
    let f = nibbles c.args.self.now.row.bytes in
    let inside = inside_of (decoded f c.args.i) (c.args.self.now.ok.1 c.args.i) in
    let place = c.position-position.ensures.value in
    let size : c.size_from.result ≡ size_from (f (c.args.i - place_in f c.args.i + 1)) =
    c.size_from.ensures ∙ ap size_from (c.get-2.ensures.value ∙ ap (λ p. f (c.args.i - p + 1)) place) in
    let l : c.position-position.result < 256 = omega (arith, c.size_from.type_inv) in
    search rules

pub returns : goal.returns
returns c = simp (c.kind_from.ensures, c.get.ensures.value, c.size_from.ensures, c.get-2.ensures.value, c.position-position.ensures.value)
