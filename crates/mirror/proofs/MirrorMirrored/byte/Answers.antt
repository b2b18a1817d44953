use Rattle.std.proofs.Common.{◌≡◌, ℕ, ◌+◌, ◌*◌, cond, ltb, Some, None, ap, ◌∙◌}
use Rattle.mirror.specs.Nibbles.{nibbles, nibble_of, decoded}
use Rattle.mirror.proofs.Decoding.{byte-made}
use Rattle.mirror.proofs.MirrorMirrored.byte.Goals as goal

pub returns : goal.returns
returns c =
    let s = c.args.self.now in
    let bytes = s.row.bytes in
    let i = c.args.index in
    let m = decoded (nibbles bytes) in
    let low : nibbles bytes (2 * i) ≡ nibble_of (m (2 * i)) = s.exact (2 * i) in
    let high : nibbles bytes (2 * i + 1) ≡ nibble_of (m (2 * i + 1)) = s.exact (2 * i + 1) in
    c.byte.ensures
    ∙ ap (λ x. cond (ltb i 2048) (Some x) None) (byte-made bytes i ∙ ap (λ (x : ℕ × ℕ). x.0 + 16 * x.1) (λ t. (low t, high t)))
