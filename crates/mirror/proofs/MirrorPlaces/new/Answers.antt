use Rattle.std.proofs.Common.{◌≡◌, ℕ, sym, ap, ◌∙◌, subst, ◌+◌, ◌*◌, arith}
use Rattle.store.specs.Cells.{Whole}
use Rattle.store.proofs.Placings.{whole-empty}
use Rattle.mirror.specs.Nibbles.{nibble_of}
use Rattle.mirror.proofs.Decoding.{nibbles-zero, decoded-zero}
use Rattle.mirror.proofs.MirrorPlaces.new.Goals as goal

pub invariant_of-result : goal.invariant_of-result
invariant_of-result c =
    let b = c.from-nibble.result + 16 * c.from-nibble.result in
    let z : b ≡ 0 = omega (arith, c.from-nibble.ensures) in
    let new = decoded-zero 2048 b z in
    record { ok = subst Whole (sym new) whole-empty; exact = λ i. nibbles-zero 2048 b i z ∙ sym (ap (λ m. nibble_of (m i)) new) }

pub returns : goal.returns
returns c = let b = c.from-nibble.result + 16 * c.from-nibble.result in let z : b ≡ 0 = omega (arith, c.from-nibble.ensures) in decoded-zero 2048 b z
