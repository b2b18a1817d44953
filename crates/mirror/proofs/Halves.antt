-- The nibble of an address is the half of a byte of the mirror. Assumes nothing.
use Rattle.std.proofs.Common.{◌≡◌, ℕ, ◌+◌, ◌*◌, ◌/◌, ◌%◌, ◌<◌, Bool, true, false, cond, ltb, Some, None, refl, ap, ◌∙◌, arith}
use Rattle.std.proofs.lemmas.Bool.{lt-ltb, ltb-true}
use Rattle.store.specs.Cells.{Memory, Whole}
use Rattle.mirror.specs.Nibbles.{nibble_of, mirrored, byte_answer, nibble_answer}
use Rattle.mirror.proofs.Decoding.{nibble_small}

byte_is : (m : Memory) (i b : ℕ) → Some b ≡ byte_answer m i → b ≡ nibble_of (m (2 * i)) + 16 * nibble_of (m (2 * i + 1))
byte_is m i b e = got (ltb i 2048) (mirrored m i) b e
  where
    got : (t : Bool) (x b : ℕ) → Some b ≡ cond t (Some x) None → b ≡ x
    got true x b e = cc
    got false x b e = let z : ◌≡◌ {A = ℕ} 0 1 = cc in absurd (omega arith)

low : (b x y : ℕ) → b ≡ x + 16 * y → x < 16 → b % 16 ≡ x
low b x y e h = omega arith

high : (b x y : ℕ) → b ≡ x + 16 * y → x < 16 → b / 16 ≡ y
high b x y e h = omega arith

module _ (m : Memory) (w : Whole m) (i b : ℕ) (e : Some b ≡ byte_answer m (i / 2)) where
  below : i < 4096
  below = go (ltb (i / 2) 2048) refl e
    where
      go : (t : Bool) → ltb (i / 2) 2048 ≡ t → Some b ≡ cond t (Some (mirrored m (i / 2))) None → i < 4096
      go true h f = let l : i / 2 < 2048 = ltb-true (i / 2) 2048 h in omega arith
      go false h f = let z : ◌≡◌ {A = ℕ} 0 1 = cc in absurd (omega arith)

  answered : (x : ℕ) → x ≡ nibble_of (m i) → Some x ≡ nibble_answer m i
  answered x h = rw (lt-ltb i 4096 below) (ap Some h)

  pub even_half : i % 2 ≡ 0 → Some (b % 16) ≡ nibble_answer m i
  even_half h =
      let here : 2 * (i / 2) ≡ i = omega arith in
      answered (b % 16)
      (low b (nibble_of (m (2 * (i / 2)))) (nibble_of (m (2 * (i / 2) + 1))) (byte_is m (i / 2) b e) (nibble_small (m (2 * (i / 2))) (w.1 (2 * (i / 2))))
      ∙ ap (λ j. nibble_of (m j)) here)

  pub odd_half : (i % 2 ≡ 0 → ⊥) → Some (b / 16) ≡ nibble_answer m i
  odd_half h =
      let here : 2 * (i / 2) + 1 ≡ i = omega arith in
      answered (b / 16)
      (high b (nibble_of (m (2 * (i / 2)))) (nibble_of (m (2 * (i / 2) + 1))) (byte_is m (i / 2) b e) (nibble_small (m (2 * (i / 2))) (w.1 (2 * (i / 2))))
      ∙ ap (λ j. nibble_of (m j)) here)
