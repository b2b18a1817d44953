-- The end of the loop that lays nibbles. Assumes nothing.
use Rattle.std.proofs.Common.{◌≡◌, ℕ, ◌≤◌, cond, ◌&&◌, ltb, leb, ap, ◌∙◌, arith}
use Rattle.store.specs.declared.placing.Placing.{Placing}
use Rattle.store.specs.Cells.{Memory, Whole}
use Rattle.store.specs.Placing.{laid, span_in, carried}
use Rattle.store.proofs.Objects.{span_carried, span_up, whole-carried}
use Rattle.mirror.specs.Nibbles.{nibble_of, decoded}
use Rattle.mirror.proofs.Decoding.{chosen_nibble, stands_for}

-- old are the nibbles of a whole memory, new those that the loop left
module _ (old new : ℕ → ℕ) (p : Placing) (span : ℕ × ℕ) (i : ℕ) (w : Whole (decoded old)) (exact : (j : ℕ) → old j ≡ nibble_of (decoded old j))
    (e : span ≡ span_in (decoded old) p) (within : span.0 ≤ span.1 → i ≤ span.1) (past : span.1 ≤ i)
    (inv : (j : ℕ) → new j ≡ cond (leb span.0 j && ltb j i) (nibble_of (laid p j)) (old j)) where
  abbrev m : Memory
  m = decoded old

  pub each : (j : ℕ) → new j ≡ nibble_of (carried m p j)
  each j =
      inv j
      ∙ rw (end, exact j)
      (ap (λ (x : ℕ × ℕ). cond (leb x.0 j && ltb j x.1) (nibble_of (laid p j)) (nibble_of (m j))) e
      ∙ chosen_nibble (leb (span_in m p).0 j && ltb j (span_in m p).1) (laid p j) (m j)
      ∙ ap nibble_of (span_carried m w p j))
    where
      end : i ≡ span.1
      end = let up : span.0 ≤ span.1 = rw e (span_up m w p) in omega (arith, within up)

  pub left : decoded new ≡ carried m p
  left = stands_for new (carried m p) (whole-carried m w p) each
