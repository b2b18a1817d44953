-- Memory divided into whole objects is whole by neighbours. Assumes nothing.
use Rattle.std.proofs.Common.{◌≡◌, ℕ, ◌+◌, ◌-◌, ◌<◌, ◌≤◌, true, ltb, sym, refl, ap, ◌∙◌, subst, ⊎_elim, arith}
use Rattle.std.proofs.lemmas.Bool.Decides.{nat_tests}
use Rattle.std.proofs.lemmas.Bool.{cases_lt, and_from, lt-ltb}
use Rattle.store.specs.declared.tags.Kind.{Kind}
use Rattle.store.specs.declared.tags.Cell.{Cell}
use Rattle.store.specs.Cells.{Memory, Whole, cell_of, sized, sound, next}
use Rattle.store.specs.Objects.{Among, Object, Divided}
use Rattle.store.proofs.Objects.{divided}
use Rattle.store_laws.specs.Laws.{WholeObjects}

-- the cell of a byte of an object
byte_of : (m : Memory) (s : ℕ) (k : Kind) (n i : ℕ) → Object m s k n → Among s n i → m i ≡ cell_of k n (i - s)
byte_of m s k n i o h =
    let e : s + (i - s) ≡ i = omega arith in
    subst (λ (j : ℕ). m j ≡ cell_of k n (i - s)) e (o.bytes (i - s) (omega arith))

next_inner : (k : Kind) (n p q : ℕ) → p + 1 < n → q ≡ p + 1 → next (cell_of k n p) (cell_of k n q) ≡ true
next_inner k n p q h e = grind (arith, nat_tests)

next_outer : (c d : Cell) → c.size ≤ c.position + 1 → d.position ≡ 0 → next c d ≡ true
next_outer c d h e = grind (arith, nat_tests)

module _ (m : Memory) (d : Divided m) where
  sound_at : (i : ℕ) → sound (m i) ≡ true
  sound_at i =
      ⊎_elim
      (λ (h : i < 4096).
      let o = d.covered i h in
      rw (byte_of m o.0 o.1 o.2 i o.4 o.3) (and_from (sized o.1 o.2) (ltb (i - o.0) o.2) o.4.size (lt-ltb (i - o.0) o.2 (omega arith))))
      (λ (h : 4096 ≤ i). rw (d.ended i h) refl)
      (cases_lt i 4096)

  -- after the last byte of an object another begins
  begins-next : (i s : ℕ) (k : Kind) (n : ℕ) → Object m s k n → Among s n i → s + n ≤ i + 1 → (m (i + 1)).position ≡ 0
  begins-next i s k n o h e =
      ⊎_elim
      (λ (l : i + 1 < 4096).
      let p = d.covered (i + 1) l in
      let here = byte_of m s k n i o h in
      let there = byte_of m p.0 p.1 p.2 (i + 1) p.4 p.3 in
      ⊎_elim
      (λ (b : p.0 < i + 1).
      let also = byte_of m p.0 p.1 p.2 i p.4 (omega arith, omega arith) in
      let size : n ≡ p.2 = ap (λ c. c.size) (sym here ∙ also) in
      let place : i - s ≡ i - p.0 = ap (λ c. c.position) (sym here ∙ also) in
      absurd (omega arith))
      (λ (b : i + 1 ≤ p.0). ap (λ c. c.position) there ∙ omega arith)
      (cases_lt p.0 (i + 1)))
      (λ (l : 4096 ≤ i + 1). ap (λ c. c.position) (d.ended (i + 1) l))
      (cases_lt (i + 1) 4096)

  next_at : (i : ℕ) → next (m i) (m (i + 1)) ≡ true
  next_at i =
      ⊎_elim
      (λ (h : i < 4096).
      let o = d.covered i h in
      let here = byte_of m o.0 o.1 o.2 i o.4 o.3 in
      ⊎_elim
      (λ (l : i + 1 < o.0 + o.2).
      let there = byte_of m o.0 o.1 o.2 (i + 1) o.4 (omega arith, l) in
      rw (here, there) (next_inner o.1 o.2 (i - o.0) (i + 1 - o.0) (omega arith) (omega arith)))
      (λ (l : o.0 + o.2 ≤ i + 1).
      next_outer (m i) (m (i + 1)) (rw here (omega arith)) (begins-next i o.0 o.1 o.2 o.4 o.3 l))
      (cases_lt (i + 1) (o.0 + o.2)))
      (λ (h : 4096 ≤ i). rw (d.ended i h, d.ended (i + 1) (omega arith)) refl)
      (cases_lt i 4096)

  whole_by : Whole m
  whole_by =
      let o = d.covered 0 (omega arith) in (
        ap (λ c. c.position) (byte_of m o.0 o.1 o.2 0 o.4 o.3) ∙ omega arith,
        sound_at,
        next_at,
        (λ i h. rw (d.ended i h) refl),
      )

pub whole-objects : WholeObjects
whole-objects = record { divides = divided; joins = whole_by }
