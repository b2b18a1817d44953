-- A row of one-byte placings is one placing over the row. Assumes nothing.
use Rattle.std.proofs.Common.{◌≡◌, ℕ, zero, suc, ◌+◌, ◌<◌, ◌≤◌, true, cond, sym, refl, ap, ◌∙◌, arith}
use mathlib.Core.Path.{fun_ext}
use Rattle.std.proofs.lemmas.Bool.Decides.{nat_tests}
use Rattle.store.specs.declared.tags.Kind.{Kind}
use Rattle.store.specs.declared.tags.Cell.{Cell}
use Rattle.store.specs.Cells.{Memory as Cells, Whole, cell_of, torn, single, among, touched, placed}
use Rattle.store.proofs.Numbers.{inside_of}

-- n bytes from a, one after the other
abbrev pub spread : Cells → ℕ → Kind → ℕ → Cells
spread m a k zero = m
spread m a k (suc n) = placed (spread m a k n) (a + n) k 1

-- the cell of byte i after a placing of single bytes of the kind
abbrev single-placed : ℕ → Kind → ℕ → ℕ → Cell → Cell
single-placed a k n i c = cond (among a n i) (cell_of k 1 0) (cond (touched a n i c) torn c)

one_more : (a : ℕ) (k : Kind) (n i : ℕ) (c : Cell) → 0 < n → c.position < c.size → single-placed (a + n) k 1 i (single-placed a k n i c) ≡ single-placed a k (n + 1) i c
one_more a k n i c some s = grind (arith, nat_tests)

placed-single : (m : Cells) (a : ℕ) (k : Kind) (n i : ℕ) → single k ≡ true → placed m a k n i ≡ single-placed a k n i (m i)
placed-single m a k n i s = rw s refl

module _ (m : Cells) (w : Whole m) (a : ℕ) (k : Kind) (s : single k ≡ true) where
  covers : (n : ℕ) → a + suc n ≤ 4096 → spread m a k (suc n) ≡ placed m a k (suc n)
  covers zero l = let e : a + 0 ≡ a = omega arith in rw e refl
  covers (suc n) l =
      let before = covers n (omega arith) in
      let e : suc (suc n) ≡ suc n + 1 = omega arith in
      fun_ext (λ i.
      placed-single (spread m a k (suc n)) (a + suc n) k 1 i s
      ∙ ap (λ (o : Cells). single-placed (a + suc n) k 1 i (o i)) before
      ∙ ap (single-placed (a + suc n) k 1 i) (placed-single m a k (suc n) i s)
      ∙ one_more a k (suc n) i (m i) (omega arith) (inside_of (m i) (w.1 i))
      ∙ sym (placed-single m a k (suc n + 1) i s)
      ∙ ap (λ (x : ℕ). placed m a k x i) (sym e))

  pub covered : (n : ℕ) → 0 < n → a + n ≤ 4096 → spread m a k n ≡ placed m a k n
  covered zero h l = absurd (omega arith)
  covered (suc n) h l = covers n l
