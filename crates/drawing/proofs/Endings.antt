-- The largest of the fields' ends is the record's. Assumes nothing.
use Rattle.std.proofs.Common.{◌≡◌, ℕ, zero, suc, ◌<◌, ◌≤◌, min, max, ◌⊎◌, refl, ap, ◌∙◌, inl, inr, ⊎_elim, arith}
use Rattle.std.proofs.lemmas.Bool.{cases_lt, cases_eq}
use Rattle.layout.specs.declared.layout.Layout.{Layout}
use Rattle.drawing.specs.Drawn.{Ends, end_of, ending, field_in}

module _ (l : Layout) where
  reaches : (n k : ℕ) → k < n → ending (field_in l k) ≤ end_of l n
  reaches zero k h = absurd (omega arith)
  reaches (suc n) k h = ⊎_elim
      (λ (e : k ≡ n). rw e (omega arith))
      (λ (e : k ≡ n → ⊥). omega (arith, reaches n k (omega arith)))
      (cases_eq k n)

  reached : (n : ℕ) → (end_of l n ≡ 0) ⊎ ((k : ℕ) × (k < n) × (end_of l n ≡ ending (field_in l k)))
  reached zero = inl refl
  reached (suc n) = ⊎_elim
      (λ (h : end_of l n < ending (field_in l n)). inr (n, omega arith, omega arith))
      (λ (h : ending (field_in l n) ≤ end_of l n).
      let e : max (end_of l n) (ending (field_in l n)) ≡ end_of l n = omega arith in
      ⊎_elim (λ z. inl (e ∙ z)) (λ s. inr (s.0, omega (arith, s.1), e ∙ s.2)) (reached n))
      (cases_lt (end_of l n) (ending (field_in l n)))

  pub ends : Ends l (min (end_of l l.count) 4096)
  ends = record {
    reaches = λ k h. omega (arith, reaches l.count k h);
    reached = ⊎_elim (λ z. inl (rw z (omega arith))) (λ s. inr (s.0, s.1, ap (λ e. min e 4096) s.2)) (reached l.count);
  }
