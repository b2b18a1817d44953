use Rattle.std.proofs.Common.{rules, ℕ, ◌<◌, ◌≤◌, subst, Some, None, Option, MatchOption, arith}
use Rattle.std.proofs.lemmas.Iterator.{first_from_Range}
use Rattle.first.specs.First.{First}
use Rattle.first.proofs.first_bad.Goals as goal

told : (bad : ℕ → Type 0) (n : ℕ) (r : Option ℕ)
    → MatchOption r ((k : ℕ) → 0 ≤ k → k < n → k < n → bad k → ⊥) (λ i. (0 ≤ i) × (i < n) × (i < n → bad i) × ((k : ℕ) → 0 ≤ k → k < i → k < n → bad k → ⊥))
    → First bad n r
told bad n (Some i) h = record { below = h.1; here = h.2 h.1; before = λ k l b. h.3 k (omega arith) l (omega (arith, h.1)) b }
told bad n None h = λ k l b. h k (omega arith) l l b

pub returns : goal.returns
returns g c =
    let bad = g.T.Test.bad c.args.test.now in
    let n = g.T.Test.places c.args.test.now in
    let h = first_from_Range _ _ _ c.find.result (λ k. k < n → bad k) (λ k. k < n → bad k → ⊥) c.find.ensures.ran (λ x q k. search rules) (λ x q k. search rules) in
    told bad n c.find.result (subst (λ m. MatchOption c.find.result ((k : ℕ) → 0 ≤ k → k < m → k < n → bad k → ⊥) (λ i. (0 ≤ i) × (i < m) × (i < n → bad i) × ((k : ℕ) → 0 ≤ k → k < i → k < n → bad k → ⊥))) c.count.ensures h)
