-- What a mark tells after a search. Assumes nothing.
use Rattle.std.proofs.Common.{◌≡◌, ℕ, true, not, eqb, List, get_or, Decides, arith}
use Rattle.std.proofs.lemmas.Bool.Decides.{nat_tests}
use Rattle.search.specs.Marks.{Reached, marked}

pub decides_mark : {path : ℕ → Type 0} {marks : List ℕ} → Reached path marks → (i : ℕ) → Decides (marked marks i) (path i)
decides_mark {marks = marks} r i = (λ t. r.sound i (λ z. is (get_or marks i 0) t z), λ p. one (get_or marks i 0) (r.whole i p))
  where
    is : (m : ℕ) → not (eqb m 0) ≡ true → m ≡ 0 → ⊥
    is m t z = grind (arith, nat_tests)

    one : (m : ℕ) → m ≡ 1 → not (eqb m 0) ≡ true
    one m e = grind (arith, nat_tests)
