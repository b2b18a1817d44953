-- How many of the numbers below n pass a test. Assumes nothing.
use Rattle.std.proofs.Common.{◌≡◌, ℕ, zero, suc, ◌+◌, ◌<◌, Bool, true, false, ◌≢◌, refl, ap, ◌∙◌, ⊎_elim, not-suc-le-zero, arith}
use Rattle.std.proofs.lemmas.Bool.{cases_eq}

abbrev unit : Bool → ℕ
unit true = 1
unit false = 0

unfoldable pub count : (ℕ → Bool) → ℕ → ℕ
count p zero = 0
count p (suc n) = unit (p n) + count p n

pub count-all : (n : ℕ) → count (λ _. true) n ≡ n
unfolding count
count-all zero = refl
count-all (suc n) = omega (arith, count-all n)

pub count_same : (p q : ℕ → Bool) (n : ℕ) → ((i : ℕ) → i < n → q i ≡ p i) → count q n ≡ count p n
unfolding count
count_same p q zero same = refl
count_same p q (suc n) same =
    let here : unit (q n) ≡ unit (p n) = ap unit (same n (omega arith)) in
    omega (arith, count_same p q n (λ i h. same i (omega arith)))

-- a test that j alone passes no more counts one less
pub count_less : (p q : ℕ → Bool) (j n : ℕ) → j < n → p j ≡ true → q j ≡ false → ((i : ℕ) → i ≢ j → q i ≡ p i) → count p n ≡ count q n + 1
unfolding count
count_less p q j zero h was is same = absurd (not-suc-le-zero h)
count_less p q j (suc n) h was is same =
    ⊎_elim
    (λ e. let one : unit (p n) ≡ 1 = ap unit (ap p e ∙ was) in
    let none : unit (q n) ≡ 0 = ap unit (ap q e ∙ is) in
    omega (arith, count_same p q n (λ i l. same i (omega arith))))
    (λ ne. let here : unit (q n) ≡ unit (p n) = ap unit (same n ne) in
    omega (arith, count_less p q j n (omega arith) was is same))
    (cases_eq n j)
