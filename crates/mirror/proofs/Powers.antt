-- Sizes are powers of 2, told by their logarithm. Assumes nothing.
use Rattle.std.proofs.Common.{◌≡◌, ℕ, suc, ◌+◌, ◌-◌, ◌*◌, ◌^◌, ◌<◌, ◌≤◌, true, ◌⊎◌, refl, ◌∙◌, ⊎_elim, mul_comm, pow-suc, arith, pow_mono}
use lib.Pow.{pow-lt}
use Rattle.std.proofs.lemmas.Bool.Decides.{nat_tests}
use Rattle.std.proofs.lemmas.Bool.{cases_lt}
use Rattle.store.specs.Cells.{is_size}
use Rattle.mirror.specs.Nibbles.{log2, size_from}

-- the only place that goes through the sizes one by one
pub power : (n : ℕ) → is_size n ≡ true → (2 ^ log2 n ≡ n) × (log2 n < 8)
power n h = ⊎_elim at1 (⊎_elim at2 at4) which
  where
    which : (n ≡ 1) ⊎ ((n ≡ 2) ⊎ (n ≡ 4))
    which = grind (arith, nat_tests)

    at1 : n ≡ 1 → (2 ^ log2 n ≡ n) × (log2 n < 8)
    at1 e = rw e (refl, omega arith)

    at2 : n ≡ 2 → (2 ^ log2 n ≡ n) × (log2 n < 8)
    at2 e = rw e (refl, omega arith)

    at4 : n ≡ 4 → (2 ^ log2 n ≡ n) × (log2 n < 8)
    at4 e = rw e (refl, omega arith)

-- a size of more than a byte has a logarithm above 0
pub log_above : (n : ℕ) → is_size n ≡ true → 1 < n → 0 < log2 n
log_above n h l =
    ⊎_elim (λ (p : 0 < log2 n). p)
    (λ (p : log2 n ≤ 0). let z : log2 n ≡ 0 = omega arith in let e : 1 ≡ n = rw z at (power n h).0 in absurd (omega arith))
    (cases_lt 0 (log2 n))

-- what a second nibble tells
pub size_told : (n : ℕ) → is_size n ≡ true → size_from (8 + log2 n) ≡ n
size_told n h = let e : 8 + log2 n - 8 ≡ log2 n = omega arith in rw e (power n h).0

-- what a first nibble tells in its place
pub one_told : (x : ℕ) → x < 8 → size_from x ≡ 1
one_told x h = let e : x - 8 ≡ 0 = omega arith in rw e refl

-- the logarithm is the only number between whose power and the next a size lies
pub log_only : (n r : ℕ) → is_size n ≡ true → 2 ^ r ≤ n → n < 2 * 2 ^ r → r ≡ log2 n
log_only n r h low high =
    let e = (power n h).0 in
    let double : 2 ^ suc r ≡ 2 * 2 ^ r = pow_double r in
    ⊎_elim
    (λ (l : r < log2 n). let p : 2 ^ suc r ≤ 2 ^ log2 n = pow_mono l in absurd (omega arith))
    (λ (g : log2 n ≤ r). ⊎_elim (λ (l : log2 n < r). let p : 2 ^ log2 n < 2 ^ r = pow-lt l in absurd (omega arith)) (λ (k : r ≤ log2 n). omega arith) (cases_lt (log2 n) r))
    (cases_lt r (log2 n))
  where
    pow_double : (r : ℕ) → 2 ^ suc r ≡ 2 * 2 ^ r
    pow_double r = pow-suc 2 r ∙ mul_comm (2 ^ r) 2
