-- Numbers by their bytes. Assumes nothing.
use Rattle.std.proofs.Common.{◌≡◌, ℕ, zero, suc, ◌+◌, ◌*◌, ◌/◌, ◌^◌, ◌<◌, ◌≤◌, ltb, Decides, refl, ⊎_elim, pow-suc, arith}
use native.Mathlib.Nat.{one-le-pow, pow-le-pow_right, div-eq_of_lt}
use Rattle.std.proofs.lemmas.Nat.{pow-add, le-div}
use Rattle.std.proofs.lemmas.Bool.{cases_lt, lt-ltb, ltb-true}

pub pow_bytes : (n : ℕ) → 2 ^ (8 * n) ≡ 256 ^ n
pow_bytes zero = refl
pow_bytes (suc n) =
    let e : 8 * suc n ≡ 8 * n + 8 = omega arith in
    rw (e, pow-add 2 (8 * n) 8, pow_bytes n, pow-suc 256 n) refl

-- a number of w bytes has nothing above them
pub none_above : (x w n : ℕ) → x < 256 ^ w → w ≤ n → x / 256 ^ n ≡ 0
none_above x w n h l = let p : 256 ^ w ≤ 256 ^ n = pow-le-pow_right (omega arith) l in div-eq_of_lt (omega arith)

-- something is left above n bytes exactly if the number needs more
pub decides_above : (x n : ℕ) → Decides (ltb 0 (x / 256 ^ n)) (256 ^ n ≤ x)
decides_above x n =
    let pos : 0 < 256 ^ n = one-le-pow n 256 (omega arith) in (
      (λ t. ⊎_elim (λ (l : x < 256 ^ n). let z : x / 256 ^ n ≡ 0 = div-eq_of_lt l in let s = ltb-true 0 (x / 256 ^ n) t in absurd (omega arith)) (λ l. l) (cases_lt x (256 ^ n))),
      (λ l. lt-ltb 0 (x / 256 ^ n) (le-div 1 x (256 ^ n) pos (omega arith))),
    )
