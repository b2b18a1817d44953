-- The bits of a number that is made bit by bit, the highest first. Assumes nothing.
use Rattle.std.proofs.Common.{◌≡◌, ℕ, zero, suc, ◌+◌, ◌-◌, ◌*◌, ◌/◌, ◌%◌, ◌^◌, ◌<◌, ◌≤◌, Bool, true, false, cond, ◌&&◌, eqb, ltb, sym, ap, ◌∙◌, pow-suc, arith}
use native.Mathlib.Nat.{pow-succ', zero-div, div-div-eq-div-mul}
use Rattle.std.proofs.lemmas.Bool.{le-ltb, lt-ltb}
use Rattle.memory.specs.Links.{bit}

-- a test as a number
abbrev pub digit : Bool → ℕ
digit b = cond b 1 0

pub bit-none : (d : ℕ) → bit 0 d ≡ false
unfolding bit
bit-none d = ap (λ x. eqb (x % 2) 1) (zero-div (2 ^ d))

bit_first : (m : ℕ) (b : Bool) → bit (m * 2 + digit b) 0 ≡ b
unfolding bit
bit_first m true = let e : (m * 2 + 1) / 1 % 2 ≡ 1 = omega arith in ap (λ x. eqb x 1) e
bit_first m false = let e : (m * 2 + 0) / 1 % 2 ≡ 0 = omega arith in ap (λ x. eqb x 1) e

bit-next : (m : ℕ) (b : Bool) (d : ℕ) → bit (m * 2 + digit b) (suc d) ≡ bit m d
unfolding bit
bit-next m b d =
    let half : (m * 2 + digit b) / 2 ≡ m = half_of m b in
    ap (λ p. eqb ((m * 2 + digit b) / p % 2) 1) (pow-succ' 2 d)
    ∙ ap (λ x. eqb (x % 2) 1) (sym (div-div-eq-div-mul (m * 2 + digit b) 2 (2 ^ d)))
    ∙ ap (λ x. eqb (x / 2 ^ d % 2) 1) half
  where
    half_of : (m : ℕ) (b : Bool) → (m * 2 + digit b) / 2 ≡ m
    half_of m true = omega arith
    half_of m false = omega arith

-- one more test in front: the bits of m tell the tests from i + 1 on, of those below n
pub bits_more : (t : ℕ → Bool) (n i m : ℕ) → i < n → ((d : ℕ) → bit m d ≡ (ltb (i + 1 + d) n && t (i + 1 + d))) → (d : ℕ) → bit (m * 2 + digit (t i)) d ≡ (ltb (i + d) n && t (i + d))
bits_more t n i m h old zero =
    let at : i + 0 ≡ i = omega arith in
    bit_first m (t i) ∙ ap (λ b. b && t i) (sym (lt-ltb i n h)) ∙ ap (λ k. ltb k n && t k) (sym at)
bits_more t n i m h old (suc d) =
    let at : i + 1 + d ≡ i + suc d = omega arith in
    bit-next m (t i) d ∙ old d ∙ ap (λ k. ltb k n && t k) at

pub bits_none : (t : ℕ → Bool) (n d : ℕ) → bit 0 d ≡ (ltb (n + d) n && t (n + d))
bits_none t n d = bit-none d ∙ ap (λ b. b && t (n + d)) (sym (le-ltb (n + d) n (omega arith)))

pub below_more : (n i m x : ℕ) → i < n → x < 2 → m < 2 ^ (n - (i + 1)) → m * 2 + x < 2 ^ (n - i)
below_more n i m x h l e =
    let s : n - i ≡ suc (n - (i + 1)) = omega arith in
    rw (s, pow-suc 2 (n - (i + 1))) (omega arith)
