-- One more byte of a row, and of a number. Assumes nothing.
use Rattle.std.proofs.Common.{◌≡◌, ℕ, suc, ◌+◌, ◌-◌, ◌*◌, ◌/◌, ◌^◌, ◌<◌, ◌≤◌, true, false, cond, ◌≢◌, ◌⊎◌, inl, inr, List, ◌++◌, length, take, drop, set, replicate, sym, ap, ◌∙◌, ⊎_elim, pow-suc, add-one, arith, get_or-set_other, get_or-set_same}
use mathlib.Core.Path.{fun_ext}
use native.Mathlib.Nat.{div-div-eq-div-mul, pow-le-pow_right}
use lib.ListN.{get_or-replicate, length-replicate}
use borrow.Rule.Slice.PartMut.{put_mid}
use Rattle.std.proofs.lemmas.List.{get_or_past, get_or_append_left, get_or-append_right, get_or-take, get_or-drop, length-take-le}
use Rattle.std.proofs.lemmas.Bool.Decides.{nat_tests}
use Rattle.std.proofs.lemmas.Bool.{cases_eq, cases_lt}
use Rattle.store.specs.Cells.{among}
use Rattle.layout.specs.Fields.{byte_of}
use Rattle.memory.specs.Rules.{widest}
use Rattle.memory.specs.Bytes.{Bytes, held, zeros, written, cleared, value_at}

-- the row of bytes that a function lays from a on, before and after one more
more_here : (a n i : ℕ) → i ≡ a + n → among a (n + 1) i ≡ true
more_here a n i e = grind (arith, nat_tests)

more_other : (a n i : ℕ) → i ≢ a + n → among a (n + 1) i ≡ among a n i
more_other a n i e = grind (arith, nat_tests)

pub laid_more : (xs : List ℕ) (a n v : ℕ) (new old : Bytes) → a + n < length xs → v ≡ new (a + n)
    → held xs ≡ (λ i. cond (among a n i) (new i) (old i)) → held (set xs (a + n) v) ≡ (λ i. cond (among a (n + 1) i) (new i) (old i))
laid_more xs a n v new old h e inv = fun_ext (λ i. ⊎_elim
    (λ (s : i ≡ a + n). rw (more_here a n i s, s) (get_or-set_same xs (a + n) v 0 h ∙ e))
    (λ (s : i ≢ a + n). rw (more_other a n i s) (get_or-set_other xs (a + n) i v 0 s ∙ ap (λ (f : Bytes). f i) inv))
    (cases_eq i (a + n)))

-- a part of a row that was filled with zeros
pub cleared_part : (xs ys : List ℕ) (a n : ℕ) → a + n ≤ length xs → ys ≡ replicate n 0 → held (put_mid a n xs ys) ≡ cleared (held xs) a n
cleared_part xs ys a n l e = fun_ext (λ i. ⊎_elim
    (λ (h : i < a). rw (not_among a n i (inl h))
    (get_or_append_left (take a xs) (ys ++ drop n (drop a xs)) 0 i (omega (arith, front)) ∙ get_or-take a xs i 0 h))
    (λ (h : a ≤ i). ⊎_elim
    (λ (g : i < a + n). rw (is_among a n i h g)
    (get_or-append_right (take a xs) (ys ++ drop n (drop a xs)) a i 0 front h
    ∙ get_or_append_left ys (drop n (drop a xs)) 0 (i - a) (omega (arith, long)) ∙ ap (λ zs. held zs (i - a)) e ∙ get_or-replicate n (i - a) 0 0 (omega arith)))
    (λ (g : a + n ≤ i). rw (not_among a n i (inr g))
    (get_or-append_right (take a xs) (ys ++ drop n (drop a xs)) a i 0 front h
    ∙ get_or-append_right ys (drop n (drop a xs)) n (i - a) 0 long (omega arith)
    ∙ get_or-drop n (drop a xs) (i - a - n) 0 ∙ get_or-drop a xs (n + (i - a - n)) 0
    ∙ ap (held xs) (back i g)))
    (cases_lt i (a + n)))
    (cases_lt i a))
  where
    front : length (take a xs) ≡ a
    front = length-take-le a xs (omega arith)

    long : length ys ≡ n
    long = ap length e ∙ length-replicate {A = ℕ} n 0

    back : (i : ℕ) → a + n ≤ i → a + (n + (i - a - n)) ≡ i
    back i g = omega arith

    is_among : (a n i : ℕ) → a ≤ i → i < a + n → among a n i ≡ true
    is_among a n i h g = grind (arith, nat_tests)

    not_among : (a n i : ℕ) → (i < a) ⊎ (a + n ≤ i) → among a n i ≡ false
    not_among a n i (inl h) = grind (arith, nat_tests)
    not_among a n i (inr h) = grind (arith, nat_tests)

pub written_more : (xs : List ℕ) (f : Bytes) (a v n b : ℕ) → a + n < length xs → b ≡ byte_of v n → held xs ≡ written f a v n → held (set xs (a + n) b) ≡ written f a v (n + 1)
written_more xs f a v n b h e inv =
    let d : a + n - a ≡ n = omega arith in
    laid_more xs a n b (λ i. byte_of v (i - a)) f h (rw d e) inv

pub rest_more : (v n r : ℕ) → r ≡ v / 256 ^ n → r / 256 ≡ v / 256 ^ (n + 1)
rest_more v n r e = rw (add-one n, pow-suc 256 n) (ap (λ x. x / 256) e ∙ div-div-eq-div-mul v (256 ^ n) 256)

pub zeros_new : (n x : ℕ) → x ≡ 0 → held (replicate {A = ℕ} n x) ≡ zeros
zeros_new n x e = fun_ext (λ i. ⊎_elim
    (λ (h : i < n). get_or-replicate n i x 0 h ∙ e)
    (λ (h : n ≤ i). get_or_past (replicate {A = ℕ} n x) i 0 (omega (arith, length-replicate {A = ℕ} n x)))
    (cases_lt i n))

-- one more byte in front of a number
pub value_more : (f : Bytes) (a i n v : ℕ) → i < n → v ≡ value_at f (a + (i + 1)) (n - (i + 1)) → v * 256 + f (a + i) ≡ value_at f (a + i) (n - i)
value_more f a i n v h e =
    let s : n - i ≡ suc (n - (i + 1)) = omega arith in
    let q : a + i + 1 ≡ a + (i + 1) = omega arith in
    rw (s, q, sym e) (omega arith)

pub below_more : (i n v x : ℕ) → i < n → x < 256 → v < 256 ^ (n - (i + 1)) → v * 256 + x < 256 ^ (n - i)
below_more i n v x h l e =
    let s : n - i ≡ suc (n - (i + 1)) = omega arith in
    rw (s, pow-suc 256 (n - (i + 1))) (omega arith)

-- the number of an access fits its type
pub access_fits : (k : ℕ) → k ≤ widest → 256 ^ k ≤ 2 ^ 32
access_fits k h = let p : 256 ^ k ≤ 256 ^ widest = pow-le-pow_right (omega arith) h in p
