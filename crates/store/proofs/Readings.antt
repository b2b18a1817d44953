-- What the first byte tells of a reading. Assumes nothing.
use Rattle.std.proofs.Common.{◌≡◌, ℕ, zero, suc, ◌+◌, ◌<◌, true, false, cond, ◌&&◌, eqb, sym, refl, ◌∙◌, subst, ⊎_elim, arith}
use Rattle.std.proofs.lemmas.Bool.{and_from, and_left, and_right, cases_Bool, cases_eq, both_ways, eq-eqb, ne_eqb, eqb-true}
use Rattle.store.specs.declared.tags.Kind.{Kind}
use Rattle.store.specs.declared.tags.Kind.TheVariants.{Uninitialized, Zero, Torn}
use Rattle.store.specs.Cells.{Memory, number_of, single, sound}
use Rattle.store.specs.Reading.{same, all_of, kind_read}
use Rattle.store.proofs.Numbers.{single-size, sized_of}

-- bytes that each have the kind
pub each-all : (m : Memory) (k : Kind) (a n : ℕ) → ((j : ℕ) → j < n → same (m (a + j)).kind k ≡ true) → all_of m k a n ≡ true
each-all m k a zero h = refl
each-all m k a (suc n) h = and_from (all_of m k a n) (same (m (a + n)).kind k) (each-all m k a n (λ j l. h j (omega arith))) (h n (omega arith))

-- one byte of another kind spoils all
pub not-all : (m : Memory) (k : Kind) (a n j : ℕ) → j < n → same (m (a + j)).kind k ≡ false → all_of m k a n ≡ false
not-all m k a zero j h d = absurd (omega arith)
not-all m k a (suc n) j h d =
    ⊎_elim
    (λ (e : j ≡ n). and_right (all_of m k a n) (same (m (a + n)).kind k) (subst (λ (i : ℕ). same (m (a + i)).kind k ≡ false) e d))
    (λ (e : j ≡ n → ⊥). and_left (all_of m k a n) (same (m (a + n)).kind k) (not-all m k a n j (omega arith) d))
    (cases_eq j n)

pub not_first : (m : Memory) (k : Kind) (a n : ℕ) → 0 < n → same (m a).kind k ≡ false → all_of m k a n ≡ false
not_first m k a n h d = let e : a ≡ a + 0 = omega arith in not-all m k a n 0 h (subst (λ (i : ℕ). same (m i).kind k ≡ false) e d)

-- where the first byte is neither uninitialized nor zero, an object is read
pub read_object : (m : Memory) (a n : ℕ) → 0 < n → same (m a).kind Uninitialized ≡ false → same (m a).kind Zero ≡ false
    → kind_read m a n ≡ cond (eqb (m a).position 0 && eqb (m a).size n) (m a).kind Torn
read_object m a n h u z = rw (not_first m Uninitialized a n h u, not_first m Zero a n h z) refl

-- and where it is one of the two, either all bytes have that kind or the reading is torn
not_one : (m : Memory) (a n : ℕ) → 0 < n → sound (m a) ≡ true → single (m a).kind ≡ true → all_of m (m a).kind a n ≡ false
    → cond (eqb (m a).position 0 && eqb (m a).size n) (m a).kind Torn ≡ Torn
not_one m a n h s o f =
    let one : (m a).size ≡ 1 = eqb-true (m a).size 1 (sym (single-size (m a).kind (m a).size o) ∙ sized_of (m a) s) in
    let many : n ≡ 1 → ⊥ = λ e.
    let here : same (m (a + 0)).kind (m a).kind ≡ true = let z : a + 0 ≡ a = omega arith in rw z (eq-eqb (number_of (m a).kind) (number_of (m a).kind) refl) in
    let all : all_of m (m a).kind a 1 ≡ true = here in
    both_ways (all_of m (m a).kind a n) f (rw e all) in
    let other : eqb (m a).size n ≡ false = ne_eqb (m a).size n (λ e. many (sym e ∙ one)) in
    rw (and_right (eqb (m a).position 0) (eqb (m a).size n) other) refl

pub read_uninitialized : (m : Memory) (a n : ℕ) → 0 < n → sound (m a) ≡ true → (m a).kind ≡ Uninitialized
    → cond (all_of m Uninitialized a n) Uninitialized Torn ≡ kind_read m a n
read_uninitialized m a n h s e =
    let z : same (m a).kind Zero ≡ false = rw e refl in
    let k : single (m a).kind ≡ true = rw e refl in
    ⊎_elim
    (λ (t : all_of m Uninitialized a n ≡ true). rw t refl)
    (λ (f : all_of m Uninitialized a n ≡ false).
    let g : all_of m (m a).kind a n ≡ false = rw e f in
    rw (f, not_first m Zero a n h z) (sym (not_one m a n h s k g)))
    (cases_Bool (all_of m Uninitialized a n))

pub read_zero : (m : Memory) (a n : ℕ) → 0 < n → sound (m a) ≡ true → (m a).kind ≡ Zero
    → cond (all_of m Zero a n) Zero Torn ≡ kind_read m a n
read_zero m a n h s e =
    let u : same (m a).kind Uninitialized ≡ false = rw e refl in
    let k : single (m a).kind ≡ true = rw e refl in
    ⊎_elim
    (λ (t : all_of m Zero a n ≡ true). rw (not_first m Uninitialized a n h u, t) refl)
    (λ (f : all_of m Zero a n ≡ false).
    let g : all_of m (m a).kind a n ≡ false = rw e f in
    rw (not_first m Uninitialized a n h u, f) (sym (not_one m a n h s k g)))
    (cases_Bool (all_of m Zero a n))
