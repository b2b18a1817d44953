-- What a placing keeps. Assumes nothing.
use Rattle.std.proofs.Common.{◌≡◌, ℕ, ◌+◌, ◌-◌, ◌<◌, ◌≤◌, Bool, true, false, cond, ltb, refl, ⊎_elim, arith}
use Rattle.std.proofs.lemmas.Bool.Decides.{nat_tests}
use Rattle.std.proofs.lemmas.Bool.{cases_Bool, and_from, lt-ltb}
use Rattle.store.specs.declared.tags.Kind.{Kind}
use Rattle.store.specs.declared.tags.Cell.{Cell}
use Rattle.store.specs.declared.placing.Placing.{Placing}
use Rattle.store.specs.Placing.{laid}
use Rattle.store.specs.Cells.{Memory, empty, cell_of, unallocated, torn, kind_of, sized, single, fitting, fresh, among, touched, placed, refused, sound, next, Whole}
use Rattle.store.proofs.Numbers.{blank_is, single-size, inside_of}

-- what a placing that is not refused asks
pub granted : (a k n : ℕ) → refused a k n ≡ false → (0 < n) × (a + n ≤ 4096) × (fitting (kind_of k) n ≡ true)
granted a k n h = (grind (arith, nat_tests), grind (arith, nat_tests), grind (arith, nat_tests))

-- a fresh cell is sound
pub sound-fresh : (k : Kind) (n j : ℕ) → fitting k n ≡ true → j < n → sound (fresh k n j) ≡ true
sound-fresh k n j f l =
    ⊎_elim
    (λ (s : single k ≡ true). rw s (and_from (sized k 1) true (single-size k 1 s) refl))
    (λ (s : single k ≡ false). rw s (and_from (sized k n) (ltb j n) (rw s at f) (lt-ltb j n l)))
    (cases_Bool (single k))

among_lt : (a n i : ℕ) → among a n i ≡ true → i - a < n
among_lt a n i h = grind (arith, nat_tests)

-- what a placing lays is sound
pub sound-laid : (p : Placing) (i : ℕ) → sound (laid p i) ≡ true
sound-laid p i =
    ⊎_elim
    (λ (t : among p.start p.size i ≡ true). rw t (sound-fresh p.kind p.size (i - p.start) p.fits (among_lt p.start p.size i t)))
    (λ (f : among p.start p.size i ≡ false). rw f refl)
    (cases_Bool (among p.start p.size i))

sound_chosen : (A T : Bool) (x c : Cell) → (A ≡ true → sound x ≡ true) → sound c ≡ true → sound (cond A x (cond T torn c)) ≡ true
sound_chosen true T x c h s = h refl
sound_chosen false true x c h s = refl
sound_chosen false false x c h s = s

pub sound-placed : (m : Memory) (a : ℕ) (k : Kind) (n i : ℕ) → fitting k n ≡ true → sound (m i) ≡ true → sound (placed m a k n i) ≡ true
sound-placed m a k n i f s =
    sound_chosen (among a n i) (touched a n i (m i)) (fresh k n (i - a)) (m i)
    (λ h. sound-fresh k n (i - a) f (among_lt a n i h)) s

-- neighbours stay neighbours, whether the placing makes one object or one of each byte
next_chosen : (single : Bool) (k : Kind) (a n i : ℕ) (c d : Cell) → c.position < c.size → d.position < d.size → next c d ≡ true
    → next (cond (among a n i) (cond single (cell_of k 1 0) (cell_of k n (i - a))) (cond (touched a n i c) torn c))
    (cond (among a n (i + 1)) (cond single (cell_of k 1 0) (cell_of k n (i + 1 - a))) (cond (touched a n (i + 1) d) torn d)) ≡ true
next_chosen true k a n i c d hc hd h = grind (arith, nat_tests)
next_chosen false k a n i c d hc hd h = grind (arith, nat_tests)

first_chosen : (single : Bool) (k : Kind) (a n : ℕ) (c : Cell) → c.position ≡ 0
    → (cond (among a n 0) (cond single (cell_of k 1 0) (cell_of k n (0 - a))) (cond (touched a n 0 c) torn c)).position ≡ 0
first_chosen true k a n c h = grind (arith, nat_tests)
first_chosen false k a n c h = grind (arith, nat_tests)

-- past its end memory stays unallocated
pub past_placed : (m : Memory) (a : ℕ) (k : Kind) (n i : ℕ) → a + n ≤ 4096 → 4096 ≤ i → m i ≡ unallocated → placed m a k n i ≡ unallocated
past_placed m a k n i l h e = rw e (grind (arith, nat_tests))

-- A new memory is whole.
pub whole-empty : Whole empty
whole-empty = (refl, (λ i. refl), (λ i. refl), (λ i h. refl))

-- A placing within memory leaves it whole.
pub whole-placed : (m : Memory) (a : ℕ) (k : Kind) (n : ℕ) → Whole m → a + n ≤ 4096 → fitting k n ≡ true → Whole (placed m a k n)
whole-placed m a k n w l f = (
  first_chosen (single k) k a n (m 0) w.0,
  (λ i. sound-placed m a k n i f (w.1 i)),
  (λ i. next_chosen (single k) k a n i (m i) (m (i + 1)) (inside_of (m i) (w.1 i)) (inside_of (m (i + 1)) (w.1 (i + 1))) (w.2 i)),
  (λ i h. rw (past_placed m a k n i l h (blank_is (m i) (w.3 i h))) refl),
)
