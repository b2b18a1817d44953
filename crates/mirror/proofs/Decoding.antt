-- A whole memory is what its nibbles stand for. Assumes nothing.
use Rattle.std.proofs.Common.{◌≡◌, ℕ, zero, suc, ◌+◌, ◌-◌, ◌*◌, ◌/◌, ◌%◌, ◌<◌, ◌≤◌, Bool, true, false, cond, ◌&&◌, eqb, ltb, leb, ◌⊎◌, List, length, get_or, replicate, sym, refl, ap, ◌∙◌, subst, inl, inr, ⊎_elim, arith}
use mathlib.Core.Path.{fun_ext}
use lib.ListN.{get_or-replicate, length-replicate}
use Rattle.std.proofs.lemmas.List.{get_or_past}
use Rattle.std.proofs.lemmas.Bool.Decides.{nat_tests}
use Rattle.std.proofs.lemmas.Bool.{cases_lt, cond_both}
use Rattle.store.specs.declared.tags.Kind.{Kind}
use Rattle.store.specs.declared.tags.Kind.TheVariants.{Unallocated, Uninitialized, Zero, Integral, Real, Pointer, Torn}
use Rattle.store.specs.declared.tags.Cell.{Cell}
use Rattle.store.specs.Cells.{Memory, empty, number_of, kind_of, is_size, sound, next, Whole}
use Rattle.store.proofs.Numbers.{kind_number, inside_of, sized_of, size_of}
use Rattle.store.proofs.Placings.{whole-empty}
use Rattle.store.proofs.Objects.{forth, back, begins, backward, another}
use Rattle.mirror.specs.Nibbles.{nibbles, nibble_of, log2, size_from, place_in, decoded}
use Rattle.mirror.proofs.Powers.{power, log_above, size_told, one_told}

pub nibble_past : (xs : List ℕ) (i : ℕ) → length xs ≡ 2048 → 4096 ≤ i → nibbles xs i ≡ 0
nibble_past xs i l h =
    let d : 2048 ≤ i / 2 = omega arith in
    let e = get_or_past xs (i / 2) 0 (omega arith) in
    grind (arith, nat_tests)

-- the position of a byte that is not the first of memory
place_of : (f : ℕ → ℕ) (i : ℕ) → 0 < i → place_in f i ≡ cond (ltb (f i) 8) 0 (cond (ltb 8 (f i)) 1 (place_in f (i - 1) + 1))
place_of f zero h = absurd (omega arith)
place_of f (suc i) h = let e : suc i - 1 ≡ i = omega arith in rw e refl

pub place_first : (f : ℕ → ℕ) (i : ℕ) → 0 < i → f i < 8 → 0 ≡ place_in f i
place_first f i h l = rw (place_of f i h) (grind (arith, nat_tests))

pub place_second : (f : ℕ → ℕ) (i : ℕ) → 0 < i → 8 < f i → 1 ≡ place_in f i
place_second f i h l = rw (place_of f i h) (grind (arith, nat_tests))

pub place_further : (f : ℕ → ℕ) (i : ℕ) → 0 < i → f i ≡ 8 → place_in f (i - 1) + 1 ≡ place_in f i
place_further f i h l = rw (place_of f i h, l) refl

number_small : (k : Kind) → number_of k < 8
number_small Unallocated = omega arith
number_small Uninitialized = omega arith
number_small Zero = omega arith
number_small Integral = omega arith
number_small Real = omega arith
number_small Pointer = omega arith
number_small Torn = omega arith

pub size-sound : (c : Cell) → sound c ≡ true → is_size c.size ≡ true
size-sound c h = size_of c.kind c.size (sized_of c h)

-- the nibble of a first, a second and a further byte
nib_first : (c : Cell) → c.position ≡ 0 → nibble_of c ≡ number_of c.kind
nib_first c h = rw h refl

nib_second : (c : Cell) → c.position ≡ 1 → nibble_of c ≡ 8 + log2 c.size
nib_second c h = rw h refl

nib_further : (c : Cell) → 1 < c.position → nibble_of c ≡ 8
nib_further c h = further c.position (number_of c.kind) (8 + log2 c.size) h
  where
    further : (p x y : ℕ) → 1 < p → cond (eqb p 0) x (cond (eqb p 1) y 8) ≡ 8
    further p x y h = grind (arith, nat_tests)

-- a nibble has 4 bits
pub nibble_small : (c : Cell) → sound c ≡ true → nibble_of c < 16
nibble_small c h = small c.position (number_of c.kind) (log2 c.size) (number_small c.kind) (power c.size (size-sound c h)).1
  where
    small : (p x y : ℕ) → x < 8 → y < 8 → cond (eqb p 0) x (cond (eqb p 1) (8 + y) 8) < 16
    small p x y h g = cond_both (eqb p 0) x (cond (eqb p 1) (8 + y) 8) (λ n. n < 16) (λ e. omega arith) (λ e. cond_both (eqb p 1) (8 + y) 8 (λ n. n < 16) (λ f. omega arith) (λ f. omega arith))

chosen : (x q p : ℕ) → ((x < 8) × (p ≡ 0)) ⊎ (((8 < x) × (p ≡ 1)) ⊎ ((x ≡ 8) × (p ≡ q + 1))) → cond (ltb x 8) 0 (cond (ltb 8 x) 1 (q + 1)) ≡ p
chosen x q p h = grind (arith, nat_tests)

-- the position that a nibble tells, where the byte before is at q
place_step : (c : Cell) (q : ℕ) → sound c ≡ true → (0 < c.position → c.position ≡ q + 1) → cond (ltb (nibble_of c) 8) 0 (cond (ltb 8 (nibble_of c)) 1 (q + 1)) ≡ c.position
place_step c q h e =
    let inside = inside_of c h in
    let small = number_small c.kind in
    chosen (nibble_of c) q c.position (⊎_elim
    (λ (z : c.position < 1). let f = nib_first c (omega arith) in inl (omega arith, omega arith))
    (λ (z : 1 ≤ c.position). inr (⊎_elim
    (λ (y : c.position < 2).
    let s = nib_second c (omega arith) in
    let l = log_above c.size (size-sound c h) (omega arith) in
    inl (omega arith, omega arith))
    (λ (y : 2 ≤ c.position). inr (nib_further c (omega arith), e (omega arith)))
    (cases_lt c.position 2)))
    (cases_lt c.position 1))

module _ (m : Memory) (w : Whole m) where
  place_encoded : (i : ℕ) → place_in (λ j. nibble_of (m j)) i ≡ (m i).position
  place_encoded zero = sym w.0
  place_encoded (suc i) =
      let before = place_encoded i in
      let one : i + 1 ≡ suc i = omega arith in
      let n : next (m i) (m (suc i)) ≡ true = subst (λ (j : ℕ). next (m i) (m j) ≡ true) one (w.2 i) in
      rw before (place_step (m (suc i)) (m i).position (w.1 (suc i))
      (λ h. let q = ap (λ c. c.position) (backward (m i) (m (suc i)) n h) in omega arith))

  -- the nibble after an object's first tells its size
  second_tells : (s : ℕ) → (m s).position ≡ 0 → size_from (nibble_of (m (s + 1))) ≡ (m s).size
  second_tells s h =
      let inside = inside_of (m s) (w.1 s) in
      let size = size-sound (m s) (w.1 s) in
      ⊎_elim
      (λ (more : 1 < (m s).size).
      let f = forth m w s 1 (s + 1) refl (omega arith) in
      let q : (m (s + 1)).position ≡ 1 = ap (λ c. c.position) f ∙ omega arith in
      let z : (m (s + 1)).size ≡ (m s).size = ap (λ c. c.size) f in
      ap size_from (nib_second (m (s + 1)) q ∙ ap (λ n. 8 + log2 n) z) ∙ size_told (m s).size size)
      (λ (few : (m s).size ≤ 1).
      let q = another (m s) (m (s + 1)) (w.2 s) (omega arith) in
      ap size_from (nib_first (m (s + 1)) q) ∙ one_told (number_of (m (s + 1)).kind) (number_small (m (s + 1)).kind) ∙ omega arith)
      (cases_lt 1 (m s).size)

  decoded-encoded : (i : ℕ) → decoded (λ j. nibble_of (m j)) i ≡ m i
  decoded-encoded i =
      let b = begins m w i in
      let s : ℕ = i - (m i).position in
      let first = back m w i (m i).position s (omega arith) (omega arith) in
      let start : (m s).position ≡ 0 = ap (λ c. c.position) first ∙ omega arith in
      let kind : kind_of (nibble_of (m s)) ≡ (m i).kind = ap kind_of (nib_first (m s) start) ∙ kind_number (m s).kind ∙ ap (λ c. c.kind) first in
      let size : size_from (nibble_of (m (s + 1))) ≡ (m i).size = second_tells s start ∙ ap (λ c. c.size) first in
      rw (place_encoded i) (λ t. record { kind = kind t; size = size t; position = (m i).position })

-- a mirror whose nibbles are those of a whole memory stands for it
pub stands_for : (f : ℕ → ℕ) (m : Memory) → Whole m → ((i : ℕ) → f i ≡ nibble_of (m i)) → decoded f ≡ m
stands_for f m w h = let e : f ≡ (λ i. nibble_of (m i)) = fun_ext h in rw e (fun_ext (decoded-encoded m w))

-- n bytes of 0
pub nibbles-zero : (n c i : ℕ) → c ≡ 0 → nibbles (replicate n c) i ≡ 0
nibbles-zero n c i z =
    let row : List ℕ = replicate n c in
    let e : get_or row (i / 2) 0 ≡ 0 = ⊎_elim (λ h. get_or-replicate n (i / 2) c 0 h ∙ z) (λ h. get_or_past row (i / 2) 0 (rw length-replicate h)) (cases_lt (i / 2) n) in
    rw e (elim (eqb (i % 2) 0) as (λ b. ◌≡◌ {A = ℕ} (cond b 0 0) 0) [ true ↦ refl | false ↦ refl ])

pub decoded-zero : (n c : ℕ) → c ≡ 0 → decoded (nibbles (replicate n c)) ≡ empty
decoded-zero n c z = stands_for (nibbles (replicate n c)) empty whole-empty (λ i. nibbles-zero n c i z)

-- a byte is made of its two nibbles
pub byte-made : (bytes : List ℕ) (i : ℕ) → get_or bytes i 0 ≡ nibbles bytes (2 * i) + 16 * nibbles bytes (2 * i + 1)
byte-made bytes i =
    let even : 2 * i % 2 ≡ 0 = omega arith in
    let here : 2 * i / 2 ≡ i = omega arith in
    let odd : (2 * i + 1) % 2 ≡ 1 = omega arith in
    let same : (2 * i + 1) / 2 ≡ i = omega arith in
    rw (even, odd, here, same) (omega arith)

-- a turn of the loop that lays the nibbles
pub laid_more : (low i j v x y z : ℕ) → low ≤ i → (j ≡ i → v ≡ y) → x ≡ cond (leb low j && ltb j i) y z → cond (eqb j i) v x ≡ cond (leb low j && ltb j (i + 1)) y z
laid_more low i j v x y z l h e = grind (arith, nat_tests)

-- the nibble of one of two cells
pub chosen_nibble : (b : Bool) (c d : Cell) → cond b (nibble_of c) (nibble_of d) ≡ nibble_of (cond b c d)
chosen_nibble true c d = refl
chosen_nibble false c d = refl
