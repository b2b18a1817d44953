-- In a whole memory all the bytes of an object agree. Assumes nothing.
use Rattle.std.proofs.Common.{◌≡◌, ℕ, zero, suc, ◌+◌, ◌-◌, ◌<◌, ◌≤◌, Bool, true, false, cond, ◌&&◌, ltb, leb, ◌⊎◌, refl, ap, ◌∙◌, inl, inr, ⊎_elim, arith}
use Rattle.std.proofs.lemmas.Bool.Decides.{nat_tests}
use Rattle.std.proofs.lemmas.Bool.{cases_lt, true≢false, false≢true}
use Rattle.store.specs.declared.tags.Kind.{Kind}
use Rattle.store.specs.declared.tags.Cell.{Cell}
use Rattle.store.specs.declared.placing.Placing.{Placing}
use Rattle.store.specs.Cells.{Memory, cell_of, torn, fresh, among, touched, next, Whole}
use Rattle.store.specs.Objects.{Among, Object, Divided}
use Rattle.store.specs.Placing.{carried, laid, last, span_in}
use Rattle.store.proofs.Numbers.{cell_is, blank_is, inside_of, sized_of}
use Rattle.store.proofs.Placings.{whole-placed}

-- two neighbours of one object
onward : (c d : Cell) → next c d ≡ true → c.position + 1 < c.size → d ≡ cell_of c.kind c.size (c.position + 1)
onward c d h l = cell_is d c.kind c.size (c.position + 1) (grind (arith, nat_tests)) (grind (arith, nat_tests)) (grind (arith, nat_tests))

pub backward : (c d : Cell) → next c d ≡ true → 0 < d.position → c ≡ cell_of d.kind d.size (d.position - 1)
backward c d h l = cell_is c d.kind d.size (d.position - 1) (grind (arith, nat_tests)) (grind (arith, nat_tests)) (grind (arith, nat_tests))

-- after the last byte of an object another begins
pub another : (c d : Cell) → next c d ≡ true → c.size ≤ c.position + 1 → d.position ≡ 0
another c d h l = grind (arith, nat_tests)

-- two pairs of tests that both pass, or both fail
both_pass : (a b c d e f g h : ℕ) → a < b → c < d → e ≤ f → g < h → (ltb a b && ltb c d) ≡ (leb e f && ltb g h)
both_pass a b c d e f g h p q r s = grind (arith, nat_tests)

both_fail : (a b c d e f g h : ℕ) → (b ≤ a) ⊎ (d ≤ c) → (f < e) ⊎ (h ≤ g) → (ltb a b && ltb c d) ≡ (leb e f && ltb g h)
both_fail a b c d e f g h p q = grind (arith, nat_tests)

-- the cell of a byte in the span and out of it
choose : {X : Type 0} (A S U : Bool) (f t c : X) → (A ≡ true → S ≡ true) → (A ≡ false → U ≡ S) → cond S (cond A f t) c ≡ cond A f (cond U t c)
choose true true U f t c p q = refl
choose true false U f t c p q = absurd (false≢true (p refl))
choose false true true f t c p q = refl
choose false true false f t c p q = absurd (false≢true (q refl))
choose false false true f t c p q = absurd (true≢false (q refl))
choose false false false f t c p q = refl

among_span : (a n j s e : ℕ) → s ≤ a → a + n ≤ e → among a n j ≡ true → (leb s j && ltb j e) ≡ true
among_span a n j s e p q h = grind (arith, nat_tests)

out_among : (a n j : ℕ) → among a n j ≡ false → (j < a) ⊎ (a + n ≤ j)
out_among a n j h = grind (arith, nat_tests)

module _ (m : Memory) (w : Whole m) where
  -- the byte k, which lies j above i in its object
  pub forth : (i j k : ℕ) → i + j ≡ k → (m i).position + j < (m i).size → m k ≡ cell_of (m i).kind (m i).size ((m i).position + j)
  forth i zero k e h =
      let here : k ≡ i = omega arith in
      let same : (m i).position ≡ (m i).position + 0 = omega arith in
      ap m here ∙ ap (cell_of (m i).kind (m i).size) same
  forth i (suc j) k e h =
      let before = forth i j (i + j) refl (omega arith) in
      let more : (m (i + j)).position + 1 < (m (i + j)).size = rw before (omega arith) in
      let here : k ≡ i + j + 1 = omega arith in
      let same : (m i).position + j + 1 ≡ (m i).position + suc j = omega arith in
      ap m here ∙ onward (m (i + j)) (m (i + j + 1)) (w.2 (i + j)) more ∙ rw before (ap (cell_of (m i).kind (m i).size) same)

  -- the byte k, which lies p below i in its object
  pub back : (i p k : ℕ) → k + p ≡ i → p ≤ (m i).position → m k ≡ cell_of (m i).kind (m i).size ((m i).position - p)
  back i zero k e h =
      let here : k ≡ i = omega arith in
      let same : (m i).position ≡ (m i).position - 0 = omega arith in
      ap m here ∙ ap (cell_of (m i).kind (m i).size) same
  back i (suc p) k e h =
      let above = back i p (k + 1) (omega arith) (omega arith) in
      let more : 0 < (m (k + 1)).position = rw above (omega arith) in
      let same : (m i).position - p - 1 ≡ (m i).position - suc p = omega arith in
      backward (m k) (m (k + 1)) (w.2 k) more ∙ rw above (ap (cell_of (m i).kind (m i).size) same)

  -- an object begins within memory
  pub begins : (i : ℕ) → (m i).position ≤ i
  begins zero = omega (arith, w.0)
  begins (suc i) =
      ⊎_elim
      (λ (h : 0 < (m (i + 1)).position).
      let b = begins i in
      let p = ap (λ c. c.position) (backward (m i) (m (i + 1)) (w.2 i) h) in
      let e : suc i ≡ i + 1 = omega arith in
      rw e (omega arith))
      (λ (h : (m (i + 1)).position ≤ 0). let e : suc i ≡ i + 1 = omega arith in rw e (omega arith))
      (cases_lt 0 (m (i + 1)).position)

  -- and ends there
  pub ends : (i : ℕ) → i < 4096 → i + (m i).size ≤ 4096 + (m i).position
  ends i h =
      ⊎_elim
      (λ (l : 4096 + (m i).position < i + (m i).size).
      let f = forth i (4096 - i) 4096 (omega arith) (omega arith) in
      let p = ap (λ c. c.position) f in
      let b = ap (λ c. c.position) (blank_is (m 4096) (w.3 4096 (omega arith))) in
      absurd (omega arith))
      (λ l. l)
      (cases_lt (4096 + (m i).position) (i + (m i).size))

  -- all the bytes of an object agree
  pub agree : (i j k : ℕ) → k + (m i).position ≡ i + j → j < (m i).size → m k ≡ cell_of (m i).kind (m i).size j
  agree i j k e h =
      let b = begins i in
      let s : ℕ = i - (m i).position in
      let first = back i (m i).position s (omega arith) (omega arith) in
      let f = forth s j k (omega arith) (rw first (omega arith)) in
      f ∙ rw first (ap (cell_of (m i).kind (m i).size) (omega arith))

  -- what a placing touches lies from the start of the object of its first byte to the end of the object of its last
  touched_span : (a n i s e : ℕ) → 0 < n → s + (m a).position ≡ a → e + (m (a + n - 1)).position + 1 ≡ a + n + (m (a + n - 1)).size
      → (i < a) ⊎ (a + n ≤ i) → touched a n i (m i) ≡ (leb s i && ltb i e)
  touched_span a n i s e pos hs he (inl low) =
      let bi = inside_of (m i) (w.1 i) in
      let ba = inside_of (m a) (w.1 a) in
      let bl = inside_of (m (a + n - 1)) (w.1 (a + n - 1)) in
      ⊎_elim
      (λ (h : a + (m i).position < i + (m i).size).
      let f = forth i (a - i) a (omega arith) (omega arith) in
      let p = ap (λ c. c.position) f in
      both_pass i (a + n + (m i).position) (a + (m i).position) (i + (m i).size) s i i e (omega arith) h (omega arith) (omega arith))
      (λ (h : i + (m i).size ≤ a + (m i).position).
      ⊎_elim
      (λ (g : i < s). both_fail i (a + n + (m i).position) (a + (m i).position) (i + (m i).size) s i i e (inr h) (inl g))
      (λ (g : s ≤ i).
      let b = back a (a - i) i (omega arith) (omega arith) in
      let p = ap (λ c. c.position) b in
      let q = ap (λ c. c.size) b in
      let z : ⊥ = omega arith in absurd z)
      (cases_lt i s))
      (cases_lt (a + (m i).position) (i + (m i).size))
  touched_span a n i s e pos hs he (inr high) =
      let bi = inside_of (m i) (w.1 i) in
      let ba = inside_of (m a) (w.1 a) in
      let l : ℕ = a + n - 1 in
      let bl = inside_of (m l) (w.1 l) in
      ⊎_elim
      (λ (h : i < a + n + (m i).position).
      let b = back i (i - l) l (omega arith) (omega arith) in
      let p = ap (λ c. c.position) b in
      let q = ap (λ c. c.size) b in
      both_pass i (a + n + (m i).position) (a + (m i).position) (i + (m i).size) s i i e h (omega arith) (omega arith) (omega arith))
      (λ (h : a + n + (m i).position ≤ i).
      ⊎_elim
      (λ (g : i < e).
      let f = forth l (i - l) i (omega arith) (omega arith) in
      let p = ap (λ c. c.position) f in
      let z : ⊥ = omega arith in absurd z)
      (λ (g : e ≤ i). both_fail i (a + n + (m i).position) (a + (m i).position) (i + (m i).size) s i i e (inl h) (inr g))
      (cases_lt i e))
      (cases_lt i (a + n + (m i).position))

  -- the span of a placing lies in memory
  pub span_up : (p : Placing) → (span_in m p).0 ≤ (span_in m p).1
  span_up p =
      let some = p.some in
      let b = begins (last p) in
      let z = inside_of (m (last p)) (w.1 (last p)) in
      omega arith

  pub span_within : (p : Placing) → (span_in m p).1 ≤ 4096
  span_within p =
      let some = p.some in
      let within = p.within in
      let b = begins (last p) in
      let e = ends (last p) (omega arith) in
      omega arith

  -- For a store: what lies in the span is laid, what lies outside stays, and that is the placing.
  pub span_carried : (p : Placing) (j : ℕ) → cond (leb (span_in m p).0 j && ltb j (span_in m p).1) (laid p j) (m j) ≡ carried m p j
  span_carried p j =
      let a = p.start in
      let n = p.size in
      let some = p.some in
      let ba = begins a in
      let bl = begins (last p) in
      let za = inside_of (m a) (w.1 a) in
      let zl = inside_of (m (last p)) (w.1 (last p)) in
      choose (among a n j) (leb (span_in m p).0 j && ltb j (span_in m p).1) (touched a n j (m j)) (fresh p.kind n (j - a)) torn (m j)
      (λ h. among_span a n j (span_in m p).0 (span_in m p).1 (omega arith) (omega arith) h)
      (λ h. touched_span a n j (span_in m p).0 (span_in m p).1 some (omega arith) (omega arith) (out_among a n j h))

  pub whole-carried : (p : Placing) → Whole (carried m p)
  whole-carried p = whole-placed m p.start p.kind p.size w p.within p.fits

  -- Whole by neighbours is divided into objects.
  pub divided : Divided m
  divided = record { covered = cover; ended = λ i h. blank_is (m i) (w.3 i h) }
    where
      cover : (i : ℕ) → i < 4096 → (s : ℕ) × (k : Kind) × (n : ℕ) × Among s n i × Object m s k n
      cover i h =
          let b = begins i in
          let z = inside_of (m i) (w.1 i) in
          let e = ends i h in
          let s : ℕ = i - (m i).position in (
            s,
            (m i).kind,
            (m i).size,
            (omega arith, omega arith),
            record { size = sized_of (m i) (w.1 i); within = omega arith; bytes = λ j l. agree i j (s + j) (omega arith) l },
          )
