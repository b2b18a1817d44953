-- What a placing does, and what is read after it, in the words of objects. Assumes nothing.
use Rattle.std.proofs.Common.{◌≡◌, ℕ, zero, suc, ◌+◌, ◌-◌, ◌<◌, ◌≤◌, Bool, true, false, cond, ◌&&◌, eqb, leb, ◌⊎◌, Some, Ok, Err, Result, refl, ap, ◌∙◌, subst, inl, inr, ⊎_elim, arith}
use Rattle.std.proofs.lemmas.Bool.Decides.{nat_tests}
use Rattle.std.proofs.lemmas.Bool.{cases_lt, cases_Bool, cases_eq, and_from, and_left, and_right, eq-eqb, ne_eqb, le-leb}
use Rattle.refusal.specs.declared.Rule.TheVariants.{Placing as PlacingRule}
use Rattle.refusal.specs.Refusals.{Refusal}
use Rattle.store.specs.declared.tags.Kind.{Kind}
use Rattle.store.specs.declared.tags.Kind.TheVariants.{Unallocated, Uninitialized, Zero, Integral, Real, Pointer, Torn}
use Rattle.store.specs.declared.tags.Cell.{Cell}
use Rattle.store.specs.Cells.{Memory, Whole, cell_of, torn, kind_of, number_of, single, fitting, fresh, among, touched, placed, put, refused, reply}
use Rattle.store.specs.Objects.{Among, Object, Together}
use Rattle.store.specs.Reading.{same, all_of, kind_read, read_answer}
use Rattle.store.proofs.Numbers.{single-size, inside_of}
use Rattle.store.proofs.Placings.{granted, whole-placed}
use Rattle.store.proofs.Readings.{not-all, not_first, read_object}
use Rattle.store_laws.specs.Laws.{Placing, Reading, read_back}

is_among : (a n i : ℕ) → Among a n i → among a n i ≡ true
is_among a n i h = grind (arith, nat_tests)

not-among : (a n i : ℕ) → (Among a n i → ⊥) → among a n i ≡ false
not-among a n i h = ⊎_elim (λ (l : i < a). below l) (λ (l : a ≤ i). ⊎_elim (λ (g : i < a + n). absurd (h (l, g))) (λ (g : a + n ≤ i). above g) (cases_lt i (a + n))) (cases_lt i a)
  where
    below : i < a → among a n i ≡ false
    below l = grind (arith, nat_tests)

    above : a + n ≤ i → among a n i ≡ false
    above g = grind (arith, nat_tests)

touches : (a n i : ℕ) (c : Cell) → i < a + n + c.position → a + c.position < i + c.size → touched a n i c ≡ true
touches a n i c h g = grind (arith, nat_tests)

touched_parts : (a n i : ℕ) (c : Cell) → touched a n i c ≡ true → (i < a + n + c.position) × (a + c.position < i + c.size)
touched_parts a n i c h = (grind (arith, nat_tests), grind (arith, nat_tests))

-- the three cases of a placing
inside : (m : Memory) (a : ℕ) (k : Kind) (n i : ℕ) → Among a n i → placed m a k n i ≡ fresh k n (i - a)
inside m a k n i h = rw (is_among a n i h) refl

tears : (m : Memory) (a : ℕ) (k : Kind) (n i j : ℕ) → (Among a n i → ⊥) → Together m i j → Among a n j → placed m a k n i ≡ torn
tears m a k n i j out t h = rw (not-among a n i out, touches a n i (m i) (omega arith) (omega arith)) refl

leaves : (m : Memory) (a : ℕ) (k : Kind) (n i : ℕ) → 0 < n → (m i).position < (m i).size → (Among a n i → ⊥) → ((j : ℕ) → Together m i j → Among a n j → ⊥) → placed m a k n i ≡ m i
leaves m a k n i some z out apart =
    ⊎_elim
    (λ (t : touched a n i (m i) ≡ true).
    let p = touched_parts a n i (m i) t in
    absurd (⊎_elim
    (λ (l : a + (m i).position < i). apart (i - (m i).position) (omega arith, omega arith) (omega arith, omega arith))
    (λ (l : i ≤ a + (m i).position). apart a (l, p.1) (omega arith, omega arith))
    (cases_lt (a + (m i).position) i)))
    (λ (f : touched a n i (m i) ≡ false). rw (not-among a n i out, f) refl)
    (cases_Bool (touched a n i (m i)))

-- the bytes of a placing as objects
one_object : (m : Memory) (a : ℕ) (k : Kind) (n : ℕ) → a + n ≤ 4096 → fitting k n ≡ true → single k ≡ false → Object (placed m a k n) a k n
one_object m a k n w f s =
    record {
      size = rw s at f;
      within = w;
      bytes = λ j h.
          let e : a + j - a ≡ j = omega arith in
          inside m a k n (a + j) (omega arith, omega arith) ∙ rw (s, e) refl;
    }

single-object : (m : Memory) (a : ℕ) (k : Kind) (n i : ℕ) → a + n ≤ 4096 → single k ≡ true → Among a n i → Object (placed m a k n) i k 1
single-object m a k n i w s h =
    record {
      size = single-size k 1 s;
      within = omega arith;
      bytes = λ j l.
          let here : i + j ≡ i = omega arith in
          let zero-th : j ≡ 0 = omega arith in
          rw (here, zero-th) (inside m a k n i h ∙ rw s refl);
    }

pub placing : Placing
placing m a k n w h =
    let g = granted a k n h in
    record {
      object = one_object m a (kind_of k) n g.1 g.2;
      objects = λ s i l. single-object m a (kind_of k) n i g.1 s l;
      tears = tears m a (kind_of k) n;
      leaves = λ i. leaves m a (kind_of k) n i g.0 (inside_of (m i) (w.1 i));
      whole = whole-placed m a (kind_of k) n w g.1 g.2;
    }

-- readings of bytes with the same cells agree
all_same : (m o : Memory) (k : Kind) (s z : ℕ) → ((j : ℕ) → j < z → m (s + j) ≡ o (s + j)) → all_of m k s z ≡ all_of o k s z
all_same m o k s zero h = refl
all_same m o k s (suc z) h = rw (all_same m o k s z (λ j l. h j (omega arith)), h z (omega arith)) refl

read_same : (m o : Memory) (s z : ℕ) → 0 < z → ((i : ℕ) → Among s z i → m i ≡ o i) → kind_read m s z ≡ kind_read o s z
read_same m o s z some h =
    let near : (j : ℕ) → j < z → m (s + j) ≡ o (s + j) = λ j l. h (s + j) (omega arith, omega arith) in
    rw (all_same m o Uninitialized s z near, all_same m o Zero s z near, h s (omega arith, omega arith)) refl

-- bytes of one kind
all_of_lem : (m : Memory) (k : Kind) (s z : ℕ) → ((j : ℕ) → j < z → (m (s + j)).kind ≡ k) → all_of m k s z ≡ true
all_of_lem m k s zero h = refl
all_of_lem m k s (suc z) h =
    and_from (all_of m k s z) (same (m (s + z)).kind k) (all_of_lem m k s z (λ j l. h j (omega arith)))
    (rw (h z (omega arith)) (eq-eqb (number_of k) (number_of k) refl))

-- a reading by its first cell
read_first : (m : Memory) (s z : ℕ) (c : Cell) → 0 < z → m s ≡ c → same c.kind Uninitialized ≡ false → same c.kind Zero ≡ false
    → kind_read m s z ≡ cond (eqb c.position 0 && eqb c.size z) c.kind Torn
read_first m s z c some e u o = read_object m s z some (rw e u) (rw e o) ∙ rw e refl

module _ (m : Memory) (a n : ℕ) (some : 0 < n) where
  -- the first cell of a placing, and the kind of each
  first_is : (k : Kind) → placed m a k n a ≡ fresh k n 0
  first_is k = let e : a - a ≡ 0 = omega arith in inside m a k n a (omega arith, omega arith) ∙ rw e refl

  kind_is : (k : Kind) → single k ≡ true → (j : ℕ) → j < n → (placed m a k n (a + j)).kind ≡ k
  kind_is k s j h =
      let cell : placed m a k n (a + j) ≡ cell_of k 1 0 = inside m a k n (a + j) (omega arith, omega arith) ∙ rw s refl in
      ap (λ c. c.kind) cell

  object-back : (k : Kind) → single k ≡ false → same k Uninitialized ≡ false → same k Zero ≡ false → kind_read (placed m a k n) a n ≡ k
  object-back k s u z =
      read_first (placed m a k n) a n (cell_of k n 0) some (first_is k ∙ rw s refl) u z ∙ rw (eq-eqb n n refl) refl

  byte-back : (k : Kind) → single k ≡ true → same k Uninitialized ≡ false → same k Zero ≡ false → kind_read (placed m a k n) a n ≡ cond (eqb 1 n) k Torn
  byte-back k s u z = read_first (placed m a k n) a n (cell_of k 1 0) some (first_is k ∙ rw s refl) u z

  read_back_lem : (k : Kind) → kind_read (placed m a k n) a n ≡ read_back k n
  read_back_lem Unallocated = byte-back Unallocated refl refl refl ∙ turned n Unallocated Torn
    where
      turned : (n : ℕ) (k l : Kind) → cond (eqb 1 n) k l ≡ cond (eqb n 1) k l
      turned n k l = let e : eqb 1 n ≡ eqb n 1 = grind (arith, nat_tests) in rw e refl
  read_back_lem Uninitialized = rw (all_of_lem (placed m a Uninitialized n) Uninitialized a n (kind_is Uninitialized refl)) refl
  read_back_lem Zero =
      let other : all_of (placed m a Zero n) Uninitialized a n ≡ false = not_first (placed m a Zero n) Uninitialized a n some (rw (first_is Zero) refl) in
      rw (other, all_of_lem (placed m a Zero n) Zero a n (kind_is Zero refl)) refl
  read_back_lem Integral = object-back Integral refl refl refl
  read_back_lem Real = object-back Real refl refl refl
  read_back_lem Pointer = object-back Pointer refl refl refl
  read_back_lem Torn = byte-back Torn refl refl refl ∙ elim (eqb 1 n) as (λ b. cond b Torn Torn ≡ Torn) [ true ↦ refl | false ↦ refl ]

-- an object of which a placing took byte i and left byte j
module _ (m : Memory) (a : ℕ) (k : Kind) (n s : ℕ) (l : Kind) (z i j : ℕ) (o : Object m s l z)
    (hi : Among s z i) (gi : Among a n i) (hj : Among s z j) (gj : Among a n j → ⊥) where
  at_byte : (q : ℕ) → Among s z q → m q ≡ cell_of l z (q - s)
  at_byte q h =
      let e : s + (q - s) ≡ q = omega arith in
      subst (λ (x : ℕ). m x ≡ cell_of l z (q - s)) e (o.bytes (q - s) (omega arith))

  -- each byte of the object that lies outside is torn
  torn_at : (q : ℕ) → Among s z q → (Among a n q → ⊥) → placed m a k n q ≡ torn
  torn_at q h out =
      let place : (m q).position ≡ q - s = ap (λ c. c.position) (at_byte q h) in
      let size : (m q).size ≡ z = ap (λ c. c.size) (at_byte q h) in
      tears m a k n q i out (omega arith, omega arith) gi

  torn_kind : (d : Kind) → same Torn d ≡ false → all_of (placed m a k n) d s z ≡ false
  torn_kind d h =
      let e : j ≡ s + (j - s) = omega arith in
      not-all (placed m a k n) d s z (j - s) (omega arith)
      (subst (λ (x : ℕ). same (placed m a k n x).kind d ≡ false) e (rw (torn_at j hj gj) h))

  several : 1 < z
  several = ⊎_elim (λ (h : 1 < z). h) (λ (h : z ≤ 1). let e : i ≡ j = omega arith in absurd (gj (subst (Among a n) e gi))) (cases_lt 1 z)

  -- so no object of its size starts there
  no_object : (eqb (placed m a k n s).position 0 && eqb (placed m a k n s).size z) ≡ false
  no_object =
      let more = several in
      ⊎_elim
      (λ (in-front : a ≤ s). ⊎_elim
      (λ (inner : s < a + n). ⊎_elim
      (λ (one : single k ≡ true). rw (inside m a k n s (in-front, inner), one) (other_size z more))
      (λ (many : single k ≡ false). rw (inside m a k n s (in-front, inner), many) (⊎_elim
      (λ (h : s - a ≡ 0). and_right (eqb (s - a) 0) (eqb n z) (ne_eqb n z (λ e. gj (omega arith, omega arith))))
      (λ (h : s - a ≡ 0 → ⊥). and_left (eqb (s - a) 0) (eqb n z) (ne_eqb (s - a) 0 h))
      (cases_eq (s - a) 0)))
      (cases_Bool (single k)))
      (λ (past : a + n ≤ s). rw (torn_at s (omega arith, omega arith) (λ h. omega arith)) (other_size z more))
      (cases_lt s (a + n)))
      (λ (before : s < a). rw (torn_at s (omega arith, omega arith) (λ h. omega arith)) (other_size z more))
      (cases_le a s)
    where
      other_size : (z : ℕ) → 1 < z → (eqb 0 0 && eqb 1 z) ≡ false
      other_size z h = grind (arith, nat_tests)

      cases_le : (a s : ℕ) → (a ≤ s) ⊎ (s < a)
      cases_le a s = ⊎_elim (λ h. inr h) (λ h. inl h) (cases_lt s a)

  read_cut : kind_read (placed m a k n) s z ≡ Torn
  read_cut = rw (torn_kind Uninitialized refl, torn_kind Zero refl, no_object) refl

-- what the answers of placing and reading tell
pub not-refused : (b : Bool) → ◌≡◌ {A = Result (Unit {0}) Refusal} (Ok tt) (cond b (Err (PlacingRule, 0)) (Ok tt)) → b ≡ false
not-refused true e = let z : ◌≡◌ {A = ℕ} 0 1 = cc in absurd (omega arith)
not-refused false e = refl

pub reading : Reading
reading m a k n w h =
    let g = granted a k n h in
    record {
      back = read_back_lem m a n g.0 (kind_of k);
      cut = λ s z l i j o hi gi hj gj. read_cut m a (kind_of k) n s l z i j o hi gi hj gj;
      same = λ s z some kept. read_same (placed m a (kind_of k) n) m s z some kept;
    }

-- what is read from a store once a placing was granted
pub read_after : (m after : Memory) (a k n : ℕ) → Whole m → Ok tt ≡ reply a k n → after ≡ put m a k n
    → (refused a k n ≡ false) × (read_answer after a n ≡ Some (read_back (kind_of k) n))
read_after m after a k n w e left =
    let fine : refused a k n ≡ false = not-refused (refused a k n) e in
    let same : after ≡ placed m a (kind_of k) n = left ∙ rw fine refl in
    let g = granted a k n fine in
    let inside : (leb 1 n && leb (a + n) 4096) ≡ true = and_from (leb 1 n) (leb (a + n) 4096) (le-leb 1 n g.0) (le-leb (a + n) 4096 g.1) in
    (fine, rw inside (ap Some (ap (λ x. kind_read x a n) same ∙ (reading m a k n w fine).back)))
