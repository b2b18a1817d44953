-- Calls keep bytes, cells and areas in agreement. Assumes nothing.
use Rattle.std.proofs.Common.{◌≡◌, ℕ, ◌+◌, ◌-◌, ◌<◌, ◌≤◌, Bool, true, false, cond, not, ◌||◌, ltb, leb, List, [], ◌∷◌, Some, sym, refl, ap, ◌∙◌, subst, ⊎_elim, arith}
use Rattle.std.proofs.lemmas.Bool.Decides.{nat_tests}
use Rattle.std.proofs.lemmas.Bool.{cases_Bool, and_parts, or_parts, or_cases, or_from, or_left, or_right, leb-true, eqb-true, both_ways, cond_both, false≢true}
use Rattle.store.specs.declared.tags.Kind.{Kind}
use Rattle.store.specs.declared.tags.Kind.TheVariants.{Unallocated, Uninitialized, Torn}
use Rattle.store.specs.declared.tags.Cell.{Cell}
use Rattle.store.specs.Cells.{Memory as Cells, cell_of, unallocated, torn, kind_of, number_of, single, sound, fresh, among, touched, placed, put, refused}
use Rattle.store.proofs.Numbers.{inside_of, kind_number}
use Rattle.areas.specs.declared.area.Area.{Area}
use Rattle.areas.specs.Area.{area_of, any, crosses, holds, begins, lawful}
use Rattle.areas.specs.Ordered.{above, found, inserted, ordered, without}
use Rattle.areas.proofs.Order.{headed}
use Rattle.memory.specs.Bytes.{written}
use Rattle.memory.specs.State.{State, state_of, blank}
use Rattle.memory.specs.Rules.{opens, shuts}
use Rattle.memory.specs.Tied.{Tied, UnchangedOutside, houses, inside}

any-inserted : (t : Area → Bool) (a : Area) (xs : List Area) → any t (inserted a xs) ≡ (t a || any t xs)
any-inserted t a [] = refl
any-inserted t a (x ∷ xs) = go (ltb a.start x.start) (any-inserted t a xs)
  where
    swap : (p q r : Bool) → (p || (q || r)) ≡ (q || (p || r))
    swap true true r = refl
    swap true false r = refl
    swap false q r = refl

    go : (b : Bool) → any t (inserted a xs) ≡ (t a || any t xs) → any t (cond b (a ∷ (x ∷ xs)) (x ∷ inserted a xs)) ≡ (t a || (t x || any t xs))
    go true r = refl
    go false r = ap (λ y. t x || y) r ∙ swap (t x) (t a) (any t xs)

pub any_more : (t u : Area → Bool) (xs : List Area) → ((x : Area) → t x ≡ true → u x ≡ true) → any t xs ≡ true → any u xs ≡ true
any_more t u [] h e = e
any_more t u (x ∷ xs) h e = ⊎_elim
    (λ (p : t x ≡ true). or_left (u x) (any u xs) (h x p))
    (λ (p : any t xs ≡ true). or_right (u x) (any u xs) (any_more t u xs h p))
    (or_cases (t x) (any t xs) e)

-- a byte that is not in the row, and is unallocated, stays
bare_stays : (m : Cells) (a : ℕ) (k : Kind) (n i : ℕ) → among a n i ≡ false → m i ≡ unallocated → placed m a k n i ≡ unallocated
bare_stays m a k n i out e = rw (e, out) (let t : touched a n i unallocated ≡ false = grind (arith, nat_tests) in rw t refl)

fresh_kind : (k : Kind) (n j : ℕ) → (fresh k n j).kind ≡ k
fresh_kind k n j = cond_both (single k) (cell_of k 1 0) (cell_of k n j) (λ c. c.kind ≡ k) (λ _. refl) (λ _. refl)

torn-used : Torn ≡ Unallocated → ⊥
torn-used e = let no_such : ◌≡◌ {A = ℕ} 6 0 = ap number_of e in omega arith

used-placed : (m : Cells) (a : ℕ) (k : Kind) (n i : ℕ) → (k ≡ Unallocated → ⊥) → (among a n i ≡ false → (m i).kind ≡ Unallocated → ⊥) → (placed m a k n i).kind ≡ Unallocated → ⊥
used-placed m a k n i h e =
    cond_both (among a n i) (fresh k n (i - a)) (cond (touched a n i (m i)) torn (m i)) (λ c. c.kind ≡ Unallocated → ⊥)
    (λ _ u. h (sym (fresh_kind k n (i - a)) ∙ u))
    (λ out. cond_both (touched a n i (m i)) torn (m i) (λ c. c.kind ≡ Unallocated → ⊥) (λ _. torn-used) (λ _. e out))

one_byte : (i : ℕ) (k : Kind) (x : Area) → holds i 1 x ≡ true → houses i (cell_of k 1 0) x ≡ true
one_byte i k x h = grind (arith, nat_tests)

-- a byte outside the row: torn, or as it was
housed_out : (xs : List Area) (i : ℕ) (b : Bool) (c : Cell) → inside xs i ≡ true → any (houses i c) xs ≡ true → any (houses i (cond b torn c)) xs ≡ true
housed_out xs i true c s h = any_more (holds i 1) (houses i torn) xs (one_byte i Torn) s
housed_out xs i false c s h = h

object-byte : (a n i : ℕ) (k : Kind) (x : Area) → among a n i ≡ true → holds a n x ≡ true → houses i (cell_of k n (i - a)) x ≡ true
object-byte a n i k x y h = grind (arith, nat_tests)

byte_in : (a n i : ℕ) (x : Area) → among a n i ≡ true → holds a n x ≡ true → holds i 1 x ≡ true
byte_in a n i x y h = grind (arith, nat_tests)

fresh-housed : (k : Kind) (a n i : ℕ) (x : Area) → among a n i ≡ true → holds a n x ≡ true → houses i (fresh k n (i - a)) x ≡ true
fresh-housed k a n i x y h =
    cond_both (single k) (cell_of k 1 0) (cell_of k n (i - a)) (λ c. houses i c x ≡ true) (λ _. one_byte i k x (byte_in a n i x y h)) (λ _. object-byte a n i k x y h)

-- the bytes of a lawful access lie in open areas, so that a byte in none is not one of them
pub access_in : (xs : List Area) (a n i : ℕ) → lawful xs a n ≡ true → among a n i ≡ true → inside xs i ≡ true
access_in xs a n i home y = any_more (holds a n) (holds i 1) xs (λ x h. byte_in a n i x y h) home

access_out : (xs : List Area) (a n i : ℕ) → lawful xs a n ≡ true → inside xs i ≡ false → among a n i ≡ false
access_out xs a n i home h =
    ⊎_elim (λ y. absurd (both_ways (inside xs i) h (access_in xs a n i home y))) (λ y. y) (cases_Bool (among a n i))

-- bytes written in one open area
pub tied_written : (s : State) (a v n : ℕ) → lawful s.areas a n ≡ true → Tied s → Tied (state_of (written s.bytes a v n) s.cells s.areas)
tied_written s a v n home t =
    record { bare = t.bare; clean = λ i h. rw (access_out s.areas a n i home h) (t.clean i h); used = t.used; housed = t.housed }

-- an object placed in one open area
pub tied_placed : (s : State) (a : ℕ) (k : Kind) (n : ℕ) → (k ≡ Unallocated → ⊥) → lawful s.areas a n ≡ true → Tied s → Tied (state_of s.bytes (placed s.cells a k n) s.areas)
tied_placed s a k n u home t =
    let m = s.cells in
    let xs = s.areas in
    record {
      bare = λ i h. bare_stays m a k n i (access_out xs a n i home h) (t.bare i h);
      clean = t.clean;
      used = λ i h. used-placed m a k n i u (λ _. t.used i h);
      housed = λ i h. ⊎_elim
          (λ (y : among a n i ≡ true). rw y (any_more (holds a n) (houses i (fresh k n (i - a))) xs (λ x g. fresh-housed k a n i x y g) home))
          (λ (y : among a n i ≡ false). rw y (housed_out xs i (touched a n i (m i)) (m i) h (t.housed i h)))
          (cases_Bool (among a n i));
    }

pub tied_put : (s : State) (a : ℕ) (k : Kind) (n : ℕ) → (k ≡ Unallocated → ⊥) → lawful s.areas a n ≡ true → Tied s → Tied (state_of s.bytes (put s.cells a (number_of k) n) s.areas)
tied_put s a k n u home t =
    cond_both (refused a (number_of k) n) s.cells (placed s.cells a (kind_of (number_of k)) n) (λ m. Tied (state_of s.bytes m s.areas))
    (λ _. t)
    (λ _. subst (λ l. Tied (state_of s.bytes (placed s.cells a l n) s.areas)) (sym (kind_number k)) (tied_placed s a k n u home t))

new_area : (a n i : ℕ) → holds i 1 (area_of a n) ≡ among a n i
new_area a n i = grind (arith, nat_tests)

pub tied_opened : (s : State) (a n : ℕ) → Tied s → Tied (opens s a n)
tied_opened s a n t =
    let m = s.cells in
    let xs = s.areas in
    let k : Kind = Uninitialized in
    let split : (i : ℕ) → inside (inserted (area_of a n) xs) i ≡ (among a n i || inside xs i) =
    λ i. any-inserted (holds i 1) (area_of a n) xs ∙ ap (λ b. b || inside xs i) (new_area a n i) in
    record {
      bare = λ i h. let p = or_parts (among a n i) (inside xs i) (sym (split i) ∙ h) in bare_stays m a k n i p.0 (t.bare i p.1);
      clean = λ i h. let p = or_parts (among a n i) (inside xs i) (sym (split i) ∙ h) in t.clean i p.1;
      used = λ i h. used-placed m a k n i (λ e. let no_such : ◌≡◌ {A = ℕ} 1 0 = ap number_of e in omega arith) (λ y. ⊎_elim
          (λ (z : among a n i ≡ true). absurd (both_ways (among a n i) y z))
          (λ (z : inside xs i ≡ true). t.used i z)
          (or_cases (among a n i) (inside xs i) (sym (split i) ∙ h)));
      housed = λ i h. any-inserted (houses i (placed m a k n i)) (area_of a n) xs ∙ ⊎_elim
          (λ (y : among a n i ≡ true).
          or_left (houses i (placed m a k n i) (area_of a n)) (any (houses i (placed m a k n i)) xs) (rw y (one_byte i k (area_of a n) (new_area a n i ∙ y))))
          (λ (y : among a n i ≡ false). ⊎_elim
          (λ (z : among a n i ≡ true). absurd (both_ways (among a n i) y z))
          (λ (z : inside xs i ≡ true). or_right (houses i (placed m a k n i) (area_of a n)) (any (houses i (placed m a k n i)) xs)
          (rw y (housed_out xs i (touched a n i (m i)) (m i) z (t.housed i z))))
          (or_cases (among a n i) (inside xs i) (sym (split i) ∙ h)))
          (cases_Bool (among a n i));
    }

-- an area found among those that begin at e or above begins there
found-above : (e a : ℕ) (xs : List Area) (x : Area) → above e xs ≡ true → Some x ≡ found a xs → e ≤ a
found-above e a [] x h g = let no_such : ◌≡◌ {A = ℕ} 0 1 = cc in absurd (omega arith)
found-above e a (y ∷ xs) x h g =
    let p = and_parts (leb e y.start) (above e xs) h in
    ⊎_elim
    (λ (b : begins a y ≡ true). omega (arith, eqb-true y.start a b, leb-true e y.start p.0))
    (λ (b : begins a y ≡ false). found-above e a xs x p.1 (g ∙ rw b))
    (cases_Bool (begins a y))

later_start : (a : ℕ) (x : Area) → a < x.start → not (begins a x) ≡ true
later_start a x h = grind (arith, nat_tests)

-- areas above a do not begin there
all_stay : (e a : ℕ) (xs : List Area) → a < e → above e xs ≡ true → without a xs ≡ xs
all_stay e a [] l h = refl
all_stay e a (x ∷ xs) l h =
    let p = and_parts (leb e x.start) (above e xs) h in
    let q = later_start a x (omega (arith, leb-true e x.start p.0)) in
    rw (q, all_stay e a xs l p.1) refl

above_out : (e i : ℕ) (xs : List Area) → above e xs ≡ true → inside xs i ≡ true → e ≤ i
above_out e i [] h g = let no_such : ◌≡◌ {A = ℕ} 0 1 = cc in absurd (omega arith)
above_out e i (x ∷ xs) h g =
    let p = and_parts (leb e x.start) (above e xs) h in
    ⊎_elim
    (λ (y : holds i 1 x ≡ true).
    let q = and_parts (leb x.start i) (leb (i + 1) (x.start + x.length)) y in
    omega (arith, leb-true x.start i q.0, leb-true e x.start p.0))
    (λ (y : inside xs i ≡ true). above_out e i xs p.1 y)
    (or_cases (holds i 1 x) (inside xs i) g)

ended_out : (a n i : ℕ) → a + n ≤ i → among a n i ≡ false
ended_out a n i h = grind (arith, nat_tests)

before_out : (a n i : ℕ) (x : Area) → holds i 1 x ≡ true → x.start + x.length ≤ a → among a n i ≡ false
before_out a n i x h l = grind (arith, nat_tests)

own_in : (i : ℕ) (x : Area) → holds i 1 x ≡ true → among x.start x.length i ≡ true
own_in i x h = grind (arith, nat_tests)

module _ (y : Area) (i : ℕ) where
  -- a byte of an area that stays is not one of the area that goes
  kept_out : (xs : List Area) → ordered xs ≡ true → Some y ≡ found y.start xs → inside (without y.start xs) i ≡ true → among y.start y.length i ≡ false
  kept_out [] o g h = let no_such : ◌≡◌ {A = ℕ} 0 1 = cc in absurd (omega arith)
  kept_out (x ∷ xs) o g h =
      let p = headed x xs o in
      ⊎_elim
      (λ (b : begins y.start x ≡ true).
      let e = eqb-true x.start y.start b in
      let s : x ≡ y = let k : Some x ≡ Some y = sym (g ∙ rw b) in cc in
      let some = p.some in
      let stay = all_stay (x.start + x.length) y.start xs (omega arith) p.later in
      let h' : inside (without y.start xs) i ≡ true = rw b at h in
      let l = above_out (x.start + x.length) i xs p.later (rw stay at h') in
      ended_out y.start y.length i (omega (arith, ap (λ (z : Area). z.length) s)))
      (λ (b : begins y.start x ≡ false).
      let g' : Some y ≡ found y.start xs = g ∙ rw b in
      let h' : (holds i 1 x || inside (without y.start xs) i) ≡ true = rw b at h in
      ⊎_elim
      (λ (z : holds i 1 x ≡ true). before_out y.start y.length i x z (found-above (x.start + x.length) y.start xs y p.later g'))
      (λ (z : inside (without y.start xs) i ≡ true). kept_out xs p.rest g' z)
      (or_cases (holds i 1 x) (inside (without y.start xs) i) h'))
      (cases_Bool (begins y.start x))

  -- what holds for an area of a byte that does not go holds for one that stays
  stays_any : (t : Area → Bool) → ((x : Area) → t x ≡ true → holds i 1 x ≡ true) → (xs : List Area) → ordered xs ≡ true → Some y ≡ found y.start xs
      → any t xs ≡ true → among y.start y.length i ≡ false → any t (without y.start xs) ≡ true
  stays_any t w [] o g h out = h
  stays_any t w (x ∷ xs) o g h out =
      let p = headed x xs o in
      ⊎_elim
      (λ (b : begins y.start x ≡ true).
      let e = eqb-true x.start y.start b in
      let s : x ≡ y = let k : Some x ≡ Some y = sym (g ∙ rw b) in cc in
      let some = p.some in
      let stay = all_stay (x.start + x.length) y.start xs (omega arith) p.later in
      rw (b, stay) (⊎_elim
      (λ (z : t x ≡ true). absurd (both_ways (among y.start y.length i) out (subst (λ (v : Area). among v.start v.length i ≡ true) s (own_in i x (w x z)))))
      (λ (z : any t xs ≡ true). z)
      (or_cases (t x) (any t xs) h)))
      (λ (b : begins y.start x ≡ false).
      let g' : Some y ≡ found y.start xs = g ∙ rw b in
      rw b (⊎_elim
      (λ (z : t x ≡ true). or_left (t x) (any t (without y.start xs)) z)
      (λ (z : any t xs ≡ true). or_right (t x) (any t (without y.start xs)) (stays_any t w xs p.rest g' z out))
      (or_cases (t x) (any t xs) h)))
      (cases_Bool (begins y.start x))

-- what holds for an area that stays held for an open one
kept_any : (a : ℕ) (t : Area → Bool) (xs : List Area) → any t (without a xs) ≡ true → any t xs ≡ true
kept_any a t [] h = h
kept_any a t (x ∷ xs) h = ⊎_elim
    (λ (b : not (begins a x) ≡ true).
    let h' : (t x || any t (without a xs)) ≡ true = rw b at h in
    ⊎_elim
    (λ (y : t x ≡ true). or_left (t x) (any t xs) y)
    (λ (y : any t (without a xs) ≡ true). or_right (t x) (any t xs) (kept_any a t xs y))
    (or_cases (t x) (any t (without a xs)) h'))
    (λ (b : not (begins a x) ≡ false). let h' : any t (without a xs) ≡ true = rw b at h in or_right (t x) (any t xs) (kept_any a t xs h'))
    (cases_Bool (not (begins a x)))

houses_in : (i : ℕ) (c : Cell) (x : Area) → c.position < c.size → houses i c x ≡ true → holds i 1 x ≡ true
houses_in i c x l h = grind (arith, nat_tests)

pub tied_shut : (s : State) (x : Area) → ((i : ℕ) → sound (s.cells i) ≡ true) → ordered s.areas ≡ true → Some x ≡ found x.start s.areas → Tied s → Tied (shuts s x)
tied_shut s x sd o g t =
    let m = s.cells in
    let xs = s.areas in
    let a = x.start in
    let n = x.length in
    let k : Kind = Unallocated in
    let was : (i : ℕ) → inside (without a xs) i ≡ false → among a n i ≡ false → inside xs i ≡ false = λ i h y. ⊎_elim
    (λ (z : inside xs i ≡ true). absurd (both_ways (inside (without a xs) i) h (stays_any x i (holds i 1) (λ x e. e) xs o g z y)))
    (λ (z : inside xs i ≡ false). z)
    (cases_Bool (inside xs i)) in
    record {
      bare = λ i h. ⊎_elim
          (λ (y : among a n i ≡ true). rw y refl)
          (λ (y : among a n i ≡ false). bare_stays m a k n i y (t.bare i (was i h y)))
          (cases_Bool (among a n i));
      clean = λ i h. ⊎_elim (λ (y : among a n i ≡ true). rw y refl) (λ (y : among a n i ≡ false). rw y (t.clean i (was i h y))) (cases_Bool (among a n i));
      used = λ i h.
          let y = kept_out x i xs o g h in
          rw y (cond_both (touched a n i (m i)) torn (m i) (λ c. c.kind ≡ Unallocated → ⊥) (λ _. torn-used) (λ _. t.used i (kept_any a (holds i 1) xs h)));
      housed = λ i h.
          let y = kept_out x i xs o g h in
          rw y (housed_out (without a xs) i (touched a n i (m i)) (m i) h
          (stays_any x i (houses i (m i)) (λ x e. houses_in i (m i) x (inside_of (m i) (sd i)) e) xs o g (t.housed i (kept_any a (holds i 1) xs h)) y));
    }

pub tied_new : Tied blank
tied_new = record {
  bare = λ i h. refl;
  clean = λ i h. refl;
  used = λ i h. let no_such : ◌≡◌ {A = ℕ} 0 1 = cc in absurd (omega arith);
  housed = λ i h. h;
}

-- Areas that share no byte with the n from a leave every object apart from them.

object-apart : (a n i : ℕ) (c : Cell) (x : Area) → houses i c x ≡ true → crosses a n x ≡ false → touched a n i c ≡ false
object-apart a n i c x h f = grind (arith, nat_tests)

objects-apart : (a n i : ℕ) (c : Cell) (xs : List Area) → any (crosses a n) xs ≡ false → any (houses i c) xs ≡ true → touched a n i c ≡ false
objects-apart a n i c [] f h = absurd (false≢true h)
objects-apart a n i c (x ∷ xs) f h =
    let p = or_parts (crosses a n x) (any (crosses a n) xs) f in
    ⊎_elim (λ e. object-apart a n i c x e p.0) (λ e. objects-apart a n i c xs p.1 e) (or_cases (houses i c x) (any (houses i c) xs) h)

bare_apart : (a n i : ℕ) → among a n i ≡ false → touched a n i unallocated ≡ false
bare_apart a n i out = grind (arith, nat_tests)

-- a byte outside, in an area apart or in none, is not touched
untouched : (xs : List Area) (a n i : ℕ) (c : Cell) → any (crosses a n) xs ≡ false → among a n i ≡ false
    → (inside xs i ≡ true → any (houses i c) xs ≡ true) → (inside xs i ≡ false → c ≡ unallocated) → touched a n i c ≡ false
untouched xs a n i c apart out home bare = ⊎_elim
    (λ (h : inside xs i ≡ true). objects-apart a n i c xs apart (home h))
    (λ (h : inside xs i ≡ false). subst (λ (d : Cell). touched a n i d ≡ false) (sym (bare h)) (bare_apart a n i out))
    (cases_Bool (inside xs i))

pub others_open : (s : State) (a n : ℕ) → any (crosses a n) s.areas ≡ false → Tied s → UnchangedOutside a n s (opens s a n)
others_open s a n apart t i out = (refl, rw (out, untouched s.areas a n i (s.cells i) apart out (t.housed i) (t.bare i)) refl)

above_apart : (a n : ℕ) (x : Area) → a + n ≤ x.start → crosses a n x ≡ false
above_apart a n x h = grind (arith, nat_tests)

below_apart : (a n : ℕ) (x : Area) → x.start + x.length ≤ a → crosses a n x ≡ false
below_apart a n x h = grind (arith, nat_tests)

all_apart : (a n : ℕ) (xs : List Area) → above (a + n) xs ≡ true → any (crosses a n) xs ≡ false
all_apart a n [] h = refl
all_apart a n (x ∷ xs) h =
    let p = and_parts (leb (a + n) x.start) (above (a + n) xs) h in
    or_from (crosses a n x) (any (crosses a n) xs) (above_apart a n x (leb-true (a + n) x.start p.0)) (all_apart a n xs p.1)

-- the areas that stay are apart from the one that goes
rest_apart : (y : Area) (xs : List Area) → ordered xs ≡ true → Some y ≡ found y.start xs → any (crosses y.start y.length) (without y.start xs) ≡ false
rest_apart y [] o g = refl
rest_apart y (x ∷ xs) o g =
    let p = headed x xs o in
    ⊎_elim
    (λ (b : begins y.start x ≡ true).
    let e = eqb-true x.start y.start b in
    let s : x ≡ y = let k : Some x ≡ Some y = sym (g ∙ rw b) in cc in
    let some = p.some in
    let stay = all_stay (x.start + x.length) y.start xs (omega arith) p.later in
    rw (b, stay) (subst (λ (v : Area). any (crosses v.start v.length) xs ≡ false) s (all_apart x.start x.length xs p.later)))
    (λ (b : begins y.start x ≡ false).
    let g' : Some y ≡ found y.start xs = g ∙ rw b in
    rw b (or_from (crosses y.start y.length x) (any (crosses y.start y.length) (without y.start xs))
    (below_apart y.start y.length x (found-above (x.start + x.length) y.start xs y p.later g')) (rest_apart y xs p.rest g')))
    (cases_Bool (begins y.start x))

pub others_shut : (s : State) (x : Area) → ((i : ℕ) → sound (s.cells i) ≡ true) → ordered s.areas ≡ true → Some x ≡ found x.start s.areas → Tied s
    → UnchangedOutside x.start x.length s (shuts s x)
others_shut s x sd o g t i out =
    let xs = s.areas in
    let rest = without x.start xs in
    let was : inside rest i ≡ false → inside xs i ≡ false = λ h. ⊎_elim
    (λ (z : inside xs i ≡ true). absurd (both_ways (inside rest i) h (stays_any x i (holds i 1) (λ x e. e) xs o g z out)))
    (λ (z : inside xs i ≡ false). z)
    (cases_Bool (inside xs i)) in
    let home : inside rest i ≡ true → any (houses i (s.cells i)) rest ≡ true = λ h.
    stays_any x i (houses i (s.cells i)) (λ x e. houses_in i (s.cells i) x (inside_of (s.cells i) (sd i)) e) xs o g (t.housed i (kept_any x.start (holds i 1) xs h)) out in
    let no_touch = untouched rest x.start x.length i (s.cells i) (rest_apart x xs o g) out home (λ h. t.bare i (was h)) in
    (rw out refl, rw (out, no_touch) refl)
