-- Kinds by their numbers, and what a sound cell tells. Assumes nothing.
use Rattle.std.proofs.Common.{◌≡◌, ℕ, ◌<◌, Bool, true, false, cond, eqb, ltb, Some, None, sym, refl, ap, ◌∙◌, arith}
use Rattle.std.proofs.lemmas.Bool.Decides.{nat_tests}
use Rattle.std.proofs.lemmas.Bool.{and_parts, ltb-true}
use Rattle.store.specs.declared.tags.Kind.{Kind}
use Rattle.store.specs.declared.tags.Kind.TheVariants.{Unallocated, Uninitialized, Zero, Integral, Real, Pointer, Torn}
use Rattle.store.specs.declared.tags.Cell.{Cell}
use Rattle.store.specs.Cells.{Memory, asked, cell_of, unallocated, number_of, kind_of, is_size, sized, single, sound, blank}

pub kind_number : (k : Kind) → kind_of (number_of k) ≡ k
kind_number Unallocated = refl
kind_number Uninitialized = refl
kind_number Zero = refl
kind_number Integral = refl
kind_number Real = refl
kind_number Pointer = refl
kind_number Torn = refl

pub same_kind : (k l : Kind) → number_of k ≡ number_of l → k ≡ l
same_kind k l e = sym (kind_number k) ∙ ap kind_of e ∙ kind_number l

-- a cell from its parts
pub cell_is : (c : Cell) (k : Kind) (n p : ℕ) → number_of c.kind ≡ number_of k → c.size ≡ n → c.position ≡ p → c ≡ cell_of k n p
cell_is c k n p e f h = let s : c.kind ≡ k = same_kind c.kind k e in λ i. record { kind = s i; size = f i; position = h i }

pub blank_is : (c : Cell) → blank c ≡ true → c ≡ unallocated
blank_is c h = cell_is c Unallocated 1 0 (grind (arith, nat_tests)) (grind (arith, nat_tests)) (grind (arith, nat_tests))

-- every size that a kind may have is the size of an object, and 1 is that of a single byte
pub size_of : (k : Kind) (n : ℕ) → sized k n ≡ true → is_size n ≡ true
size_of Unallocated n h = grind (arith, nat_tests)
size_of Uninitialized n h = grind (arith, nat_tests)
size_of Zero n h = grind (arith, nat_tests)
size_of Integral n h = h
size_of Real n h = grind (arith, nat_tests)
size_of Pointer n h = grind (arith, nat_tests)
size_of Torn n h = grind (arith, nat_tests)

pub single-size : (k : Kind) (n : ℕ) → single k ≡ true → sized k n ≡ eqb n 1
single-size Unallocated n h = refl
single-size Uninitialized n h = refl
single-size Zero n h = refl
single-size Integral n h = let z : ◌≡◌ {A = ℕ} 0 1 = cc in absurd (omega arith)
single-size Real n h = let z : ◌≡◌ {A = ℕ} 0 1 = cc in absurd (omega arith)
single-size Pointer n h = let z : ◌≡◌ {A = ℕ} 0 1 = cc in absurd (omega arith)
single-size Torn n h = refl

-- a sound cell lies within its object, whose size is one of its kind
pub inside_of : (c : Cell) → sound c ≡ true → c.position < c.size
inside_of c h = ltb-true c.position c.size (and_parts (sized c.kind c.size) (ltb c.position c.size) h).1

pub sized_of : (c : Cell) → sound c ≡ true → sized c.kind c.size ≡ true
sized_of c h = (and_parts (sized c.kind c.size) (ltb c.position c.size) h).0

-- the cell that a question got is the one at that address
pub asked_is : (m : Memory) (a : ℕ) (c : Cell) → Some c ≡ asked m a → m a ≡ c
asked_is m a c e = got (ltb a 4096) (m a) c e
  where
    got : (b : Bool) (d c : Cell) → Some c ≡ cond b (Some d) None → d ≡ c
    got true d c e = cc
    got false d c e = let z : ◌≡◌ {A = ℕ} 0 1 = cc in absurd (omega arith)
