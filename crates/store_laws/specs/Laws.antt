-- What a user of cells may rely on, in the words of objects.
use Rattle.std.specs.Prelude.{◌≡◌, ℕ, ◌<◌, true, false, cond, ◌==◌}
use Rattle.store.specs.declared.tags.Kind.{Kind}
use Rattle.store.specs.declared.tags.Kind.TheVariants.{Unallocated, Uninitialized, Zero, Integral, Real, Pointer, Torn}
use Rattle.store.specs.Cells.{Memory, Whole, torn, kind_of, single, placed, refused}
use Rattle.store.specs.Objects.{Among, Object, Divided, Together}
use Rattle.store.specs.Reading.{kind_read}

-- Whole by neighbours means divided into whole objects.
pub record WholeObjects : Type 0 where
  pub divides : (m : Memory) → Whole m → Divided m
  pub joins : (m : Memory) → Divided m → Whole m

-- What a placing that is not refused, of kind number k over n bytes from a, does to a whole memory.
pub record Placed (m : Memory) (a k n : ℕ) : Type 0 where
  -- its bytes become one object
  pub object : single (kind_of k) ≡ false → Object (placed m a (kind_of k) n) a (kind_of k) n
  -- or, for the kinds of single bytes, an object each
  pub objects : single (kind_of k) ≡ true → (i : ℕ) → Among a n i → Object (placed m a (kind_of k) n) i (kind_of k) 1
  -- a byte outside is torn if a byte of its object lies inside
  pub tears : (i j : ℕ) → (Among a n i → ⊥) → Together m i j → Among a n j → placed m a (kind_of k) n i ≡ torn
  -- and stays as it was if none does
  pub leaves : (i : ℕ) → (Among a n i → ⊥) → ((j : ℕ) → Together m i j → Among a n j → ⊥) → placed m a (kind_of k) n i ≡ m i
  -- memory stays whole
  pub whole : Whole (placed m a (kind_of k) n)

abbrev pub Placing : Type 0
Placing = (m : Memory) (a k n : ℕ) → Whole m → refused a k n ≡ false → Placed m a k n

-- What n bytes are read as after the kind was placed over them. Unallocated bytes are no object of several bytes.
abbrev pub read_back : Kind → ℕ → Kind
read_back Unallocated n = cond (n == 1) Unallocated Torn
read_back Uninitialized n = Uninitialized
read_back Zero n = Zero
read_back Integral n = Integral
read_back Real n = Real
read_back Pointer n = Pointer
read_back Torn n = Torn

-- What is read after a placing that is not refused.
pub record Read (m : Memory) (a k n : ℕ) : Type 0 where
  pub back : kind_read (placed m a (kind_of k) n) a n ≡ read_back (kind_of k) n
  -- an object of which the placing took a byte, and left another, reads torn
  pub cut : (s z : ℕ) (l : Kind) (i j : ℕ) → Object m s l z → Among s z i → Among a n i → Among s z j → (Among a n j → ⊥)
      → kind_read (placed m a (kind_of k) n) s z ≡ Torn
  -- bytes whose cells stayed read as they did
  pub same : (s z : ℕ) → 0 < z → ((i : ℕ) → Among s z i → placed m a (kind_of k) n i ≡ m i) → kind_read (placed m a (kind_of k) n) s z ≡ kind_read m s z

abbrev pub Reading : Type 0
Reading = (m : Memory) (a k n : ℕ) → Whole m → refused a k n ≡ false → Read m a k n
