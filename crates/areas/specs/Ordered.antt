-- Areas in order of address, no two sharing a byte.
use Rattle.std.specs.Prelude.{◌≡◌, ℕ, suc, ◌+◌, ◌<◌, ◌≤◌, Bool, true, cond, not, ◌&&◌, ◌⊎◌, List, [], ◌∷◌, length, Some, None, filter, Option, nat_le, nat_lt}
use Rattle.std.specs.List.{slice_get}
use Rattle.std.specs.Option.{option_map}
use Rattle.areas.specs.declared.area.Area.{Area}
use Rattle.areas.specs.Area.{begins}

-- a length from 1, and within the 4,096 bytes
abbrev pub fits : Area → Bool
fits x = nat_lt 0 x.length && nat_le (x.start + x.length) 4096

-- each begins at e or above
abbrev pub above : ℕ → List Area → Bool
above e [] = true
above e (x ∷ xs) = nat_le e x.start && above e xs

-- each lies in memory, and each later one begins where it ends or above
abbrev pub ordered : List Area → Bool
ordered [] = true
ordered (x ∷ xs) = fits x && (above (x.start + x.length) xs && ordered xs)

-- one more area, at its place by address
abbrev pub inserted : Area → List Area → List Area
inserted a [] = a ∷ []
inserted a (x ∷ xs) = cond (nat_lt a.start x.start) (a ∷ (x ∷ xs)) (x ∷ inserted a xs)

-- the areas but the one that begins at a
abbrev pub without : ℕ → List Area → List Area
without a xs = filter (λ x. not (begins a x)) xs

-- the area that begins at a
abbrev pub found : ℕ → List Area → Option Area
found a [] = None
found a (x ∷ xs) = cond (begins a x) (Some x) (found a xs)

-- the number of the first area that passes the test, from 0
abbrev pub index_of : (Area → Bool) → List Area → Option ℕ
index_of t [] = None
index_of t (x ∷ xs) = cond (t x) (Some 0) (option_map suc (index_of t xs))

-- x is one of the areas
abbrev pub In : Area → List Area → Type 0
In x [] = ⊥
In x (y ∷ ys) = (x ≡ y) ⊎ In x ys

-- Of any two areas the earlier in the list ends at or below the start of the later. So they are in order of address, and share no byte.
abbrev pub InOrder : List Area → Type 0
InOrder xs = (i j : ℕ) (x y : Area) → i < j → slice_get xs i ≡ Some x → slice_get xs j ≡ Some y → x.start + x.length ≤ y.start

-- The areas ys are xs and the new one, no other, and in order.
pub record Added (xs : List Area) (new : Area) (ys : List Area) : Type 0 where
  pub has_new : In new ys
  pub has_old : (x : Area) → In x xs → In x ys
  pub no_other : (x : Area) → In x ys → (x ≡ new) ⊎ In x xs
  pub in_order : InOrder ys

-- the first n areas begin below the limit, and the later ones at it or above
pub record Parted (limit : ℕ) (xs : List Area) (n : ℕ) : Type 0 where
  pub within : n ≤ length xs
  pub low : (i : ℕ) (x : Area) → i < n → slice_get xs i ≡ Some x → x.start < limit
  pub high : (i : ℕ) (x : Area) → n ≤ i → slice_get xs i ≡ Some x → limit ≤ x.start
