-- The first area that passes a test. Assumes nothing.
use Rattle.std.proofs.Common.{◌≡◌, ℕ, zero, suc, ◌<◌, Bool, true, false, cond, List, [], ◌∷◌, length, get_or, MatchOption, IsSomeAnd, Some, None, Option, refl, ap, arith}
use Rattle.std.proofs.lemmas.Option.{slice_get_within, slice_get-get_or}
use Rattle.std.specs.List.{slice_get}
use Rattle.std.specs.Option.{option_and_then, option_map}
use Rattle.areas.specs.declared.area.Area.{Area}
use Rattle.areas.specs.Area.{any, begins}
use Rattle.areas.specs.Ordered.{found, index_of}

-- the first that passes lies in the row, and passes
pub index_at : (t : Area → Bool) (xs : List Area) (i : ℕ) → Some i ≡ index_of t xs → (x : Area) × (slice_get xs i ≡ Some x) × (t x ≡ true)
index_at t [] i e = cc
index_at t (y ∷ xs) i e = go (t y) refl (index_of t xs) (index_at t xs) e
  where
    go : (b : Bool) → t y ≡ b → (o : Option ℕ) → ((k : ℕ) → Some k ≡ o → (x : Area) × (slice_get xs k ≡ Some x) × (t x ≡ true))
        → Some i ≡ cond b (Some 0) (option_map suc o) → (x : Area) × (slice_get (y ∷ xs) i ≡ Some x) × (t x ≡ true)
    go true p o later e = let z : i ≡ 0 = cc in (y, rw z refl, p)
    go false p None later e = cc
    go false p (Some k) later e = let z : i ≡ suc k = cc in let r = later k refl in (r.0, rw z r.1, r.2)

pub index_within : (t : Area → Bool) (xs : List Area) (i : ℕ) → Some i ≡ index_of t xs → i < length xs
index_within t xs i e = let x = index_at t xs i e in slice_get_within xs i x.0 x.1

-- no area passes
abbrev pub NonePasses : (Area → Bool) → List Area → Type 0
NonePasses t xs = (j : ℕ) (y : Area) → slice_get xs j ≡ Some y → t y ≡ false

-- one that passes, and none before it, is the first
pub index_here : (t : Area → Bool) (xs : List Area) (i : ℕ) (x : Area) → slice_get xs i ≡ Some x → t x ≡ true
    → ((j : ℕ) (y : Area) → j < i → slice_get xs j ≡ Some y → t y ≡ false) → index_of t xs ≡ Some i
index_here t [] i x e p before = cc
index_here t (y ∷ ys) zero x e p before = grind arith
index_here t (y ∷ ys) (suc i) x e p before = grind (arith, before 0 y (omega arith) refl, index_here t ys i x e p (λ j z l g. before (suc j) z (omega arith) g))

pub index_none : (t : Area → Bool) (xs : List Area) → NonePasses t xs → index_of t xs ≡ None
index_none t [] none = refl
index_none t (x ∷ xs) none = grind (arith, none 0 x refl, index_none t xs (λ j y e. none (suc j) y e))

pub any_here : (t : Area → Bool) (xs : List Area) (i : ℕ) (x : Area) → slice_get xs i ≡ Some x → t x ≡ true → any t xs ≡ true
any_here t [] i x e p = cc
any_here t (y ∷ ys) zero x e p = grind arith
any_here t (y ∷ ys) (suc i) x e p = grind (arith, any_here t ys i x e p)

pub any_none : (t : Area → Bool) (xs : List Area) → NonePasses t xs → any t xs ≡ false
any_none t [] none = refl
any_none t (x ∷ xs) none = grind (arith, none 0 x refl, any_none t xs (λ j y e. none (suc j) y e))

-- the area that begins at a is the one with the number of the first that begins there
found_at : (a : ℕ) (xs : List Area) → option_and_then (slice_get xs) (index_of (begins a) xs) ≡ found a xs
found_at a [] = refl
found_at a (x ∷ xs) = grind (arith, found_at a xs)

pub found_none : (a : ℕ) (xs : List Area) → None ≡ index_of (begins a) xs → found a xs ≡ None
found_none a xs e = grind (arith, found_at a xs)

pub found_some : (a : ℕ) (xs : List Area) (i : ℕ) (x : Area) → Some i ≡ index_of (begins a) xs → x ≡ get_or xs i x → found a xs ≡ Some x
found_some a xs i x e r = grind (arith, found_at a xs, slice_get-get_or xs i x (index_within (begins a) xs i e))

-- what `map` gives where each call gives the number that it is passed
pub mapped : (o r : Option ℕ) (Q : ℕ → ℕ → Type 0) → MatchOption o (r ≡ None) (λ i. IsSomeAnd r (Q i)) → ((i j : ℕ) → Q i j → j ≡ i) → r ≡ o
mapped None r Q h calls = h
mapped (Some i) None Q h calls = absurd h
mapped (Some i) (Some j) Q h calls = ap (λ k. Some k) (calls i j h)
