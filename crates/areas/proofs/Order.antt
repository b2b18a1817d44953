-- Areas stay in order and apart. Assumes nothing.
use Rattle.std.proofs.Common.{◌≡◌, ℕ, zero, suc, ◌+◌, ◌<◌, ◌≤◌, Bool, true, false, ◌⊎◌, List, [], ◌∷◌, length, IfSome, Some, None, Option, Ok, filter, sym, refl, inl, inr, arith}
use Rattle.std.specs.List.{slice_get}
use Rattle.std.proofs.lemmas.Bool.Decides.{nat_tests}
use Rattle.areas.specs.declared.area.Area.{Area}
use Rattle.areas.specs.Area.{area_of, crosses, any, lawful}
use Rattle.areas.specs.Ordered.{fits, above, ordered, inserted, found, In, InOrder, Added}
use Rattle.areas.specs.Calls.{Within, open_answer}

-- what an ordered row tells of its first area and of the rest
pub record Headed (x : Area) (xs : List Area) : Type 0 where
  pub some : 0 < x.length
  pub within : x.start + x.length ≤ 4096
  pub later : above (x.start + x.length) xs ≡ true
  pub rest : ordered xs ≡ true

pub headed : (x : Area) (xs : List Area) → ordered (x ∷ xs) ≡ true → Headed x xs
headed x xs o = record { some = grind (arith, nat_tests); within = grind (arith, nat_tests); later = grind (arith, nat_tests); rest = grind (arith, nat_tests) }

pub above_less : (d e : ℕ) (xs : List Area) → d ≤ e → above e xs ≡ true → above d xs ≡ true
above_less d e [] l h = refl
above_less d e (x ∷ xs) l h = grind (arith, nat_tests, above_less d e xs l)

above-inserted : (e : ℕ) (a : Area) (xs : List Area) → e ≤ a.start → above e xs ≡ true → above e (inserted a xs) ≡ true
above-inserted e a [] l h = grind (arith, nat_tests)
above-inserted e a (x ∷ xs) l h = grind (arith, nat_tests, above-inserted e a xs l)

pub inserted-ordered : (a : Area) (xs : List Area) → fits a ≡ true → ordered xs ≡ true → any (crosses a.start a.length) xs ≡ false → ordered (inserted a xs) ≡ true
inserted-ordered a [] f o s = grind (arith, nat_tests)
inserted-ordered a (x ∷ xs) f o s = grind (arith, nat_tests, inserted-ordered a xs f, above_less (a.start + a.length) (x.start + x.length) xs, above-inserted (x.start + x.length) a xs)

above_kept : (t : Area → Bool) (e : ℕ) (xs : List Area) → above e xs ≡ true → above e (filter t xs) ≡ true
above_kept t e [] h = refl
above_kept t e (x ∷ xs) h = grind (arith, nat_tests, above_kept t e xs)

pub kept-ordered : (t : Area → Bool) (xs : List Area) → ordered xs ≡ true → ordered (filter t xs) ≡ true
kept-ordered t [] h = refl
kept-ordered t (x ∷ xs) o = grind (arith, nat_tests, kept-ordered t xs, above_kept t (x.start + x.length) xs)

-- an area found lies in memory, and begins where it was looked for
pub found_within : (a : ℕ) (xs : List Area) (x : Area) → ordered xs ≡ true → Some x ≡ found a xs → (x.start ≡ a) × Within x
found_within a [] x o e = cc
found_within a (y ∷ xs) x o e = grind (arith, nat_tests, found_within a xs x)

-- a lawful access lies in memory
pub lawful-within : (xs : List Area) (a n : ℕ) → ordered xs ≡ true → lawful xs a n ≡ true → a + n ≤ 4096
lawful-within [] a n o h = cc
lawful-within (x ∷ xs) a n o h = grind (arith, nat_tests, lawful-within xs a n)

-- each area lies in memory
pub nth_within : (xs : List Area) (i : ℕ) (x : Area) → ordered xs ≡ true → slice_get xs i ≡ Some x → Within x
nth_within [] i x o e = cc
nth_within (y ∷ ys) zero x o e = grind (arith, nat_tests)
nth_within (y ∷ ys) (suc i) x o e = grind (arith, nat_tests, nth_within ys i x)

pub some_within : (xs : List Area) (i : ℕ) (o : Option Area) → ordered xs ≡ true → o ≡ slice_get xs i → IfSome o Within
some_within xs i None h e = tt
some_within xs i (Some x) h e = nth_within xs i x h (sym e)

-- In the words of the rules.

above_at : (e : ℕ) (xs : List Area) (j : ℕ) (y : Area) → above e xs ≡ true → slice_get xs j ≡ Some y → e ≤ y.start
above_at e [] j y h n = cc
above_at e (x ∷ xs) zero y h n = grind (arith, nat_tests)
above_at e (x ∷ xs) (suc j) y h n = grind (arith, nat_tests, above_at e xs j y)

pub in_order : (xs : List Area) → ordered xs ≡ true → InOrder xs
in_order [] o i j x y l p q = cc
in_order (z ∷ zs) o zero zero x y l p q = absurd (omega arith)
in_order (z ∷ zs) o zero (suc j) x y l p q = grind (arith, nat_tests, above_at (z.start + z.length) zs j y)
in_order (z ∷ zs) o (suc i) zero x y l p q = absurd (omega arith)
in_order (z ∷ zs) o (suc i) (suc j) x y l p q = grind (arith, nat_tests, in_order zs (headed z zs o).rest i j x y)

in_new : (a : Area) (xs : List Area) → In a (inserted a xs)
in_new a [] = inl refl
in_new a (x ∷ xs) = grind (arith, nat_tests, in_new a xs)

in_old : (a : Area) (xs : List Area) (y : Area) → In y xs → In y (inserted a xs)
in_old a [] y h = inr h
in_old a (x ∷ xs) y h = grind (arith, nat_tests, in_old a xs y)

in_only : (a : Area) (xs : List Area) (y : Area) → In y (inserted a xs) → (y ≡ a) ⊎ In y xs
in_only a [] y h = h
in_only a (x ∷ xs) y h = grind (arith, nat_tests, in_only a xs y)

pub added : (a : Area) (xs : List Area) → ordered (inserted a xs) ≡ true → Added xs a (inserted a xs)
added a xs o = record { has_new = in_new a xs; has_old = in_old a xs; no_other = in_only a xs; in_order = in_order (inserted a xs) o }

-- what a granted opening tells
pub granted-opening : (xs : List Area) (a n : ℕ) → Ok tt ≡ open_answer xs a n → (fits (area_of a n) ≡ true) × (any (crosses a n) xs ≡ false) × (length xs ≡ 32 → ⊥)
granted-opening xs a n e = (grind (arith, nat_tests), grind (arith, nat_tests), λ full. grind (arith, nat_tests))

pub opening-ordered : (xs : List Area) (a n : ℕ) → Ok tt ≡ open_answer xs a n → ordered xs ≡ true → ordered (inserted (area_of a n) xs) ≡ true
opening-ordered xs a n e o = let g = granted-opening xs a n e in inserted-ordered (area_of a n) xs g.0 o g.1
