-- Areas, and what bytes have to do with them.
use Rattle.std.specs.Prelude.{ℕ, ◌+◌, Bool, false, ◌&&◌, ◌||◌, List, [], ◌∷◌, ◌==◌, nat_le, nat_lt}
use Rattle.areas.specs.declared.area.Area.{Area}

abbrev pub area_of : ℕ → ℕ → Area
area_of a n = record { start = a; length = n }

-- the n bytes from a share one with the area
abbrev pub crosses : ℕ → ℕ → Area → Bool
crosses a n x = nat_lt a (x.start + x.length) && nat_lt x.start (a + n)

-- the n bytes from a lie in the area
abbrev pub holds : ℕ → ℕ → Area → Bool
holds a n x = nat_le x.start a && nat_le (a + n) (x.start + x.length)

abbrev pub begins : ℕ → Area → Bool
begins a x = x.start == a

-- the test passes for one of the areas
abbrev pub any : (Area → Bool) → List Area → Bool
any t [] = false
any t (x ∷ xs) = t x || any t xs

-- the n bytes from a lie in one of the areas
abbrev pub lawful : List Area → ℕ → ℕ → Bool
lawful xs a n = any (holds a n) xs
