-- What `get(i).copied()` answers. Assumes nothing.
use Rattle.std.specs.Option.{option_copied}
use Rattle.std.specs.Slice.{IsItemAt}
use Rattle.std.specs.Borrow.{Bor}
use Rattle.std.proofs.Common.{◌≡◌, ℕ, true, false, cond, ltb, List, length, slice_index_or, Some, None, Option, refl, ap, ◌∙◌, arith}
use Rattle.std.proofs.lemmas.Bool.{lt-ltb, le-ltb}
use Rattle.std.proofs.lemmas.List.{get_or_default}

pub copied_is : {X : Type 0} (xs : List X) (n i : ℕ) (d : X) (r : Option (Bor X)) → length xs ≡ n → IsItemAt xs i r → option_copied r ≡ cond (ltb i n) (Some (slice_index_or xs i d)) None
copied_is xs n i d None e h = let l : ltb i n ≡ false = le-ltb i n (omega (arith, h.3)) in rw l refl
copied_is xs n i d (Some x) e h = let l : ltb i n ≡ true = lt-ltb i n (omega (arith, h.3.0)) in rw l (ap Some (h.1 ∙ get_or_default xs i x.now d h.3.0))
