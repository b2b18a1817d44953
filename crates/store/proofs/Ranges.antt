-- `all` over the numbers below n, said of the numbers and not of a list. Assumes nothing.
use Rattle.std.specs.Bool.{MatchBool}
use Rattle.std.specs.List.{AllWithin, HoldsAt, range_with_len}
use Rattle.std.proofs.Common.{ℕ, ◌<◌, Bool, true, false, length, slice_index_or, subst, arith}
use Rattle.std.proofs.lemmas.List.FromFn.{length-range_with_len, get_or-range_with_len}

pub all_below : (n : ℕ) (r : Bool) (Yes No : ℕ → Type 0)
    → MatchBool r (AllWithin Yes (range_with_len 0 n) 0 (length (range_with_len 0 n))) ((k : ℕ) × (k < length (range_with_len 0 n)) × HoldsAt No (range_with_len 0 n) k)
    → MatchBool r ((k : ℕ) → k < n → Yes k) ((k : ℕ) × (k < n) × No k)
all_below n r Yes No = told r
  where
    at : (P : ℕ → Type 0) (k : ℕ) → k < n → P (slice_index_or (range_with_len 0 n) k 0) → P k
    at P k l h = subst P {x = slice_index_or (range_with_len 0 n) k 0} {y = k} (omega (arith, get_or-range_with_len 0 n k 0 l)) h

    told : (b : Bool) → MatchBool b (AllWithin Yes (range_with_len 0 n) 0 (length (range_with_len 0 n))) ((k : ℕ) × (k < length (range_with_len 0 n)) × HoldsAt No (range_with_len 0 n) k)
        → MatchBool b ((k : ℕ) → k < n → Yes k) ((k : ℕ) × (k < n) × No k)
    told true h = λ k l. at Yes k l (h k 0 (omega arith) (omega (arith, length-range_with_len 0 n)))
    told false h = let l : h.0 < n = omega (arith, h.1, length-range_with_len 0 n) in (h.0, l, at No h.0 l (h.2 0))
