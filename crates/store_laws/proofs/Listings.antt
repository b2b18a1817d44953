-- Two memories that end at 4,096 are one where their lists are. Assumes nothing.
use Rattle.std.proofs.Common.{◌≡◌, ℕ, ◌<◌, length, get_or, sym, ap, ◌∙◌, ⊎_elim, arith}
use mathlib.Core.Path.{fun_ext}
use Rattle.std.proofs.lemmas.Bool.{cases_lt}
use Rattle.std.proofs.lemmas.List.FromFn.{length-map-range_with_len, get_or-map-range_with_len}
use Rattle.store.specs.Cells.{Memory, Whole, unallocated}
use Rattle.store.proofs.Numbers.{blank_is}
use Rattle.store_laws.specs.Listed.{listed, Listing}

list_long : (m : Memory) → length (listed m) ≡ 4096
unfolding listed
list_long m = length-map-range_with_len m 0 4096

list_each : (m : Memory) (i : ℕ) → i < 4096 → get_or (listed m) i unallocated ≡ m i
unfolding listed
list_each m i h = get_or-map-range_with_len m 0 4096 i i unallocated h (omega arith)

list_only : (m n : Memory) → Whole m → Whole n → listed m ≡ listed n → m ≡ n
list_only m n v w e =
    fun_ext (λ i. ⊎_elim
    (λ h. sym (list_each m i h) ∙ ap (λ l. get_or l i unallocated) e ∙ list_each n i h)
    (λ h. blank_is (m i) (v.3 i h) ∙ sym (blank_is (n i) (w.3 i h)))
    (cases_lt i 4096))

pub listing : Listing
listing = record { long = list_long; each = list_each; only = list_only }
