-- A row of unallocated cells, and a row with one more cell laid. Assumes nothing.
use Rattle.std.proofs.Common.{◌≡◌, ℕ, ◌+◌, ◌<◌, ◌≤◌, true, cond, ◌&&◌, ltb, leb, List, length, set, replicate, sym, ap, ◌∙◌, subst, ⊎_elim, arith, get_or-set_other, get_or-set_same}
use mathlib.Core.Path.{fun_ext}
use lib.ListN.{length-replicate, get_or-replicate}
use Rattle.std.proofs.lemmas.Bool.{cases_lt, cases_eq}
use Rattle.std.proofs.lemmas.Bool.Decides.{nat_tests}
use Rattle.std.proofs.lemmas.List.{get_or_past}
use Rattle.store.specs.declared.tags.Cell.{Cell}
use Rattle.store.specs.declared.placing.Placing.{Placing}
use Rattle.store.specs.Cells.{Memory, Whole, empty, unallocated}
use Rattle.store.specs.Placing.{carried, laid, span_in}
use Rattle.store.proofs.Objects.{span_carried, span_up}
use Rattle.store.proofs.Placings.{whole-empty}
use Rattle.flat.specs.Rows.{memory}

pub memory_new : (n : ℕ) (c : Cell) → c ≡ unallocated → memory (replicate n c) ≡ empty
memory_new n c e =
    fun_ext (λ i. ⊎_elim
    (λ h. get_or-replicate n i c unallocated h ∙ e)
    (λ h. get_or_past (replicate n c) i unallocated (rw length-replicate h))
    (cases_lt i n))

pub whole_new : (n : ℕ) (c : Cell) → c ≡ unallocated → Whole (memory (replicate n c))
whole_new n c e = subst Whole (sym (memory_new n c e)) whole-empty

-- a turn of the loop that lays the cells from low on
pub laid_more : (cells : List Cell) (low i j : ℕ) (c : Cell) (lay old : ℕ → Cell) → low ≤ i → i < length cells → c ≡ lay i
    → ((j : ℕ) → memory cells j ≡ cond (leb low j && ltb j i) (lay j) (old j))
    → memory (set cells i c) j ≡ cond (leb low j && ltb j (i + 1)) (lay j) (old j)
laid_more cells low i j c lay old l h e inv =
    ⊎_elim
    (λ (s : j ≡ i).
    let t : (leb low j && ltb j (i + 1)) ≡ true = grind (arith, nat_tests) in
    rw (t, s) (get_or-set_same cells i c unallocated h ∙ e))
    (λ (s : j ≡ i → ⊥).
    let t : (leb low j && ltb j (i + 1)) ≡ (leb low j && ltb j i) = narrow low i j s in
    rw t (get_or-set_other cells i j c unallocated s ∙ inv j))
    (cases_eq j i)
  where
    narrow : (low i j : ℕ) → (j ≡ i → ⊥) → (leb low j && ltb j (i + 1)) ≡ (leb low j && ltb j i)
    narrow low i j s = grind (arith, nat_tests)

-- and its end, where every byte that changes is laid
pub laid_all : (m : Memory) → Whole m → (p : Placing) (span : ℕ × ℕ) → span ≡ span_in m p → (cells : List Cell) (i : ℕ) → (span.0 ≤ span.1 → i ≤ span.1) → span.1 ≤ i
    → ((j : ℕ) → memory cells j ≡ cond (leb span.0 j && ltb j i) (laid p j) (m j)) → memory cells ≡ carried m p
laid_all m w p span e cells i within past inv =
    fun_ext (λ j. inv j ∙ rw end (ap (λ (x : ℕ × ℕ). cond (leb x.0 j && ltb j x.1) (laid p j) (m j)) e ∙ span_carried m w p j))
  where
    end : i ≡ span.1
    end = let up : span.0 ≤ span.1 = rw e (span_up m w p) in omega (arith, within up)
