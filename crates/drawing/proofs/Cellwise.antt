-- Fields that are placed in a new memory show as they are, and all else is unallocated. Assumes nothing.
use Rattle.std.proofs.Common.{◌≡◌, ℕ, ◌+◌, ◌<◌, ◌≤◌, List, IfSome, Some, None, Option, subst, ⊎_elim, arith, MatchOption}
use Rattle.std.proofs.lemmas.Bool.{cases_lt}
use Rattle.first.specs.First.{Nowhere}
use Rattle.store.specs.declared.tags.Cell.{Cell}
use Rattle.store.specs.Cells.{empty}
use Rattle.layout.specs.declared.field.Field.{Field}
use Rattle.layout.specs.Fields.{field_at, count_of}
use Rattle.layout.specs.Placing.{Inside, Has, Left, own, cut, kept}
use Rattle.drawing.specs.Fields.{Past}
use Rattle.drawing.specs.Drawn.{Shown, own as shown, gap}

-- no field past the memory: each lies inside
pub inside : (b : List ℕ) (n : ℕ) → Nowhere (Past b) n → Inside b n
inside b n h k l = go (field_at b k) (h k l)
  where
    go : (o : Option Field) → (MatchOption o ⊥ (λ f. 4096 < f.address + f.scalar.size) → ⊥) → IfSome o (λ f. f.address + f.scalar.size ≤ 4096)
    go None h = tt
    go (Some f) h = ⊎_elim (λ (l : 4096 < f.address + f.scalar.size). absurd (h l)) (λ l. l) (cases_lt 4096 (f.address + f.scalar.size))

pub shows : (b : List ℕ) (i : ℕ) (c : Cell) → Left empty b (count_of b) i c → Shown b i c
shows b i _ (own k f l e o) = shown k f l e o
shows b i _ (cut none (k, l, (j, has, together))) =
    let e : j ≡ i = omega arith in
    absurd (none k l (subst (Has b k) e has))
shows b i _ (kept none apart) = gap none
