-- A placing as those who write a store see it: which bytes change, and what each becomes.
use Rattle.std.specs.Prelude.{◌≡◌, ℕ, ◌+◌, ◌-◌, true, false, cond, Ok, Err, Result}
use Rattle.refusal.specs.declared.Rule.TheVariants.{Placing as PlacingRule}
use Rattle.refusal.specs.Refusals.{Refusal}
use Rattle.store.specs.declared.tags.Cell.{Cell}
use Rattle.store.specs.declared.placing.Placing.{Placing}
use Rattle.store.specs.Cells.{Memory, kind_of, fresh, among, placed, refused, torn}

-- the answer to a request for a placing: it is refused by the rule of stores, or it is the one that was asked for
abbrev pub Requested : ℕ → ℕ → ℕ → Result Placing Refusal → Type 0
Requested a k n (Ok p) = (refused a k n ≡ false) × (p.start ≡ a) × (p.kind ≡ kind_of k) × (p.size ≡ n)
Requested a k n (Err e) = (refused a k n ≡ true) × (e ≡ (PlacingRule, 0))

-- what the placing leaves of a memory
abbrev pub carried : Memory → Placing → Memory
carried m p = placed m p.start p.kind p.size

-- the cell that byte i gets, if it changes
abbrev pub laid : Placing → ℕ → Cell
laid p i = cond (among p.start p.size i) (fresh p.kind p.size (i - p.start)) torn

abbrev pub last : Placing → ℕ
last p = p.start + p.size - 1

-- What changes lies from the start of the object of the first byte, whose cell is c, to the end of the object of the last, whose cell is d.
abbrev pub spanned : Placing → Cell → Cell → ℕ × ℕ
spanned p c d = (p.start - c.position, last p - d.position + d.size)

abbrev pub span_in : Memory → Placing → ℕ × ℕ
span_in m p = spanned p (m p.start) (m (last p))
