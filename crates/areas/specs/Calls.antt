-- What the calls on areas answer and leave.
use Rattle.std.specs.Prelude.{ℕ, ◌+◌, ◌<◌, ◌≤◌, cond, ◌||◌, List, length, Some, None, Ok, Err, Option, Result, ◌==◌, nat_lt}
use Rattle.refusal.specs.declared.Rule.TheVariants.{AreaExtent, AreasApart, AreaRoom, AreaOpen}
use Rattle.refusal.specs.Refusals.{Refusal}
use Rattle.areas.specs.declared.area.Area.{Area}
use Rattle.areas.specs.declared.areas.Areas.{Areas}
use Rattle.areas.specs.Area.{crosses, any}

-- the open areas
abbrev pub opened : Areas → List Area
opened s = s.list.items

-- an answer, or a refusal: its number and its place
abbrev pub Answer : Type 0 → Type 0
Answer A = Result A Refusal

-- 11 for no length or an end past 4,096, then 24 for a byte in common with an open area, then 25 for 32 open areas
abbrev pub open_answer : List Area → ℕ → ℕ → Answer (Unit {0})
open_answer xs a n =
    cond (n == 0 || nat_lt 4096 (a + n)) (Err (AreaExtent, 0))
    (cond (any (crosses a n) xs) (Err (AreasApart, 0))
    (cond (length xs == 32) (Err (AreaRoom, 0)) (Ok tt)))

-- the area that begins there, or 26
abbrev pub shut_answer : Option Area → Answer Area
shut_answer (Some x) = Ok x
shut_answer None = Err (AreaOpen, 0)

-- what a call leaves: the new value if it is granted, otherwise the old
abbrev pub left : {A B : Type 0} → Answer B → A → A → A
left (Ok x) new old = new
left (Err e) new old = old

-- the area lies in memory
abbrev pub Within : Area → Type 0
Within x = (0 < x.length) × (x.start + x.length ≤ 4096)
