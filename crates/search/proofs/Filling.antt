-- Marks of which the first, one for each node, are searched, and the rest are zero. Assumes nothing.
use Rattle.std.proofs.Common.{◌≡◌, ℕ, ◌-◌, ◌≤◌, List, ◌++◌, length, get_or, drop, replicate, Ok, Err, Result, ap, ◌∙◌, ⊎_elim, arith, length-append, length-drop}
use Rattle.std.proofs.lemmas.List.{get_or-replicate, get_or_past, length-replicate, get_or-drop, get_or_append_left, get_or-append_right}
use Rattle.std.proofs.lemmas.Bool.{cases_lt}
use Rattle.refusal.specs.Refusals.{Refusal}
use Rattle.search.specs.Marks.{Clear, Reached, Lent, Searched}

pub clear_zeros : (n : ℕ) → Clear (replicate n 0)
clear_zeros n i =
    ⊎_elim (λ h. get_or-replicate n i 0 0 h) (λ h. get_or_past (replicate n 0) i 0 (omega (arith, length-replicate {A = ℕ}))) (cases_lt i n)

reached_front : {path : ℕ → Type 0} (left old : List ℕ) → length left ≡ 256 → Clear old → Reached path left → Reached path (left ++ drop 256 old)
reached_front left old e z r =
    record {
      sound = λ i nz. r.sound i (λ s. nz (⊎_elim (λ h. get_or_append_left left (drop 256 old) 0 i (omega arith) ∙ s) (past i) (cases_lt i 256)));
      whole = λ i p. let h = r.inside i p in get_or_append_left left (drop 256 old) 0 i (omega arith) ∙ r.whole i p;
      inside = r.inside;
    }
  where
    past : (i : ℕ) → 256 ≤ i → get_or (left ++ drop 256 old) i 0 ≡ 0
    past i h = get_or-append_right left (drop 256 old) 256 i 0 (omega arith) (omega arith) ∙ get_or-drop 256 old (i - 256) 0 ∙ z _

-- a search in marks that are lent, where those that are not are zero
pub searched_lent : (path : ℕ → Type 0) (n : ℕ) (old new : List ℕ) (r : Result (Unit {0}) Refusal) (call : Unit {0} → List ℕ → Type 0)
    → Lent call old new r → n ≡ length old → length new ≡ length old → Clear old → ((u : Unit {0}) (left : List ℕ) → call u left → Reached path left) → Searched path n new r
searched_lent path n old new (Ok _) call (h, (left, q, e)) is same z to =
    let whole : length left ≡ 256 = omega (arith, simp length-append at (ap length e), length-drop 256 old) in
    (omega arith, rw e (reached_front left old whole z (to _ left q)))
searched_lent path n old new (Err x) call (few, e) is same z to = (rw is few, rw e z)
