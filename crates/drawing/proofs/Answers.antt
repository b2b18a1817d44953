-- A body has one answer that the rules of drawing allow. Assumes nothing.
use Rattle.std.proofs.Common.{◌≡◌, ℕ, List, Ok, Err, sym, refl, subst, inl, inr, arith}
use Rattle.refusal.specs.declared.Rule.TheVariants.{FieldInside}
use Rattle.refusal.specs.Refusals.{Answer, Refusal}
use Rattle.first.specs.First.{Only, Ruled, Granted, Nowhere}
use Rattle.first.proofs.Firsts.{only_like}
use Rattle.layout.specs.Fields.{count_of}
use Rattle.layout.specs.Rules.{Allowed as Readable}
use Rattle.drawing.specs.Fields.{Past}
use Rattle.drawing.specs.Drawn.{Allowed, unreadable, past_memory, granted}

apart : {X : Type 0} (e : Refusal) → ◌≡◌ {A = Answer} (Ok tt) (Err e) → X
apart e h = let z : ◌≡◌ {A = ℕ} 0 1 = cc in absurd (omega arith)

module _ (b : List ℕ) where
  -- what the layout refuses is refused as it says
  pub answer_layout : (e : Refusal) → Only (Readable b) (Err e) → Only (Allowed b) (Err e)
  answer_layout e h = record { allows = unreadable e h.allows; alone = alone }
    where
      alone : (a : Answer) → Allowed b a → a ≡ Err e
      alone _ (unreadable d r) = h.alone (Err d) r
      alone _ (past_memory k r f) = apart e (h.alone (Ok tt) r)
      alone _ (granted r n) = apart e (h.alone (Ok tt) r)

  -- and what it grants has the answer of 27
  pub answer_past : (a : Answer) → Only (Readable b) (Ok tt) → Only (Ruled FieldInside (Past b) (count_of b) Granted) a → Only (Allowed b) a
  answer_past a r h = only_like to from a h
    where
      to : (a : Answer) → Ruled FieldInside (Past b) (count_of b) Granted a → Allowed b a
      to _ (inl (k, f, e)) = subst (Allowed b) (sym e) (past_memory k r.allows f)
      to _ (inr (n, e)) = subst (Allowed b) (sym e) (granted r.allows n)

      from : (a : Answer) → Allowed b a → Ruled FieldInside (Past b) (count_of b) Granted a
      from _ (unreadable e q) = apart e (sym (r.alone (Err e) q))
      from _ (past_memory k q f) = inl (k, f, refl)
      from _ (granted q n) = inr (n, refl)

  -- what a granted body keeps
  pub granted_parts : (a : Answer) → Allowed b a → a ≡ Ok tt → Readable b (Ok tt) × Nowhere (Past b) (count_of b)
  granted_parts _ (unreadable e r) h = apart e (sym h)
  granted_parts _ (past_memory k r f) h = apart (FieldInside, k) (sym h)
  granted_parts _ (granted r n) h = (r, n)
