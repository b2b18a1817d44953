-- A body has one answer that the rules allow. Assumes nothing.
use Rattle.std.proofs.Common.{◌≡◌, ℕ, true, List, is_some, IfSome, Some, None, Ok, Err, Option, sym, refl, subst, inl, inr, arith}
use Rattle.refusal.specs.declared.Rule.TheVariants.{LayoutLength, FieldForm, FieldsApart}
use Rattle.refusal.specs.Refusals.{Answer}
use Rattle.first.specs.First.{Nowhere, Only, Granted, Ruled}
use Rattle.first.proofs.Firsts.{only_like}
use Rattle.layout.specs.declared.field.Field.{Field}
use Rattle.layout.specs.Fields.{field_at, count_of, Measured}
use Rattle.layout.specs.Rules.{TooLarge, Unfit, Shared, Allowed, wrong_length, unfit_field, shared_byte, granted}

module _ (b : List ℕ) where
  pub answer-length : (Measured b → ⊥) → Only (Allowed b) (Err (LayoutLength, 0))
  answer-length h = record { allows = wrong_length h; alone = alone }
    where
      alone : (a : Answer) → Allowed b a → a ≡ Err (LayoutLength, 0)
      alone _ (wrong_length _) = refl
      alone _ (unfit_field k m f) = absurd (h m)
      alone _ (shared_byte k m n f) = absurd (h m)
      alone _ (granted m n s) = absurd (h m)

  abbrev InOrder : ℕ → Answer → Type 0
  InOrder n = Ruled FieldForm (Unfit b) n (Ruled FieldsApart (Shared b) n Granted)

  -- a body of a right length has the answer of its fields' rules, in their order
  pub answer_fields : (n : ℕ) → n ≡ count_of b → Measured b → (a : Answer) → Only (InOrder n) a → Only (Allowed b) a
  answer_fields n e m a h = only_like to from a (subst (λ n. Only (InOrder n) a) e h)
    where
      to : (a : Answer) → InOrder (count_of b) a → Allowed b a
      to _ (inl (k, f, e)) = subst (Allowed b) (sym e) (unfit_field k m f)
      to _ (inr (u, inl (k, f, e))) = subst (Allowed b) (sym e) (shared_byte k m u f)
      to _ (inr (u, inr (s, e))) = subst (Allowed b) (sym e) (granted m u s)

      from : (a : Answer) → Allowed b a → InOrder (count_of b) a
      from _ (wrong_length h) = absurd (h m)
      from _ (unfit_field k _ f) = inl (k, f, refl)
      from _ (shared_byte k _ u f) = inr (u, inl (k, f, refl))
      from _ (granted _ u s) = inr (u, inr (s, refl))

  -- what a granted body keeps
  pub granted_keeps : (a : Answer) → Allowed b a → a ≡ Ok tt → Measured b × Nowhere (Unfit b) (count_of b) × Nowhere (Shared b) (count_of b)
  granted_keeps _ (wrong_length _) e = let no_such : ◌≡◌ {A = ℕ} 0 1 = cc in absurd (omega arith)
  granted_keeps _ (unfit_field k m f) e = let no_such : ◌≡◌ {A = ℕ} 0 1 = cc in absurd (omega arith)
  granted_keeps _ (shared_byte k m u f) e = let no_such : ◌≡◌ {A = ℕ} 0 1 = cc in absurd (omega arith)
  granted_keeps _ (granted m u s) e = (m, u, s)

  -- a fit field is one
  pub field_known : (k : ℕ) → (Unfit b k → ⊥) → is_some (field_at b k) ≡ true
  field_known k = go (field_at b k)
    where
      go : (o : Option Field) → (IfSome o TooLarge → ⊥) → is_some o ≡ true
      go None h = absurd (h tt)
      go (Some f) h = refl
