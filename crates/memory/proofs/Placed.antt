-- The answers to an import, and what a granted one leaves. Assumes nothing.
use Rattle.std.proofs.Common.{◌≡◌, ℕ, zero, suc, ◌+◌, ◌-◌, ◌<◌, ◌≤◌, true, false, List, IfSome, Some, None, Ok, Err, Option, sym, refl, ap, ◌∙◌, subst, inl, inr, ⊎_elim, arith, MatchOption}
use Rattle.std.proofs.lemmas.Bool.{cases_Bool, cases_eq}
use Rattle.std.proofs.lemmas.Bool.Decides.{nat_tests}
use Rattle.refusal.specs.declared.Rule.TheVariants.{FieldInside}
use Rattle.refusal.specs.Refusals.{Answer, Refusal}
use Rattle.store.specs.declared.tags.Cell.{Cell}
use Rattle.store.specs.Cells.{Memory as Cells, among, cell_of, torn}
use Rattle.store.specs.Objects.{Among}
use Rattle.first.specs.First.{Granted, Nowhere, Ruled, Only, Somewhere}
use Rattle.first.proofs.Firsts.{only_like}
use Rattle.areas.specs.declared.area.Area.{Area}
use Rattle.areas.specs.Area.{lawful}
use Rattle.areas.specs.Ordered.{ordered}
use Rattle.areas.proofs.Order.{lawful-within}
use Rattle.layout.specs.declared.field.Field.{Field}
use Rattle.layout.specs.Fields.{Owns, byte_of, count_of, field_at}
use Rattle.layout.specs.Rules.{Common, Shared}
use Rattle.layout.specs.Rules.{Allowed as GrantedBody}
use Rattle.layout.specs.Placing.{Has, Inside}
use Rattle.layout.specs.Placing as placing
use Rattle.memory.specs.Bytes.{Bytes}
use Rattle.memory.specs.Import.{Allowed, Left, Unhoused, cut, granted, kept, laid_bytes, no_area, own, write_field, wrong_body}

module _ (xs : List Area) (b : List ℕ) where
  -- a body that is refused as it is
  pub answer_body : (e : Refusal) → Only (GrantedBody b) (Err e) → Only (Allowed xs b) (Err e)
  answer_body e h = record { allows = wrong_body e h.allows; alone = alone }
    where
      no_such : ◌≡◌ {A = Answer} (Ok tt) (Err e) → ⊥
      no_such p = let z : ◌≡◌ {A = ℕ} 0 1 = cc in omega arith

      alone : (a : Answer) → Allowed xs b a → a ≡ Err e
      alone _ (wrong_body d g) = h.alone (Err d) g
      alone _ (no_area k g f) = absurd (no_such (h.alone (Ok tt) g))
      alone _ (granted g f) = absurd (no_such (h.alone (Ok tt) g))

  -- a body that is not, by its fields' areas
  pub answer-areas : (n : ℕ) → n ≡ count_of b → Only (GrantedBody b) (Ok tt) → (a : Answer) → Only (Ruled FieldInside (Unhoused xs b) n Granted) a → Only (Allowed xs b) a
  answer-areas n e g a h = only_like to from a (subst (λ n. Only (Ruled FieldInside (Unhoused xs b) n Granted) a) e h)
    where
      no_such : (d : Refusal) → ◌≡◌ {A = Answer} (Err d) (Ok tt) → ⊥
      no_such d p = let z : ◌≡◌ {A = ℕ} 0 1 = cc in omega arith

      to : (a : Answer) → Ruled FieldInside (Unhoused xs b) (count_of b) Granted a → Allowed xs b a
      to _ (inl (k, f, e)) = subst (Allowed xs b) (sym e) (no_area k g.allows f)
      to _ (inr (f, e)) = subst (Allowed xs b) (sym e) (granted g.allows f)

      from : (a : Answer) → Allowed xs b a → Ruled FieldInside (Unhoused xs b) (count_of b) Granted a
      from _ (wrong_body d x) = absurd (no_such d (g.alone (Err d) x))
      from _ (no_area k x f) = inl (k, f, refl)
      from _ (granted x f) = inr (f, refl)

  -- what a granted import keeps
  pub granted_keeps : (a : Answer) → Allowed xs b a → a ≡ Ok tt → GrantedBody b (Ok tt) × Nowhere (Unhoused xs b) (count_of b)
  granted_keeps _ (wrong_body d x) e = let z : ◌≡◌ {A = ℕ} 0 1 = cc in absurd (omega arith)
  granted_keeps _ (no_area k x f) e = let z : ◌≡◌ {A = ℕ} 0 1 = cc in absurd (omega arith)
  granted_keeps _ (granted x f) e = (x, f)

  -- fields in open areas lie inside the memory
  housed-inside : (o : Option Field) → ordered xs ≡ true → (MatchOption o ⊥ (λ f. lawful xs f.address f.scalar.size ≡ false) → ⊥) → IfSome o (λ f. f.address + f.scalar.size ≤ 4096)
  housed-inside None o h = tt
  housed-inside (Some f) o h =
      lawful-within xs f.address f.scalar.size o (⊎_elim (λ y. y) (λ y. absurd (h y)) (cases_Bool (lawful xs f.address f.scalar.size)))

  pub all-inside : (n : ℕ) → ordered xs ≡ true → Nowhere (Unhoused xs b) n → Inside b n
  all-inside n o h k l = housed-inside (field_at b k) o (h k l)

among_is : (a n i : ℕ) → Among a n i → among a n i ≡ true
among_is a n i h = let l = h.0 in let g = h.1 in grind (arith, nat_tests)

not-among : (a n i : ℕ) → (Among a n i → ⊥) → among a n i ≡ false
not-among a n i h = ⊎_elim (λ (t : among a n i ≡ true). absurd (h (grind (arith, nat_tests), grind (arith, nat_tests)))) (λ f. f) (cases_Bool (among a n i))

module _ (f : Bytes) (b : List ℕ) (i : ℕ) where
  -- a field that does not have the byte leaves it
  beside : (g : Bytes) (o : Option Field) → (MatchOption o ⊥ (λ x. Owns x i) → ⊥) → write_field g o i ≡ g i
  beside g None h = refl
  beside g (Some x) h = rw (not-among x.address x.scalar.size i h) refl

  -- a byte of no field keeps its value
  free_byte : (n : ℕ) → Nowhere (λ k. Has b k i) n → laid_bytes f b n i ≡ f i
  free_byte zero h = refl
  free_byte (suc n) h = beside (laid_bytes f b n) (field_at b n) (h n (omega arith)) ∙ free_byte n (λ j l x. h j (omega arith) x)

  -- a later field that has the byte would share it
  shares : (n k : ℕ) (x : Field) → k < n → field_at b k ≡ Some x → Owns x i → (o : Option Field) → MatchOption o ⊥ (λ y. Owns y i) → MatchOption o ⊥ (λ y. Somewhere (λ j. MatchOption (field_at b j) ⊥ (λ e. Common e y)) n)
  shares n k x l e w None h = h
  shares n k x l e w (Some y) h = (k, l, subst (λ o. MatchOption o ⊥ (λ e. Common e y)) (sym e) (i, w, h))

  here : (g : Bytes) (o : Option Field) (x : Field) → o ≡ Some x → Owns x i → write_field g o i ≡ byte_of x.reset (i - x.address)
  here g o x e w = subst (λ o. write_field g o i ≡ byte_of x.reset (i - x.address)) (sym e) (rw (among_is x.address x.scalar.size i w) refl)

  -- a byte of a field holds that byte of its reset value
  own-byte : (n k : ℕ) (x : Field) → Nowhere (Shared b) n → k < n → field_at b k ≡ Some x → Owns x i → laid_bytes f b n i ≡ byte_of x.reset (i - x.address)
  own-byte zero k x apart l e w = absurd (omega arith)
  own-byte (suc n) k x apart l e w = ⊎_elim
      (λ (s : k ≡ n). here (laid_bytes f b n) (field_at b n) x (ap (field_at b) (sym s) ∙ e) w)
      (λ (s : k ≡ n → ⊥).
      let before : k < n = omega arith in
      beside (laid_bytes f b n) (field_at b n) (λ h. apart n (omega arith) (shares n k x before e w (field_at b n) h))
      ∙ own-byte n k x (λ j l x. apart j (omega arith) x) before e w)
      (cases_eq k n)

  -- the value beside the cell
  pub with_byte : (m : Cells) (n : ℕ) (c : Cell) → Nowhere (Shared b) n → placing.Left m b n i c → Left f m b n i (laid_bytes f b n i) c
  with_byte m n _ apart (placing.own k x l e w) =
      subst (λ v. Left f m b n i v (cell_of x.scalar.kind x.scalar.size (i - x.address))) (sym (own-byte n k x apart l e w)) (own k x l e w)
  with_byte m n _ apart (placing.cut h s) = subst (λ v. Left f m b n i v torn) (sym (free_byte n h)) (cut h s)
  with_byte m n _ apart (placing.kept h s) = subst (λ v. Left f m b n i v (m i)) (sym (free_byte n h)) (kept h s)
