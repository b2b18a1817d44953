-- Calls that ask a question of each number in turn, until one says yes, and keep what the answers depend on. Assumes nothing.
use Rattle.std.proofs.Common.{◌≡◌, ℕ, zero, suc, ◌+◌, ◌<◌, ◌≤◌, Bool, true, false, ◌⊎◌, List, [], ◌∷◌, Some, None, Option, Decides, MatchOption, sym, refl, ◌∙◌, subst, inl, inr, ⊎_elim, arith}
use borrow.Author.Tests.{clash}
use Rattle.std.proofs.lemmas.Bool.{cases_eq}
use Rattle.std.proofs.lemmas.Iterator.{YieldsList}
use Rattle.std.specs.Iterator.{Yields, YieldsThen, AlwaysYields}
use Rattle.std.specs.List.{FoldsTo, range_with_len}
use Rattle.std.specs.Fn.{Mut, Called}

abbrev pub AnyOf : (ℕ → Type 0) → List ℕ → Type 0
AnyOf P [] = ⊥
AnyOf P (x ∷ xs) = P x ⊎ AnyOf P xs

pub any_found : (P : ℕ → Type 0) (a n : ℕ) → AnyOf P (range_with_len a n) → (i : ℕ) × P i
any_found P a zero h = absurd h
any_found P a (suc n) (inl h) = (a, h)
any_found P a (suc n) (inr h) = any_found P (a + 1) n h

pub found_any : (P : ℕ → Type 0) (a n i : ℕ) → a ≤ i → i < a + n → P i → AnyOf P (range_with_len a n)
found_any P a zero i l h p = absurd (omega arith)
found_any P a (suc n) i l h p = ⊎_elim
    (λ s. inl (subst P s p))
    (λ ne. inr (found_any P (a + 1) n i (omega arith) (omega arith) p))
    (cases_eq i a)

module _ {S F : Type 0} (steps : S → Option ℕ → S → Type 0) (g : Mut F (ℕ × Unit {0}) Bool) (Kept : F → Type 0) (P : ℕ → Type 0)
    (call : (p : F) (x : ℕ) (b : Bool) (q : F) → Kept p → Called g p (x, tt) b q → Kept q × Decides b (P x)) (u : S) (j : F) (r : Bool) where
  abbrev Ended : Option ℕ → Type 0
  Ended o = MatchOption o (r ≡ false) (λ x. (r ≡ true) × ((h : F) × Called g j (x, tt) true h))

  asked : (xs ys : List ℕ) (s t : S) (p : F) (o : Option ℕ) → AlwaysYields steps (λ x. x) s ys → Yields steps s xs t → FoldsTo (λ k x q. Called g k (x, tt) false q) p xs j → steps t o u → Ended o → Kept p → Decides r (AnyOf P ys)
  asked [] [] s t p None e y c d m k = ((λ z. absurd (clash (sym m ∙ z))), λ z. absurd z)
  asked [] [] s t p (Some x) e y c d m k = absurd (e x u (subst (λ z. steps z (Some x) u) (sym y) d))
  asked [] (z ∷ ys) s t p None e y c d m k = absurd (e.0 u (subst (λ w. steps w None u) (sym y) d))
  asked [] (z ∷ ys) s t p (Some x) e y c d m k =
      let is = (e.1 x u (subst (λ w. steps w (Some x) u) (sym y) d)).0 in
      let yes = call j x true m.1.0 (subst Kept c k) m.1.1 in
      ((λ _. inl (subst P is (yes.1.0 refl))), λ _. m.0)
  asked (x ∷ xs) [] s t p o e y c d m k = absurd (e x y.0 y.1)
  asked (x ∷ xs) (z ∷ ys) s t p o e y c d m k =
      let first = e.1 x y.0 y.1 in
      let no = call p x false c.0 k c.1 in
      let rest = asked xs ys y.0 t c.0 o first.1 y.2 c.2 d m no.0 in
      ((λ w. inr (rest.0 w)), λ w. ⊎_elim (λ h. absurd (clash (no.1.1 (subst P (sym first.0) h)))) rest.1 w)

pub any_kept : {S F : Type 0} {steps : S → Option ℕ → S → Type 0} {s : S} {ys : List ℕ} (g : Mut F (ℕ × Unit {0}) Bool) (u : S) (f : F) (r : Bool) (Kept : F → Type 0) (P : ℕ → Type 0)
    → (xs : List ℕ) × (o : Option ℕ) × (j : F) × YieldsThen steps s xs o u × FoldsTo (λ p x q. Called g p (x, tt) false q) f xs j × MatchOption o (r ≡ false) (λ x. (r ≡ true) × ((h : F) × Called g j (x, tt) true h))
    → YieldsList steps (λ x. x) s ys → Kept f → ((p : F) (x : ℕ) (b : Bool) (q : F) → Kept p → Called g p (x, tt) b q → Kept q × Decides b (P x)) → Decides r (AnyOf P ys)
any_kept {steps = steps} {s = s} {ys = ys} g u f r Kept P d e k call = asked steps g Kept P call u d.2 r d.0 ys s d.3.0 f d.1 e.runs d.3.1 d.4 d.3.2 d.5 k
