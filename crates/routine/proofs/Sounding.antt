-- What accepted steps have. Assumes nothing.
use Rattle.std.proofs.Common.{◌≡◌, ℕ, ◌+◌, ◌<◌, ◌≤◌, Bool, true, false, cond, ◌&&◌, ◌⊎◌, length, IsSomeAnd, Some, None, Ok, Option, sym, refl, ap, ◌∙◌, subst, inl, inr, ⊎_elim, arith}
use borrow.Author.Tests.{clash}
use Rattle.std.proofs.lemmas.Bool.{cases_Bool, cases_eq, cases_lt, lt-ltb}
use Rattle.store.specs.declared.scalars.Scalar.{Scalar}
use Rattle.search.specs.Paths.{Walk, step, onward, Between}
use Rattle.first.specs.First.{Nowhere, Somewhere}
use Rattle.first.proofs.Firsts.{somewhere_or}
use Rattle.steps.specs.declared.step.Takes.{Takes}
use Rattle.steps.specs.Types.{accepts}
use Rattle.steps.specs.Tables.{sets, uses, targets, terminator, nexts}
use Rattle.routine.specs.Flow.{Steps, step_at, Either, Sets, Before}
use Rattle.routine.specs.Graph.{is_set, under, nexts_inside}
use Rattle.routine.specs.Rules.{SetTwice, Unfit, UnfitOperand, Astray, Unset, UnsetOperand, InOrder, Covered, Sound}
use Rattle.routine.proofs.Texts.{step_past}
use Rattle.routine.proofs.Walks.{decides_set}

-- an operand of which Q holds, and neither R nor S
found_in : {A : Type 0} (Q R S : A → Type 0) (o : Option A) → IsSomeAnd o Q → (IsSomeAnd o R → ⊥) → (IsSomeAnd o S → ⊥) → (a : A) × Q a × (R a → ⊥) × (S a → ⊥)
found_in Q R S None h f g = absurd h
found_in Q R S (Some a) h f g = (a, h, f, g)

found : {A : Type 0} (Q R S : A → Type 0) (p : Option A × Option A) → Either Q p → (Either R p → ⊥) → (Either S p → ⊥) → (a : A) × Q a × (R a → ⊥) × (S a → ⊥)
found Q R S p (inl h) f g = found_in Q R S p.0 h (λ x. f (inl x)) (λ x. g (inl x))
found Q R S p (inr h) f g = found_in Q R S p.1 h (λ x. f (inr x)) (λ x. g (inr x))

between_or : {edge : ℕ → ℕ → Type 0} {i j : ℕ} (p : Walk edge i j) (s : ℕ) → Between p s ⊎ (Between p s → ⊥)
between_or (step e) s = inr (λ b. b)
between_or (onward {j = m} p e) s = ⊎_elim
    (λ b. inl (inl b))
    (λ b. ⊎_elim (λ d. inl (inr d)) (λ d. inr (λ x. ⊎_elim b d x)) (cases_eq s m))
    (between_or p s)

before_or : {edge : ℕ → ℕ → Type 0} {i j : ℕ} (p : Walk edge i j) (s : ℕ) → Before p s ⊎ (Before p s → ⊥)
before_or {i = i} p s = ⊎_elim
    (λ e. inl (inl e))
    (λ e. ⊎_elim (λ b. inl (inr b)) (λ b. inr (λ x. ⊎_elim e b x)) (between_or p s))
    (cases_eq s i)

-- not at n or past it, so below
under_of : (n j : ℕ) (o : Option ℕ) → (IsSomeAnd o (λ i. n ≤ i) → ⊥) → IsSomeAnd o (λ i. i ≡ j) → j < n
under_of n j None f h = absurd h
under_of n j (Some i) f h = ⊎_elim (λ l. omega arith) (λ l. absurd (f (omega arith))) (cases_lt i n)

module _ (r : Steps) where
  sets_or : (v i : ℕ) → Sets r v i ⊎ (Sets r v i → ⊥)
  sets_or v i = let d = decides_set v (sets (step_at r i)) in
      ⊎_elim (λ t. inl (d.0 t)) (λ f. inr (λ s. clash (sym f ∙ d.1 s))) (cases_Bool (is_set v (sets (step_at r i))))

  pub sets-inside : (v i : ℕ) → Sets r v i → i < length r
  sets-inside v i s = ⊎_elim (λ l. l)
      (λ l. absurd (subst (λ x. IsSomeAnd (sets x) (λ s. s.0 ≡ v)) (step_past r i l) s))
      (cases_lt i (length r))

  -- a second setting is one too many
  again : (v j k : ℕ) → j < k → Sets r v j → (o : Option (ℕ × Scalar)) → IsSomeAnd o (λ s. s.0 ≡ v) → IsSomeAnd o (λ s. Somewhere (Sets r s.0) k)
  again v j k l t None h = absurd h
  again v j k l t (Some s) h = (j, l, subst (λ x. Sets r x j) (sym h) t)

  one_setting : Nowhere (SetTwice r) (length r) → (v s t : ℕ) → Sets r v s → Sets r v t → t ≡ s
  one_setting none v s t a b = ⊎_elim
      (λ l. absurd (none s (sets-inside v s a) (again v t s l b (sets (step_at r s)) a)))
      (λ l. ⊎_elim (λ m. absurd (none t (sets-inside v t b) (again v s t m a (sets (step_at r t)) b))) (λ m. omega arith) (cases_lt s t))
      (cases_lt t s)

  -- the type that the setting gives
  given : (u : ℕ × Takes) (o : Option (ℕ × Scalar)) → IsSomeAnd o (λ s. s.0 ≡ u.0) → (IsSomeAnd o (λ s. (s.0 ≡ u.0) × (accepts u.1 s.1 ≡ false)) → ⊥)
      → (t : Scalar) × (o ≡ Some (u.0, t)) × (accepts u.1 t ≡ true)
  given u None h f = absurd h
  given u (Some s) h f = (s.1, ap (λ v. Some (v, s.1)) h, ⊎_elim (λ t. t) (λ e. absurd (f (h, e))) (cases_Bool (accepts u.1 s.1)))

  covers : Nowhere (SetTwice r) (length r) → (k : ℕ) (u : ℕ × Takes) → (Unfit r u → ⊥) → ((k ≡ 0) ⊎ Unset r u.0 k → ⊥) → Covered r k u
  covers once k u fit set = ⊎_elim from (λ none. absurd (fit (inl none))) (somewhere_or (Sets r u.0) (sets_or u.0) (length r))
    where
      from : Somewhere (Sets r u.0) (length r) → Covered r k u
      from (s, l, t) =
          let g = given u (sets (step_at r s)) t (λ x. fit (inr (s, l, x))) in
          record {
            setting = s;
            scalar = g.0;
            sets_it = g.1;
            takes_it = g.2;
            alone = λ i a. one_setting once u.0 s i t a;
            not_first = ⊎_elim (λ z. absurd (set (inl z))) (λ z. omega arith) (cases_eq k 0);
            before = λ p. ⊎_elim (λ b. b) (λ b. absurd (set (inr (p, λ i a x. b (subst (Before p) (one_setting once u.0 s i t a) x))))) (before_or p s);
          }

  next-inside : Nowhere (Astray r) (length r) → (k j : ℕ) → k < length r → Either (λ i. i ≡ j) (nexts (step_at r k) k) → j < length r
  next-inside none k j l = go (terminator (step_at r k)) refl
    where
      go : (b : Bool) → terminator (step_at r k) ≡ b → Either (λ i. i ≡ j) (cond b (targets (step_at r k)) (Some (k + 1), None)) → j < length r
      go true e (inl h) = under_of (length r) j (targets (step_at r k)).0 (λ x. none k l (inl (inl x))) h
      go true e (inr h) = under_of (length r) j (targets (step_at r k)).1 (λ x. none k l (inl (inr x))) h
      go false e (inl h) = ⊎_elim (λ m. absurd (none k l (inr (m, e)))) (λ m. omega arith) (cases_eq (k + 1) (length r))
      go false e (inr h) = absurd h

  -- what the numbers have granted
  kept : InOrder r (Ok tt) → Nowhere (SetTwice r) (length r) × Nowhere (UnfitOperand r) (length r) × Nowhere (Astray r) (length r) × Nowhere (UnsetOperand r) (length r)
  kept (inl (k, f, e)) = let no_such : ◌≡◌ {A = ℕ} 0 1 = cc in absurd (omega arith)
  kept (inr (t, inl (k, f, e))) = let no_such : ◌≡◌ {A = ℕ} 0 1 = cc in absurd (omega arith)
  kept (inr (t, inr (u, inl (k, f, e)))) = let no_such : ◌≡◌ {A = ℕ} 0 1 = cc in absurd (omega arith)
  kept (inr (t, inr (u, inr (s, inl (k, f, e))))) = let no_such : ◌≡◌ {A = ℕ} 0 1 = cc in absurd (omega arith)
  kept (inr (t, inr (u, inr (s, inr (l, e))))) = (t, u, s, l)

  pub sound : InOrder r (Ok tt) → Sound r
  sound o = record {
    once = one_setting (kept o).0;
    covered = λ k l u h.
        let f = found (λ w. w ≡ u) (Unfit r) (λ w. (k ≡ 0) ⊎ Unset r w.0 k) (uses (step_at r k)) h ((kept o).1 k l) ((kept o).3 k l) in
        covers (kept o).0 k u (subst (λ w. Unfit r w → ⊥) f.1 f.2) (subst (λ w. (k ≡ 0) ⊎ Unset r w.0 k → ⊥) f.1 f.3);
    inside = next-inside (kept o).2;
  }

  -- the same as a test of every number, with none past the last
  under_is : (o : Option ℕ) → ((j : ℕ) → IsSomeAnd o (λ i. i ≡ j) → j < length r) → under (length r) o ≡ true
  under_is None h = refl
  under_is (Some j) h = lt-ltb j (length r) (h j refl)

  pub all-inside : Sound r → (i : ℕ) → nexts_inside r i ≡ true
  all-inside s i = ⊎_elim
      (λ l. let a = under_is (nexts (step_at r i) i).0 (λ j h. s.inside i j l (inl h)) in
      let b = under_is (nexts (step_at r i) i).1 (λ j h. s.inside i j l (inr h)) in
      ap (λ x. x && under (length r) (nexts (step_at r i) i).1) a ∙ b)
      (λ l. ap (λ x. under (length r) (nexts x i).0 && under (length r) (nexts x i).1) (step_past r i l))
      (cases_lt i (length r))
