-- Paths of next steps are the paths of the graph that the search follows. Assumes nothing.
use Rattle.std.proofs.Common.{◌≡◌, ℕ, ◌<◌, Bool, true, false, cond, eqb, ltb, length, IsSomeAnd, Some, None, Decides, Option, sym, refl, ap, ◌∙◌, subst, inl, inr, ⊎_elim, arith}
use borrow.Author.Tests.{clash}
use Rattle.std.proofs.lemmas.Bool.Decides.{Decides-like, Decides-eqb}
use Rattle.std.proofs.lemmas.Bool.{cases_Bool, ltb-true, lt-ltb}
use Rattle.store.specs.declared.scalars.Scalar.{Scalar}
use Rattle.search.specs.Paths.{Edge, Walk, step, onward, Between, Unstopped}
use Rattle.steps.specs.Tables.{sets, nexts}
use Rattle.routine.specs.Flow.{Steps, step_at, Either, Sets, Next}
use Rattle.routine.specs.Graph.{two_slots, slot, below, leads, is_set}
use Rattle.routine.specs.Rules.{Unset}

-- WALKS WHOSE EDGES MEAN THE SAME

module _ {left right : ℕ → ℕ → Type 0} (to : (i j : ℕ) → left i j → right i j) {i : ℕ} where
  walk_like : {j : ℕ} → Walk left i j → Walk right i j
  walk_like {j = j} (step e) = step (to i j e)
  walk_like {j = j} (onward {j = m} p e) = onward (walk_like p) (to m j e)

  between_like : {j : ℕ} (p : Walk left i j) (x : ℕ) → Between (walk_like p) x → Between p x
  unfolding walk_like
  between_like (step e) x b = b
  between_like (onward {j = m} p e) x (inl b) = inl (between_like p x b)
  between_like (onward {j = m} p e) x (inr b) = inr b

  pub unstopped_like : (stop : ℕ → Bool) {j : ℕ} → Unstopped left stop i j → Unstopped right stop i j
  unstopped_like stop u = (walk_like u.0, λ x b. u.1 x (between_like u.0 x b))

-- THE GRAPH OF NEXT STEPS

below-some : (n j : ℕ) (o : Option ℕ) → below n o ≡ Some j → (j < n) × IsSomeAnd o (λ k. k ≡ j)
below-some n j None e = let no_such : ◌≡◌ {A = ℕ} 0 1 = cc in absurd (omega arith)
below-some n j (Some k) e = go (ltb k n) refl e
  where
    go : (b : Bool) → ltb k n ≡ b → cond b (Some k) None ≡ Some j → (j < n) × (k ≡ j)
    go true t e = let same : k ≡ j = cc in let l = ltb-true k n t in (omega arith, same)
    go false t e = let no_such : ◌≡◌ {A = ℕ} 0 1 = cc in absurd (omega arith)

some_below : (n j : ℕ) (o : Option ℕ) → j < n → IsSomeAnd o (λ k. k ≡ j) → below n o ≡ Some j
some_below n j None l h = absurd h
some_below n j (Some k) l h = ap (λ b. cond b (Some k) None) (lt-ltb k n (omega arith)) ∙ ap Some h

of_slot : (Q : ℕ → Type 0) (p : Option ℕ × Option ℕ) (k : ℕ) → IsSomeAnd (slot p k) Q → Either Q p
of_slot Q p k h = go (eqb k 0) h
  where
    go : (b : Bool) → IsSomeAnd (cond b p.0 p.1) Q → Either Q p
    go true g = inl g
    go false g = inr g

module _ (r : Steps) where
  pub of_edge : (i j : ℕ) → Edge two_slots (leads r) i j → Next r i j
  of_edge i j (k, h, l) =
      let b = below-some (length r) j (slot (nexts (step_at r i) i) k) l in
      (b.0, of_slot (λ x. x ≡ j) (nexts (step_at r i) i) k b.1)

  pub to_edge : (i j : ℕ) → Next r i j → Edge two_slots (leads r) i j
  to_edge i j (l, inl h) = (0, omega arith, some_below (length r) j (nexts (step_at r i) i).0 l h)
  to_edge i j (l, inr h) = (1, omega arith, some_below (length r) j (nexts (step_at r i) i).1 l h)

  pub decides_next : (b : Bool) (stop : ℕ → Bool) (i j : ℕ) → Decides b (Unstopped (Edge two_slots (leads r)) stop i j) → Decides b (Unstopped (Next r) stop i j)
  decides_next b stop i j = Decides-like b (unstopped_like of_edge stop) (unstopped_like to_edge stop)

-- SETTINGS

pub decides_set : (v : ℕ) (o : Option (ℕ × Scalar)) → Decides (is_set v o) (IsSomeAnd o (λ s. s.0 ≡ v))
decides_set v None = (λ e. absurd (clash e), λ x. absurd x)
decides_set v (Some s) = Decides-eqb s.0 v

module _ (r : Steps) (v k : ℕ) where
  abbrev sets_it_lem : ℕ → Bool
  sets_it_lem i = is_set v (sets (step_at r i))

  sets-not : (i : ℕ) → sets_it_lem i ≡ false → Sets r v i → ⊥
  sets-not i e s = clash (sym e ∙ (decides_set v (sets (step_at r i))).1 s)

  not-sets : (i : ℕ) → (Sets r v i → ⊥) → sets_it_lem i ≡ false
  not-sets i h = ⊎_elim (λ t. absurd (h ((decides_set v (sets (step_at r i))).0 t))) (λ f. f) (cases_Bool (sets_it_lem i))

  -- where step 0 does not set the value, the setting is before the end of a path from 0 exactly if it is between
  pub of_unstopped : sets_it_lem 0 ≡ false → Unstopped (Next r) sets_it_lem 0 k → Unset r v k
  of_unstopped z u = (u.0, λ s t b. ⊎_elim (λ e. sets-not 0 z (subst (Sets r v) e t)) (λ e. sets-not s (u.1 s e) t) b)

  pub to_unstopped : Unset r v k → Unstopped (Next r) sets_it_lem 0 k
  to_unstopped u = (u.0, λ x b. not-sets x (λ t. u.1 x t (inr b)))
