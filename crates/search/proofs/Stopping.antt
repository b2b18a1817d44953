-- The paths of a graph whose stops, but for the start, have no slots are the paths with no stop between their ends. Assumes nothing.
use Rattle.std.proofs.Common.{◌≡◌, ℕ, Bool, true, false, cond, not, ◌&&◌, eqb, ◌⊎◌, List, Ok, Err, Option, Result, refl, ap, ◌∙◌, subst, inl, inr, ⊎_elim, arith}
use Rattle.std.proofs.lemmas.Bool.Decides.{nat_tests}
use Rattle.std.proofs.lemmas.Bool.{cases_eq, cases_Bool}
use Rattle.refusal.specs.Refusals.{Refusal}
use Rattle.search.specs.Paths.{Edge, Walk, step, onward, Between, Unstopped}
use Rattle.search.specs.Stops.{open_slots}
use Rattle.search.specs.Marks.{Reached, Searched}

-- a node keeps its slots if it is the start or no stop, and has none otherwise
kept : (b : Bool) (i from n : ℕ) → (i ≡ from) ⊎ (b ≡ false) → cond (b && not (eqb i from)) 0 n ≡ n
kept b i from n (inl e) = grind (arith, nat_tests)
kept b i from n (inr e) = grind (arith, nat_tests)

cut : (b : Bool) (i from n : ℕ) → b ≡ true → (i ≡ from → ⊥) → cond (b && not (eqb i from)) 0 n ≡ 0
cut b i from n e ne = grind (arith, nat_tests)

module _ (slots : ℕ → ℕ) (leads : ℕ → ℕ → Option ℕ) (stop : ℕ → Bool) (from : ℕ) where
  to_open : (i j : ℕ) → (i ≡ from) ⊎ (stop i ≡ false) → Edge slots leads i j → Edge (open_slots stop from slots) leads i j
  to_open i j may (k, h, l) = let same = kept (stop i) i from (slots i) may in (k, omega arith, l)

  of_open : (i j : ℕ) → Edge (open_slots stop from slots) leads i j → Edge slots leads i j × ((i ≡ from) ⊎ (stop i ≡ false))
  of_open i j (k, h, l) = let may = allowed in let same = kept (stop i) i from (slots i) may in ((k, omega arith, l), may)
    where
      allowed : (i ≡ from) ⊎ (stop i ≡ false)
      allowed =
          ⊎_elim (λ e. inl e)
          (λ ne. ⊎_elim (λ s. let none = cut (stop i) i from (slots i) s ne in let bad : ⊥ = omega arith in absurd bad) (λ c. inr c) (cases_Bool (stop i)))
          (cases_eq i from)

  pub to_walk : (t : ℕ) (p : Walk (Edge slots leads) from t) → ((x : ℕ) → Between p x → stop x ≡ false) → Walk (Edge (open_slots stop from slots) leads) from t
  to_walk t (step e) clear = step (to_open from t (inl refl) e)
  to_walk t (onward {j = j} p e) clear = onward (to_walk j p (λ x b. clear x (inl b))) (to_open j t (inr (clear j (inr refl))) e)

  -- a path that comes back to the start begins there anew
  pub of_walk : (t : ℕ) → Walk (Edge (open_slots stop from slots) leads) from t → Unstopped (Edge slots leads) stop from t
  of_walk t (step e) = (step (of_open from t e).0, λ x b. absurd b)
  of_walk t (onward {j = j} p e) = extend (of_walk j p) (of_open j t e)
    where
      extend : Unstopped (Edge slots leads) stop from j → Edge slots leads j t × ((j ≡ from) ⊎ (stop j ≡ false)) → Unstopped (Edge slots leads) stop from t
      extend u (d, inl s) = (step (subst (λ x. Edge slots leads x t) s d), λ x b. absurd b)
      extend u (d, inr c) = (onward u.0 d, λ x b. ⊎_elim (u.1 x) (λ s. ap stop s ∙ c) b)

  pub unstopped : {marks : List ℕ} → Reached (Walk (Edge (open_slots stop from slots) leads) from) marks → Reached (Unstopped (Edge slots leads) stop from) marks
  unstopped r =
      record {
        sound = λ i nz. of_walk i (r.sound i nz);
        whole = λ i u. r.whole i (to_walk i u.0 u.1);
        inside = λ i u. r.inside i (to_walk i u.0 u.1);
      }

  pub searched : (n : ℕ) (marks : List ℕ) (r : Result (Unit {0}) Refusal) → Searched (Walk (Edge (open_slots stop from slots) leads) from) n marks r → Searched (Unstopped (Edge slots leads) stop from) n marks r
  searched n marks (Ok _) s = (s.0, unstopped s.1)
  searched n marks (Err e) s = s
