-- One verdict is right. Assumes nothing.
use Rattle.std.proofs.Common.{◌≡◌, ℕ, ◌≤◌, Bool, true, false, cond, eqb, length, Some, None, Decides, Option, refl, ap, ◌∙◌, subst, arith}
use Rattle.first.specs.First.{Only, One}
use Rattle.first.proofs.Firsts.{only}
use Rattle.routine.specs.declared.verdict.Verdict.{Verdict}
use Rattle.steps.specs.Tables.{checks}
use Rattle.routine.specs.Flow.{Steps}
use Rattle.routine.proofs.Texts.{step_past}
use Rattle.routine.specs.Claims.{checked_in, checked_at, Bare, Judged, left_out, no_check, bare_path}

pub decides_given : {P Q : Type 0} (b : Bool) → P → Decides b Q → Decides b (P × Q)
decides_given b p d = (λ t. (p, d.0 t), λ x. d.1 x.1)

-- a value that is checked is one, and not none
same_value : (o : Option ℕ) (v w : ℕ) → o ≡ Some v → o ≡ Some w → w ≡ v
same_value o v w e d = cc

not_none : (o : Option ℕ) (v : ℕ) → o ≡ Some v → o ≡ None → ⊥
not_none o v e d = let no_such : ◌≡◌ {A = ℕ} 0 1 = cc in omega arith

module _ (r : Steps) (j o : ℕ) where
  pub judged_one : One (Judged r j o)
  judged_one _ _ (left_out v e h) (left_out w d g) = refl
  judged_one _ _ (left_out v e h) (no_check d) = absurd (not_none _ v e d)
  judged_one _ _ (left_out v e h) (bare_path w d b) = absurd (h (subst (Bare r j o) (same_value _ v w e d) b))
  judged_one _ _ (no_check e) (left_out w d g) = absurd (not_none _ w d e)
  judged_one _ _ (no_check e) (no_check d) = refl
  judged_one _ _ (no_check e) (bare_path w d b) = absurd (not_none _ w d e)
  judged_one _ _ (bare_path v e b) (left_out w d g) = absurd (g (subst (Bare r j o) (same_value _ w v d e) b))
  judged_one _ _ (bare_path v e b) (no_check d) = absurd (not_none _ v e d)
  judged_one _ _ (bare_path v e b) (bare_path w d c) = refl

  pub judged_only : (v : Verdict) → Judged r j o v → Only (Judged r j o) v
  judged_only v h = only judged_one v h

-- past the routine there is no check
none_in : (o : ℕ) → checked_in (None, None) o ≡ None
none_in o = cond_both (eqb o 0) (cond_both (eqb o 1) refl)
  where
    cond_both : (b : Bool) {x : Option ℕ} → x ≡ None → cond b None x ≡ None
    cond_both true e = refl
    cond_both false e = e

pub past_none : (r : Steps) (j o : ℕ) → length r ≤ j → checked_at r j o ≡ None
past_none r j o l = ap (λ s. checked_in (checks s) o) (step_past r j l) ∙ none_in o
