use Rattle.std.proofs.Common.{◌≡◌, ℕ, Decides, refl, ap, ◌∙◌, subst, arith}
use Rattle.std.specs.Borrow.{Bor, MutBor}
use Rattle.search.specs.declared.NodeGuard.{NodeGuard}
use Rattle.std.specs.List.{range_with_len}
use Rattle.std.proofs.lemmas.Iterator.{YieldsList-from_range}
use Rattle.routine.specs.declared.routine.Routine.{Routine}
use Rattle.routine.specs.Claims.{Exposes}
use Rattle.routine.specs.Text.{steps_of}
use Rattle.routine.proofs.Sounding.{sets-inside}
use Rattle.routine.proofs.Asking.{AnyOf, any_kept, any_found, found_any}
use Rattle.routine.proofs.routine.Routine.is_exposed.Goals as goal

pub returns : goal.returns
returns c =
    let r = steps_of c.args.self.now in
    let v = c.args.value in
    let to = c.args.to in
    let n = c.len.result in
    let Kept : Bor Routine × Bor ℕ × Bor ℕ × MutBor NodeGuard → Type 0 = λ f. (f.0 ≡ c.args.self) × (f.1.now ≡ v) × (f.2.now ≡ to) in
    let d : Decides c.any.result (AnyOf (Exposes r v to) (range_with_len 0 n)) = any_kept _ _ _ _ Kept (Exposes r v to) c.any.ensures.ran (YieldsList-from_range 0 n n refl (omega arith)) (refl, refl, refl)
    (λ p x b q k h. (
      (h.met.0.0 ∙ k.0, ap (λ f. f.now) h.met.0.1 ∙ k.1, ap (λ f. f.now) h.met.0.2 ∙ k.2),
      subst (λ f. Decides b (Exposes (steps_of f.now) v to x)) k.0
          (subst (λ w. Decides b (Exposes (steps_of p.0.now) w to x)) k.1
          (subst (λ j. Decides b (Exposes (steps_of p.0.now) p.1.now j x)) k.2 h.met.1)),
    )) in
    (λ t. any_found _ 0 n (d.0 t), λ x. let l = sets-inside r v x.0 x.1.0.0 in d.1 (found_any _ 0 n x.0 (omega arith) (omega arith) x.1))
