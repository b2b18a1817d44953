-- A body has one answer that the rules allow, and one list of steps. Assumes nothing.
use Rattle.std.proofs.Common.{◌≡◌, ℕ, suc, ◌+◌, ◌*◌, ◌<◌, List, [], ◌∷◌, ◌++◌, length, take, drop, Err, sym, refl, ap, ◌∙◌, subst, inl, inr, arith, length-drop, take-append-drop}
use Rattle.std.proofs.lemmas.List.{same_lists, get_or_default, drop-drop}
use Rattle.refusal.specs.declared.Rule.TheVariants.{RoutineLength, StepForm}
use Rattle.refusal.specs.Refusals.{Answer, Refusal}
use Rattle.first.specs.First.{Nowhere, FirstAt, Only, Granted, Ruled}
use Rattle.first.proofs.Firsts.{first_one, only_like}
use Rattle.steps.specs.declared.step.Step.TheVariants.{Stop}
use Rattle.steps.specs.Format.{encoded}
use Rattle.steps.proofs.Spelling.{spelled_one}
use Rattle.routine.specs.Flow.{Steps, step_at}
use Rattle.routine.specs.Body.{count_of, Measured, part, Written, written}
use Rattle.routine.specs.Rules.{Malformed, Allowed, InOrder, wrong_length, malformed, set_twice, unfit, astray, unset, accepted}

-- THE STEPS OF A BODY

module _ (b : List ℕ) where
  pub written_one : (r q : Steps) → Written b r → Written b q → q ≡ r
  written_one r q w v =
      let sizes : length q ≡ length r = v.count ∙ sym w.count in
      same_lists q r sizes (λ k d l. let h : k < length r = omega arith in
      sym (get_or_default q k Stop d l) ∙ spelled_one (part b k) (step_at q k) (step_at r k) (v.each k l) (w.each k h) ∙ get_or_default r k Stop d h)

  pub none-malformed : (r : Steps) → Written b r → Nowhere (Malformed b) (count_of b)
  none-malformed r w k l h = let m : k < length r = omega (arith, w.count) in h (step_at r k) (w.each k m)

-- a body is its steps, written one after the other
parts_join : (r : Steps) (b : List ℕ) → length b ≡ 16 * length r → ((i : ℕ) → i < length r → encoded (step_at r i) ≡ part b i) → written r ≡ b
parts_join [] [] e h = refl
parts_join [] (x ∷ b) e h = let bad : ⊥ = omega arith in absurd bad
parts_join (s ∷ r) b e h =
    ap (λ x. x ++ written r) (h 0 (omega arith))
    ∙ ap (λ x. take 16 b ++ x) (parts_join r (drop 16 b) (omega (arith, length-drop 16 b)) later)
    ∙ take-append-drop 16 b
  where
    later : (i : ℕ) → i < length r → encoded (step_at r i) ≡ part (drop 16 b) i
    later i l =
        let at : 16 + 16 * i ≡ 16 * suc i = omega arith in
        h (suc i) (omega arith) ∙ ap (take 16) (sym (drop-drop (16 * i) 16 b ∙ ap (λ n. drop n b) at))

pub written_body : (b : List ℕ) (r : Steps) → Written b r → written r ≡ b
written_body b r w = parts_join r b (w.measured.2 ∙ ap (λ n. 16 * n) (sym w.count)) (λ i l. (w.each i l).bytes)

-- ANSWERS

module _ (b : List ℕ) where
  pub answer-length : (Measured b → ⊥) → Only (Allowed b) (Err (RoutineLength, 0))
  answer-length h = record { allows = wrong_length h; alone = alone }
    where
      alone : (a : Answer) → Allowed b a → a ≡ Err (RoutineLength, 0)
      alone _ (wrong_length _) = refl
      alone _ (malformed k m f) = absurd (h m)
      alone _ (set_twice r k w f) = absurd (h w.measured)
      alone _ (unfit r k w t f) = absurd (h w.measured)
      alone _ (astray r k w t u f) = absurd (h w.measured)
      alone _ (unset r k w t u s f) = absurd (h w.measured)
      alone _ (accepted r w t u s l) = absurd (h w.measured)

  pub answer_form : Measured b → (n : ℕ) → n ≡ count_of b → (e : Refusal) → Only (Ruled StepForm (Malformed b) n Granted) (Err e) → Only (Allowed b) (Err e)
  answer_form m n is e o = from o.allows
    where
      from : Ruled StepForm (Malformed b) n Granted (Err e) → Only (Allowed b) (Err e)
      from (inr (h, g)) = let no_such : ◌≡◌ {A = ℕ} 0 1 = cc in absurd (omega arith)
      from (inl (k, f, d)) = subst (Only (Allowed b)) (sym d) (record { allows = malformed k m first; alone = alone })
        where
          first : FirstAt (Malformed b) (count_of b) k
          first = subst (λ n. FirstAt (Malformed b) n k) is f

          formed : (r : Steps) → Written b r → ⊥
          formed r w = none-malformed b r w k first.below first.here

          alone : (a : Answer) → Allowed b a → a ≡ Err (StepForm, k)
          alone _ (wrong_length h) = absurd (h m)
          alone _ (malformed j _ g) = ap (λ i. Err (StepForm, i)) (first_one (Malformed b) (count_of b) j k g first)
          alone _ (set_twice r _ w _) = absurd (formed r w)
          alone _ (unfit r _ w _ _) = absurd (formed r w)
          alone _ (astray r _ w _ _ _) = absurd (formed r w)
          alone _ (unset r _ w _ _ _ _) = absurd (formed r w)
          alone _ (accepted r w _ _ _ _) = absurd (formed r w)

  module _ (r : Steps) (w : Written b r) where
    to : (a : Answer) → InOrder r a → Allowed b a
    to _ (inl (k, f, e)) = subst (Allowed b) (sym e) (set_twice r k w f)
    to _ (inr (t, inl (k, f, e))) = subst (Allowed b) (sym e) (unfit r k w t f)
    to _ (inr (t, inr (u, inl (k, f, e)))) = subst (Allowed b) (sym e) (astray r k w t u f)
    to _ (inr (t, inr (u, inr (s, inl (k, f, e))))) = subst (Allowed b) (sym e) (unset r k w t u s f)
    to _ (inr (t, inr (u, inr (s, inr (l, e))))) = subst (Allowed b) (sym e) (accepted r w t u s l)

    same : (q : Steps) (a : Answer) → Written b q → InOrder q a → InOrder r a
    same q a v o = subst (λ x. InOrder x a) (written_one b r q w v) o

    from : (a : Answer) → Allowed b a → InOrder r a
    from _ (wrong_length h) = absurd (h w.measured)
    from _ (malformed k m f) = absurd (none-malformed b r w k f.below f.here)
    from _ (set_twice q k v f) = same q _ v (inl (k, f, refl))
    from _ (unfit q k v t f) = same q _ v (inr (t, inl (k, f, refl)))
    from _ (astray q k v t u f) = same q _ v (inr (t, inr (u, inl (k, f, refl))))
    from _ (unset q k v t u s f) = same q _ v (inr (t, inr (u, inr (s, inl (k, f, refl)))))
    from _ (accepted q v t u s l) = same q _ v (inr (t, inr (u, inr (s, inr (l, refl)))))

    -- a body of well-formed steps has the answer of their rules, in their order
    pub answer_steps : (a : Answer) → Only (InOrder r) a → Only (Allowed b) a
    answer_steps a o = only_like to from a o
