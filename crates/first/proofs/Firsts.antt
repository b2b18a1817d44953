-- The first bad place is one, and rules tried in order have one answer.
-- Decisions of `not`, `&&`, `||`, `<`, `≡` and of what means the same (`Decides-like`) are in `Rattle.std.proofs.lemmas.Bool.Decides`.
use Rattle.std.proofs.Common.{◌≡◌, ℕ, zero, suc, ◌⊎◌, Ok, Err, Result, IfOk, sym, ap, ◌∙◌, subst, inl, inr, ⊎_elim, arith}
use Rattle.std.proofs.lemmas.Bool.{cases_eq, cases_lt}
use Rattle.first.specs.First.{Nowhere, Somewhere, FirstAt, Tried, IfBroken, One, Only, Answer, Granted, Ruled, answer_of}

-- two first places are one
pub first_one : (bad : ℕ → Type 0) (n j k : ℕ) → FirstAt bad n j → FirstAt bad n k → j ≡ k
first_one bad n j k f g =
    ⊎_elim (λ l. absurd (g.before j l f.here))
    (λ l. ⊎_elim (λ m. absurd (f.before k m g.here)) (λ m. omega arith) (cases_lt k j))
    (cases_lt j k)

-- rules tried in order have one answer, if the rest has
pub tried_one : {Answer : Type 0} (bad : ℕ → Type 0) (n : ℕ) (refused : ℕ → Answer) (rest : Answer → Type 0) → One rest → One (Tried bad n refused rest)
tried_one bad n refused rest one a b (inl (j, f, e)) (inl (k, g, d)) = d ∙ ap refused (first_one bad n k j g f) ∙ sym e
tried_one bad n refused rest one a b (inl (j, f, e)) (inr (h, q)) = absurd (h j f.below f.here)
tried_one bad n refused rest one a b (inr (h, q)) (inl (k, g, d)) = absurd (h k g.below g.here)
tried_one bad n refused rest one a b (inr (h, q)) (inr (i, s)) = one a b q s

pub if_broken_one : {Answer : Type 0} (broken : Type 0) (refused : Answer) (rest : Answer → Type 0) → One rest → One (IfBroken broken refused rest)
if_broken_one broken refused rest one a b (inl (x, e)) (inl (y, d)) = d ∙ sym e
if_broken_one broken refused rest one a b (inl (x, e)) (inr (h, q)) = absurd (h x)
if_broken_one broken refused rest one a b (inr (h, q)) (inl (y, d)) = absurd (h y)
if_broken_one broken refused rest one a b (inr (h, q)) (inr (i, s)) = one a b q s

-- where the rest is one answer, it is one
pub exactly_one : {Answer : Type 0} (right : Answer) → One (λ a. a ≡ right)
exactly_one right a b p q = q ∙ sym p

pub only : {Answer : Type 0} {allowed : Answer → Type 0} → One allowed → (a : Answer) → allowed a → Only allowed a
only one a h = record { allows = h; alone = λ b i. one a b h i }

-- an answer allowed under one description is the only one under another that allows the same
pub only_like : {Answer : Type 0} {left right : Answer → Type 0} → ((a : Answer) → left a → right a) → ((a : Answer) → right a → left a) → (a : Answer) → Only left a → Only right a
only_like to from a h = record { allows = to a h.allows; alone = λ b i. h.alone b (from b i) }

-- what refuses gives the answer that refuses, and grants nothing
pub refused_so : {Rule X : Type 0} {allowed : Answer Rule → Type 0} (r : Result X (Rule × ℕ)) (e : Rule × ℕ) → r ≡ Err e → Only allowed (Err e) → Only allowed (answer_of r)
refused_so {allowed = allowed} r e is h = subst (λ x. Only allowed (answer_of x)) (sym is) h

pub grants_nothing : {Rule X : Type 0} (P : X → Type 0) (r : Result X (Rule × ℕ)) (e : Rule × ℕ) → r ≡ Err e → IfOk r P
grants_nothing P r e is = subst (λ x. IfOk x P) (sym is) tt

-- where a rule grants, no place is bad
pub granted_nowhere : {Rule : Type 0} (rule : Rule) (bad : ℕ → Type 0) (n : ℕ) → Ruled rule bad n Granted (Ok tt) → Nowhere bad n
granted_nowhere rule bad n (inl (k, f, e)) = let no_such : ◌≡◌ {A = ℕ} 0 1 = cc in absurd (omega arith)
granted_nowhere rule bad n (inr (h, g)) = h

-- where each place can be told good or bad, some place is bad, or none
pub somewhere_or : (bad : ℕ → Type 0) → ((j : ℕ) → bad j ⊎ (bad j → ⊥)) → (n : ℕ) → Somewhere bad n ⊎ Nowhere bad n
somewhere_or bad tell zero = inr (λ j l b. absurd (omega arith))
somewhere_or bad tell (suc n) = ⊎_elim
    (λ s. inl (s.0, omega (arith, s.1), s.2))
    (λ h. ⊎_elim (λ b. inl (n, omega arith, b)) (λ b. inr (λ j l x. ⊎_elim (λ e. b (subst bad e x)) (λ e. h j (omega arith) x) (cases_eq j n))) (tell n))
    (somewhere_or bad tell n)
