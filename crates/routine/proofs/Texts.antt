-- The steps of a text, by number. Assumes nothing.
use Rattle.std.proofs.Common.{◌≡◌, ℕ, ◌+◌, ◌-◌, ◌*◌, ◌<◌, ◌≤◌, min, List, length, get_or, drop, sym, ap, ◌∙◌, subst, arith, length-drop, length-take}
use Rattle.std.proofs.lemmas.List.{length-take-le, get_or-take, get_or_past}
use Rattle.steps.specs.declared.step.Step.{Step}
use Rattle.steps.specs.declared.step.Step.TheVariants.{Stop}
use Rattle.steps.specs.Format.{Spells}
use Rattle.steps.proofs.Spelling.{spelled-length}
use Rattle.routine.specs.declared.text.Text.{Text}
use Rattle.routine.specs.Flow.{step_at}
use Rattle.routine.specs.Body.{count_of, Measured, part, Written}
use Rattle.routine.specs.Text.{text_of}

pub text_length : (t : Text) → length (text_of t) ≡ t.count
unfolding text_of
text_length t = length-take-le t.count t.steps (omega (arith, t.few, t.long))

pub text_step : (t : Text) (i : ℕ) → i < t.count → step_at (text_of t) i ≡ get_or t.steps i Stop
unfolding text_of
text_step t i l = get_or-take t.count t.steps i Stop l

pub step_past : (r : List Step) (i : ℕ) → length r ≤ i → step_at r i ≡ Stop
step_past r i l = get_or_past r i Stop l

-- a part that the body does not have whole is that of no step
pub part_short : (b : List ℕ) (i : ℕ) → length b < 16 * i + 16 → (s : Step) → Spells (part b i) s → ⊥
part_short b i l s h =
    let whole = spelled-length (part b i) s h in
    let is : length (part b i) ≡ min 16 (length b - 16 * i) = length-take 16 (drop (16 * i) b) ∙ ap (min 16) (length-drop (16 * i) b) in
    omega arith

-- a text whose steps are those of the body, one by one
pub text_written : (t : Text) (b : List ℕ) → Measured b → t.count ≡ count_of b → ((k : ℕ) → k < t.count → Spells (part b k) (get_or t.steps k Stop)) → Written b (text_of t)
text_written t b m e each =
    let size = text_length t in
    record {
      measured = m;
      count = size ∙ e;
      each = λ k l. let h : k < t.count = omega arith in subst (Spells (part b k)) (sym (text_step t k h)) (each k h);
    }
