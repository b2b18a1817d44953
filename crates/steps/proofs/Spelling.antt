-- A step read from its own bytes is that step. Assumes nothing.
use Rattle.std.proofs.Common.{◌≡◌, ℕ, ◌+◌, ◌*◌, ◌/◌, ◌%◌, ◌<◌, Bool, true, false, List, length, Some, None, Option, MatchOption, Decides, sym, refl, ap, ◌∙◌, subst, arith}
use Rattle.std.proofs.lemmas.Bool.Decides.{nat_tests}
use Rattle.std.proofs.lemmas.Bool.{and_parts}
use Rattle.std.specs.Bool.{then_some}
use Rattle.store.specs.declared.scalars.Scalar.{Scalar}
use Rattle.store.specs.Scalars.{scalar_of}
use Rattle.store.proofs.Numbers.{same_kind}
use Rattle.steps.specs.declared.step.Operand.{Operand}
use Rattle.steps.specs.declared.step.Operand.TheVariants.{Value, Literal}
use Rattle.steps.specs.declared.step.Operation.{Operation}
use Rattle.steps.specs.declared.step.Operation.TheVariants.{Add, Sub, Mul, Div, And, Or, Shl, Shr}
use Rattle.steps.specs.declared.step.Comparison.{Comparison}
use Rattle.steps.specs.declared.step.Comparison.TheVariants.{Equal, Less}
use Rattle.steps.specs.declared.step.Step.{Step}
use Rattle.steps.specs.declared.step.Step.TheVariants.{Stop, Set, Copy, Compute, Compare, Load, Store, Offset, Retype, Resize, Jump, Branch}
use Rattle.steps.specs.declared.fields.Fields.{Fields}
use Rattle.steps.specs.declared.code.Code.{Code}
use Rattle.steps.specs.declared.code.Code.TheVariants.{Compute as ComputeCode, Compare as CompareCode}
use Rattle.steps.specs.Codes.{operation_code, comparison_code, code_of}
use Rattle.steps.specs.Types.{same_type}
use Rattle.steps.specs.Format.{letter_of, row, fields_of, form_of, bits_of, bytes_of, encoded, is_type, lettered, typed, formed, Spells, Decoded}
use Rattle.steps.specs.Decoding.{◌>>=◌, by_code, operand_of, fields_at, step_of}

-- BYTES

two_back : (x : ℕ) → x % 256 + 256 * (x / 256) ≡ x
two_back x = omega arith

four-back : (x : ℕ) → x % 256 + 256 * (x / 256 % 256) + 65536 * (x / 65536 % 256) + 16777216 * (x / 16777216) ≡ x
four-back x = omega arith

form_small : (o : Option Operand) → form_of o < 16
form_small None = omega arith
form_small (Some (Value v)) = omega arith
form_small (Some (Literal x)) = omega arith

low_form : (o p : Option Operand) → (form_of o + 16 * form_of p) % 16 ≡ form_of o
low_form o p = omega (arith, form_small o)

high_form : (o p : Option Operand) → (form_of o + 16 * form_of p) / 16 ≡ form_of p
high_form o p = omega (arith, form_small o)

operand_back : (o : Option Operand) → operand_of (form_of o) (bits_of o) ≡ o
operand_back None = refl
operand_back (Some (Value v)) = refl
operand_back (Some (Literal x)) = refl

-- an operand from its form and its four bytes
field_back : (f x : ℕ) (o : Option Operand) → f ≡ form_of o → x ≡ bits_of o → operand_of f x ≡ o
field_back f x o e h = ap (λ g. operand_of g x) e ∙ ap (operand_of (form_of o)) h ∙ operand_back o

fields_back : (w : Fields) → fields_at (bytes_of w) ≡ w
unfolding fields_at
fields_back w = λ i.
    row w.code w.letter w.value
    (field_back _ _ w.a (low_form w.a w.b) (four-back (bits_of w.a)) i)
    (field_back _ _ w.b (high_form w.a w.b) (four-back (bits_of w.b)) i)
    (two_back w.first i) (two_back w.second i)

-- TYPES

same_is : (t u : Scalar) → same_type t u ≡ true → t ≡ u
same_is t u h = let kinds = same_kind t.kind u.kind (grind (arith, nat_tests)) in grind (arith, nat_tests)

letter_back : (t : Scalar) → lettered t ≡ true → scalar_of (letter_of t) ≡ Some t
letter_back t = go (scalar_of (letter_of t))
  where
    go : (o : Option Scalar) → is_type o t ≡ true → o ≡ Some t
    go None h = cc
    go (Some u) h = ap Some (same_is u t h)

-- STEPS

-- the rest of a step's fields, where the letter is that of t
by_letter : (t : Scalar) (f : Scalar → Option Step) (s : Step) → lettered t ≡ true → f t ≡ Some s → (scalar_of (letter_of t) >>= f) ≡ Some s
by_letter t f s h e = ap (λ o. o >>= f) (letter_back t h) ∙ e

operation_back : (p : Operation) → code_of (operation_code p) ≡ Some (ComputeCode p)
operation_back Add = refl
operation_back Sub = refl
operation_back Mul = refl
operation_back Div = refl
operation_back And = refl
operation_back Or = refl
operation_back Shl = refl
operation_back Shr = refl

comparison_back : (p : Comparison) → code_of (comparison_code p) ≡ Some (CompareCode p)
comparison_back Equal = refl
comparison_back Less = refl

-- what fields name, where their code's number is that of c
by_number : (w : Fields) (c : Code) (r : Option Step) → code_of w.code ≡ Some c → by_code w c ≡ r → step_of w ≡ r
by_number w c r e h = ap (λ o. o >>= by_code w) e ∙ h

compute_back : (p : Operation) (t : Scalar) (v : ℕ) (a b : Operand) → lettered t ≡ true → step_of (fields_of (Compute p t v a b)) ≡ Some (Compute p t v a b)
compute_back p t v a b h = by_number (fields_of (Compute p t v a b)) _ _ (operation_back p) (by_letter t _ _ h refl)

compare_back : (p : Comparison) (t : Scalar) (v : ℕ) (a b : Operand) → lettered t ≡ true → step_of (fields_of (Compare p t v a b)) ≡ Some (Compare p t v a b)
compare_back p t v a b h = by_number (fields_of (Compare p t v a b)) _ _ (comparison_back p) (by_letter t _ _ h refl)

step_back : (s : Step) → typed s ≡ true → step_of (fields_of s) ≡ Some s
step_back Stop h = refl
step_back (Set t v x) h = by_letter t _ _ h refl
step_back (Copy t v u) h = by_letter t _ _ h refl
step_back (Compute p t v a b) h = compute_back p t v a b (and_parts _ _ h).0
step_back (Compare p t v a b) h = compare_back p t v a b (and_parts _ _ h).0
step_back (Load t v a) h = by_letter t _ _ h refl
step_back (Store t a b) h = by_letter t _ _ h refl
step_back (Offset v a b) h = refl
step_back (Retype t v u) h = by_letter t _ _ (and_parts _ _ h).0 refl
step_back (Resize t v u) h = by_letter t _ _ (and_parts _ _ h).0 refl
step_back (Jump j) h = refl
step_back (Branch a j k) h = refl

formed-typed : (s : Step) → formed s ≡ true → typed s ≡ true
unfolding formed
formed-typed s h = (and_parts _ _ (and_parts _ _ h).0).0

-- the fields of what spells a step name that step
pub spelled_step : (bs : List ℕ) (s : Step) → Spells bs s → step_of (fields_at bs) ≡ Some s
unfolding encoded
spelled_step bs s h = ap (λ x. step_of (fields_at x)) (sym h.bytes) ∙ ap step_of (fields_back (fields_of s)) ∙ step_back s (formed-typed s h.right)

-- bytes spell one step at most
pub spelled_one : (bs : List ℕ) (s t : Step) → Spells bs s → Spells bs t → s ≡ t
spelled_one bs s t h d = let same : Some s ≡ Some t = sym (spelled_step bs s h) ∙ spelled_step bs t d in cc

pub spelled-length : (bs : List ℕ) (s : Step) → Spells bs s → length bs ≡ 16
unfolding encoded
spelled-length bs s h = ap length (sym h.bytes)

pub decoded-none : (bs : List ℕ) (r : Option Step) → r ≡ None → ((s : Step) → Spells bs s → ⊥) → Decoded bs r
decoded-none bs r is none = subst (Decoded bs) (sym is) (record { answer = none; alone = λ s d. absurd (none s d) })

-- the step that the fields of the bytes name, kept where the bytes spell it
pub decoded : (bs : List ℕ) (w : Fields) (o r : Option Step) (Says : Step → Bool → Type 0) → w ≡ fields_at bs → o ≡ step_of w
    → ((s : Step) (b : Bool) → Says s b → Decides b (Spells bs s))
    → MatchOption o (r ≡ None) (λ s. (b : Bool) × Says s b × (r ≡ then_some b s)) → Decoded bs r
decoded bs w o r Says e f decides = kept o (f ∙ ap step_of e)
  where
    kept : (o : Option Step) → o ≡ step_of (fields_at bs)
        → MatchOption o (r ≡ None) (λ s. (b : Bool) × Says s b × (r ≡ then_some b s)) → Decoded bs r
    kept None named is = decoded-none bs r is (λ s d. let no_such : None ≡ Some s = named ∙ spelled_step bs s d in cc)
    kept (Some t) named (true, q, is) =
        subst (Decoded bs) (sym is) (record { answer = (decides t true q).0 refl; alone = λ s h. named ∙ spelled_step bs s h })
    kept (Some t) named (false, q, is) =
        decoded-none bs r is (λ s h. let same : Some t ≡ Some s = named ∙ spelled_step bs s h in let fails : false ≡ true = (decides t false q).1 (subst (Spells bs) (let e : s ≡ t = cc in e) h) in cc)
