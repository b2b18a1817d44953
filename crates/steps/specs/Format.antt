-- The 16 bytes of a step: code, letter, value set, forms of A and B, four bytes each of A and B, two of each target, the low byte first.
-- A step has one encoding: a field that it does not use is fixed.
use Rattle.std.specs.Prelude.{◌≡◌, ℕ, ◌+◌, ◌*◌, ◌/◌, ◌%◌, ◌^◌, Bool, true, false, cond, ◌&&◌, List, [], ◌∷◌, Some, None, Option, ◌==◌, nat_lt}
use Rattle.store.specs.declared.tags.Kind.{Kind}
use Rattle.store.specs.declared.tags.Kind.TheVariants.{Unallocated, Uninitialized, Zero, Integral, Real, Pointer, Torn}
use Rattle.store.specs.declared.scalars.Scalar.{Scalar}
use Rattle.store.specs.Scalars.{scalar_of}
use Rattle.steps.specs.declared.step.Operand.{Operand}
use Rattle.steps.specs.declared.step.Operand.TheVariants.{Value, Literal}
use Rattle.steps.specs.declared.step.Takes.{Takes}
use Rattle.steps.specs.declared.step.Takes.TheVariants.{Exactly, OtherWord, OtherIntegral}
use Rattle.steps.specs.declared.step.Use.{Use}
use Rattle.steps.specs.declared.step.Step.{Step}
use Rattle.steps.specs.declared.step.Step.TheVariants.{Stop, Set, Copy, Compute, Compare, Load, Store, Offset, Retype, Resize, Jump, Branch}
use Rattle.steps.specs.declared.fields.Fields.{Fields}
use Rattle.steps.specs.Codes.{operation_code, comparison_code}
use Rattle.steps.specs.Types.{same_type, is_integral, is_word, pointer}
use Rattle.steps.specs.Tables.{operands, sets}

-- the letter of a type, by kind and size
abbrev pub letter_by : Kind → ℕ → ℕ
letter_by Integral n = cond (n == 1) 98 (cond (n == 2) 104 119)
letter_by Real n = 102
letter_by Pointer n = 112
letter_by Unallocated n = 0
letter_by Uninitialized n = 0
letter_by Zero n = 0
letter_by Torn n = 0

abbrev pub letter_of : Scalar → ℕ
letter_of t = letter_by t.kind t.size

abbrev pub row : ℕ → ℕ → ℕ → Option Operand → Option Operand → ℕ → ℕ → Fields
row c l v a b j k = record { code = c; letter = l; value = v; a = a; b = b; first = j; second = k }

-- code, letter, value set, operands and targets: no letter is 0, no value set is 255, and no target is 0
abbrev pub fields_of : Step → Fields
fields_of Stop = row 0 0 255 None None 0 0
fields_of (Set t v x) = row 1 (letter_of t) v (Some (Literal x)) None 0 0
fields_of (Copy t v u) = row 2 (letter_of t) v (Some (Value u)) None 0 0
fields_of (Compute p t v a b) = row (operation_code p) (letter_of t) v (Some a) (Some b) 0 0
fields_of (Compare p t v a b) = row (comparison_code p) (letter_of t) v (Some a) (Some b) 0 0
fields_of (Load t v a) = row 13 (letter_of t) v (Some a) None 0 0
fields_of (Store t a b) = row 14 (letter_of t) 255 (Some a) (Some b) 0 0
fields_of (Offset v a b) = row 15 (letter_of pointer) v (Some a) (Some b) 0 0
fields_of (Retype t v u) = row 16 (letter_of t) v (Some (Value u)) None 0 0
fields_of (Resize t v u) = row 17 (letter_of t) v (Some (Value u)) None 0 0
fields_of (Jump j) = row 18 0 255 None None j 0
fields_of (Branch a j k) = row 19 0 255 (Some a) None j k

-- the form of an operand: nothing, a value or a literal
abbrev pub form_of : Option Operand → ℕ
form_of None = 0
form_of (Some (Value v)) = 1
form_of (Some (Literal x)) = 2

-- the number in an operand's four bytes
abbrev pub bits_of : Option Operand → ℕ
bits_of None = 0
bits_of (Some (Value v)) = v
bits_of (Some (Literal x)) = x

-- The digits of a number to the base 256, low ones first. The last takes all that is left, so that no two numbers have the same.
abbrev pub two : ℕ → List ℕ → List ℕ
two x bs = (x % 256) ∷ (x / 256) ∷ bs

abbrev pub four : ℕ → List ℕ → List ℕ
four x bs = (x % 256) ∷ (x / 256 % 256) ∷ (x / 65536 % 256) ∷ (x / 16777216) ∷ bs

abbrev pub bytes_of : Fields → List ℕ
bytes_of w =
    w.code ∷ w.letter ∷ w.value ∷ (form_of w.a + 16 * form_of w.b)
    ∷ four (bits_of w.a) (four (bits_of w.b) (two w.first (two w.second [])))

unfoldable pub encoded : Step → List ℕ
encoded s = bytes_of (fields_of s)

abbrev pub is_type : Option Scalar → Scalar → Bool
is_type None t = false
is_type (Some u) t = same_type u t

-- a letter stands for the type
abbrev pub lettered : Scalar → Bool
lettered t = is_type (scalar_of (letter_of t)) t

-- the step's letter is one of its row
abbrev pub typed : Step → Bool
typed Stop = true
typed (Set t v x) = lettered t
typed (Copy t v u) = lettered t
typed (Compute p t v a b) = lettered t && is_integral t
typed (Compare p t v a b) = lettered t && is_integral t
typed (Load t v a) = lettered t
typed (Store t a b) = lettered t
typed (Offset v a b) = true
typed (Retype t v u) = lettered t && is_word t
typed (Resize t v u) = lettered t && is_integral t
typed (Jump j) = true
typed (Branch a j k) = true

-- the value set is one of the 128
abbrev pub numbered : Option (ℕ × Scalar) → Bool
numbered None = true
numbered (Some p) = nat_lt p.0 128

-- the type that decides how large a literal may be
abbrev pub type_of : Takes → Scalar
type_of (Exactly t) = t
type_of (OtherWord t) = t
type_of (OtherIntegral t) = t

-- a literal fits the type of its operand: it has no more bytes
abbrev pub fits : Operand → Takes → Bool
fits (Value v) t = true
fits (Literal x) t = nat_lt x (256 ^ (type_of t).size)

abbrev pub fitting : Option Use → Bool
fitting None = true
fitting (Some u) = fits u.operand u.takes

abbrev pub both_fitting : Option Use × Option Use → Bool
both_fitting p = fitting p.0 && fitting p.1

-- letter, value set and literals are ones that the step may have
unfoldable pub formed : Step → Bool
formed s = (typed s && numbered (sets s)) && both_fitting (operands s)

-- the bytes are those of the step, which is well formed
pub record Spells (bs : List ℕ) (s : Step) : Type 0 where
  pub right : formed s ≡ true
  pub bytes : encoded s ≡ bs

-- what is read from bytes: the step that they spell, or none where they spell no step
abbrev pub Reads : List ℕ → Option Step → Type 0
Reads bs (Some s) = Spells bs s
Reads bs None = (s : Step) → Spells bs s → ⊥

-- the answer of a reading, and no step but the one answered is spelled
pub record Decoded (bs : List ℕ) (r : Option Step) : Type 0 where
  pub answer : Reads bs r
  pub alone : (s : Step) → Spells bs s → r ≡ Some s
