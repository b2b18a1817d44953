-- What each step has as operands, what it sets, and where it leads: one row a step.
use Rattle.std.specs.Prelude.{ℕ, ◌+◌, Bool, true, false, cond, Some, None, Option}
use Rattle.store.specs.declared.scalars.Scalar.{Scalar}
use Rattle.steps.specs.declared.step.Operand.{Operand}
use Rattle.steps.specs.declared.step.Operand.TheVariants.{Value, Literal}
use Rattle.steps.specs.declared.step.Takes.{Takes}
use Rattle.steps.specs.declared.step.Takes.TheVariants.{Exactly, OtherWord, OtherIntegral}
use Rattle.steps.specs.declared.step.Use.{Use}
use Rattle.steps.specs.declared.step.Step.{Step}
use Rattle.steps.specs.declared.step.Step.TheVariants.{Stop, Set, Copy, Compute, Compare, Load, Store, Offset, Retype, Resize, Jump, Branch}
use Rattle.steps.specs.Types.{byte, word, pointer}

-- an operand that is checked, and one that is not
abbrev pub checked : Operand → Takes → Option Use
checked o t = Some (record { operand = o; takes = t; checked = true })

abbrev pub plain : Operand → Takes → Option Use
plain o t = Some (record { operand = o; takes = t; checked = false })

-- operands A and B
abbrev pub operands : Step → Option Use × Option Use
operands Stop = (None, None)
operands (Set t v x) = (plain (Literal x) (Exactly t), None)
operands (Copy t v u) = (plain (Value u) (Exactly t), None)
operands (Compute p t v a b) = (checked a (Exactly t), checked b (Exactly t))
operands (Compare p t v a b) = (checked a (Exactly t), checked b (Exactly t))
operands (Load t v a) = (checked a (Exactly pointer), None)
operands (Store t a b) = (checked a (Exactly pointer), plain b (Exactly t))
operands (Offset v a b) = (checked a (Exactly pointer), checked b (Exactly word))
operands (Retype t v u) = (checked (Value u) (OtherWord t), None)
operands (Resize t v u) = (checked (Value u) (OtherIntegral t), None)
operands (Jump j) = (None, None)
operands (Branch a j k) = (checked a (Exactly byte), None)

-- the value that a step sets, and its type
abbrev pub sets : Step → Option (ℕ × Scalar)
sets Stop = None
sets (Set t v x) = Some (v, t)
sets (Copy t v u) = Some (v, t)
sets (Compute p t v a b) = Some (v, t)
sets (Compare p t v a b) = Some (v, byte)
sets (Load t v a) = Some (v, t)
sets (Store t a b) = None
sets (Offset v a b) = Some (v, pointer)
sets (Retype t v u) = Some (v, t)
sets (Resize t v u) = Some (v, t)
sets (Jump j) = None
sets (Branch a j k) = None

-- A setting is unsure if it is a load or a copy: the kind that it gives comes from memory or from another value. Every other is sure.
abbrev pub unsure : Step → Bool
unsure Stop = false
unsure (Set t v x) = false
unsure (Copy t v u) = true
unsure (Compute p t v a b) = false
unsure (Compare p t v a b) = false
unsure (Load t v a) = true
unsure (Store t a b) = false
unsure (Offset v a b) = false
unsure (Retype t v u) = false
unsure (Resize t v u) = false
unsure (Jump j) = false
unsure (Branch a j k) = false

-- the target steps
abbrev pub targets : Step → Option ℕ × Option ℕ
targets Stop = (None, None)
targets (Set t v x) = (None, None)
targets (Copy t v u) = (None, None)
targets (Compute p t v a b) = (None, None)
targets (Compare p t v a b) = (None, None)
targets (Load t v a) = (None, None)
targets (Store t a b) = (None, None)
targets (Offset v a b) = (None, None)
targets (Retype t v u) = (None, None)
targets (Resize t v u) = (None, None)
targets (Jump j) = (Some j, None)
targets (Branch a j k) = (Some j, Some k)

-- A terminator, as stop, jump and branch are, does not lead to the step below.
abbrev pub terminator : Step → Bool
terminator Stop = true
terminator (Set t v x) = false
terminator (Copy t v u) = false
terminator (Compute p t v a b) = false
terminator (Compare p t v a b) = false
terminator (Load t v a) = false
terminator (Store t a b) = false
terminator (Offset v a b) = false
terminator (Retype t v u) = false
terminator (Resize t v u) = false
terminator (Jump j) = true
terminator (Branch a j k) = true

-- the next steps of a step that stands at i: its targets, or the step below
abbrev pub nexts : Step → ℕ → Option ℕ × Option ℕ
nexts s i = cond (terminator s) (targets s) (Some (i + 1), None)

-- the value that an operand names
abbrev pub named : Operand → Option ℕ
named (Value v) = Some v
named (Literal x) = None

-- the value that stands as an operand, with what the operand takes
abbrev pub used_as : Operand → Takes → Option (ℕ × Takes)
used_as (Value v) t = Some (v, t)
used_as (Literal x) t = None

abbrev pub used_in : Option Use → Option (ℕ × Takes)
used_in None = None
used_in (Some u) = used_as u.operand u.takes

abbrev pub uses : Step → Option (ℕ × Takes) × Option (ℕ × Takes)
uses s = (used_in (operands s).0, used_in (operands s).1)

-- the value that is checked as an operand
abbrev pub checked_in : Option Use → Option ℕ
checked_in None = None
checked_in (Some u) = cond u.checked (named u.operand) None

abbrev pub checks : Step → Option ℕ × Option ℕ
checks s = (checked_in (operands s).0, checked_in (operands s).1)
