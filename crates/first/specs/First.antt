-- Numbered places, of which some may be bad: the first bad one, and rules that are tried one after another.
-- `bad j` says what makes place j bad; a rule over n places speaks of the places below n.
use Rattle.std.specs.Prelude.{◌≡◌, ℕ, ◌<◌, ◌⊎◌, Some, None, Ok, Err, Option, Result}

abbrev pub Nowhere : (ℕ → Type 0) → ℕ → Type 0
Nowhere bad n = (j : ℕ) → j < n → bad j → ⊥

abbrev pub Somewhere : (ℕ → Type 0) → ℕ → Type 0
Somewhere bad n = (j : ℕ) × (j < n) × bad j

-- place k, of n, is bad, and none before it
pub record FirstAt (bad : ℕ → Type 0) (n k : ℕ) : Type 0 where
  pub below : k < n
  pub here : bad k
  pub before : Nowhere bad k

-- the first bad place of n, if there is one
abbrev pub First : (ℕ → Type 0) → ℕ → Option ℕ → Type 0
First bad n (Some k) = FirstAt bad n k
First bad n None = Nowhere bad n

-- A rule is tried over all its places before the rest: bad first at k, and the answer is its refusal, or nowhere bad, and the rest decides.
abbrev pub Tried : {Answer : Type 0} → (ℕ → Type 0) → ℕ → (ℕ → Answer) → (Answer → Type 0) → Answer → Type 0
Tried bad n refused rest a = ((k : ℕ) × FirstAt bad n k × (a ≡ refused k)) ⊎ (Nowhere bad n × rest a)

-- A rule on the whole: broken, and the answer is its refusal, or kept, and the rest decides.
abbrev pub IfBroken : {Answer : Type 0} → Type 0 → Answer → (Answer → Type 0) → Answer → Type 0
IfBroken broken refused rest a = (broken × (a ≡ refused)) ⊎ ((broken → ⊥) × rest a)

-- no two answers are allowed
abbrev pub One : {Answer : Type 0} → (Answer → Type 0) → Type 0
One {Answer = Answer} allowed = (a b : Answer) → allowed a → allowed b → b ≡ a

-- the answer is allowed, and no other is
pub record Only {Answer : Type 0} (allowed : Answer → Type 0) (a : Answer) : Type 0 where
  pub allows : allowed a
  pub alone : (b : Answer) → allowed b → b ≡ a

-- granted, or refused by a rule at a place
abbrev pub Answer : Type 0 → Type 0
Answer Rule = Result (Unit {0}) (Rule × ℕ)

abbrev pub Granted : {Rule : Type 0} → Answer Rule → Type 0
Granted a = a ≡ Ok tt

-- a rule that refuses by its own name
abbrev pub Ruled : {Rule : Type 0} → Rule → (ℕ → Type 0) → ℕ → (Answer Rule → Type 0) → Answer Rule → Type 0
Ruled rule bad n = Tried bad n (λ k. Err (rule, k))

-- whether something was granted, and by what it was refused
abbrev pub answer_of : {Rule X : Type 0} → Result X (Rule × ℕ) → Answer Rule
answer_of (Ok x) = Ok tt
answer_of (Err e) = Err e
