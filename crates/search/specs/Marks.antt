-- What marks, one for each node, say of a search, and what a search needs. Assumes nothing.
use Rattle.std.specs.Prelude.{◌≡◌, ℕ, ◌<◌, ◌≤◌, Bool, not, List, ◌++◌, length, drop, Ok, Err, Decides, Result, MatchResult, ◌==◌, ◌≢◌, slice_index}
use Rattle.refusal.specs.declared.Rule.TheVariants.{Marks as MarksRule}
use Rattle.refusal.specs.Refusals.{Refusal}

-- Every mark is zero.
abbrev pub Clear : List ℕ → Type 0
Clear marks = (i : ℕ) → slice_index marks i ≡ 0

-- Node i is marked.
abbrev pub marked : List ℕ → ℕ → Bool
marked marks i = not (slice_index marks i == 0)

-- The marks of a search for the nodes to which a path leads: 1 at each of them, and 0 everywhere else.
pub record Reached (path : ℕ → Type 0) (marks : List ℕ) : Type 0 where
  -- where a mark is not 0, a path leads
  pub sound : (i : ℕ) → (slice_index marks i ≢ 0) → path i
  -- where a path leads, the mark is 1
  pub whole : (i : ℕ) → path i → slice_index marks i ≡ 1
  -- a path leads to a node only
  pub inside : (i : ℕ) → path i → i < 256

-- The refusal of n marks: fewer than the nodes, and no place to name.
abbrev pub Few : ℕ → Refusal → Type 0
Few n e = (n < 256) × (e ≡ (MarksRule, 0))

-- Whether n marks are enough.
abbrev pub Enough : ℕ → Result (Unit {0}) Refusal → Type 0
Enough n (Ok _) = 256 ≤ n
Enough n (Err e) = Few n e

-- A search over n marks. Refused, it leaves every mark zero.
abbrev pub Searched : (ℕ → Type 0) → ℕ → List ℕ → Result (Unit {0}) Refusal → Type 0
Searched path n marks (Ok _) = (256 ≤ n) × Reached path marks
Searched path n marks (Err e) = Few n e × Clear marks

-- A loan of the first 256 of the marks: it gives what the call gave, and they are as the call left them. Refused, all are as they were.
abbrev pub Lent : {R : Type 0} → (R → List ℕ → Type 0) → List ℕ → List ℕ → Result R Refusal → Type 0
Lent call old new r = MatchResult r
    (λ x. (256 ≤ length old) × ((left : List ℕ) × call x left × (new ≡ left ++ drop 256 old)))
    (λ e. Few (length old) e × (new ≡ old))

-- An answer that is found with enough marks, one of those that may be given. Refused, the marks are as they were.
abbrev pub Given : {A : Type 0} → (A → Type 0) → List ℕ → List ℕ → Result A Refusal → Type 0
Given gives old new (Ok x) = (256 ≤ length old) × gives x
Given gives old new (Err e) = Few (length old) e × (new ≡ old)

-- The answer to whether there is a path, found with n marks.
abbrev pub Answered : Type 0 → ℕ → Result Bool Refusal → Type 0
Answered path n (Ok b) = (256 ≤ n) × Decides b path
Answered path n (Err e) = Few n e
