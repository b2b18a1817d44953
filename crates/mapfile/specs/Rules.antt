-- Which files are read, and which answer the others get.
use Rattle.std.specs.Prelude.{◌≡◌, ℕ, ◌<◌, ◌≤◌, ◌⊎◌, List, ◌++◌, length, Ok, Err}
use Rattle.refusal.specs.declared.Rule.TheVariants.{MapFile}
use Rattle.refusal.specs.Refusals.{Answer}
use Rattle.first.specs.First.{Nowhere, Somewhere, FirstAt, IfBroken, Ruled, Granted}
use Rattle.mapfile.specs.Files.{entry_count, letter_at, offset_at, length_at, body_at, end_at, header_length, header, due_at, bodies}

-- the letters 'L', 'R' and 'C'
abbrev pub layout_letter : ℕ
layout_letter = 76

abbrev pub routine_letter : ℕ
routine_letter = 82

abbrev pub claims_letter : ℕ
claims_letter = 67

-- entry i stands under a letter
abbrev pub Under : List ℕ → ℕ → ℕ → Type 0
Under file letter i = letter_at file i ≡ letter

-- the file is too long, or its count is none of 1 to 16; an empty file's count is 0
abbrev pub Unreadable : List ℕ → Type 0
Unreadable file = (16384 < length file) ⊎ ((entry_count file ≡ 0) ⊎ (16 < entry_count file))

-- What makes an entry bad. It has none of the three letters:
abbrev pub Unknown : List ℕ → ℕ → Type 0
Unknown file i = (Under file layout_letter i → ⊥) × (Under file routine_letter i → ⊥) × (Under file claims_letter i → ⊥)

-- it is the second under a letter that may come once:
abbrev pub Second : List ℕ → ℕ → ℕ → Type 0
Second file letter i = Under file letter i × Somewhere (Under file letter) i

-- its body does not begin where the body before it ended:
abbrev pub Misplaced : List ℕ → ℕ → Type 0
Misplaced file i = offset_at file i ≡ due_at file i → ⊥

-- its body ends past the file's end.
abbrev pub Overrun : List ℕ → ℕ → Type 0
Overrun file i = length file < end_at file i

abbrev pub BadEntry : List ℕ → ℕ → Type 0
BadEntry file i = Unknown file i ⊎ (Second file routine_letter i ⊎ (Second file claims_letter i ⊎ (Misplaced file i ⊎ Overrun file i)))

-- no entry stands under a letter
abbrev pub Without : List ℕ → ℕ → Type 0
Without file letter = Nowhere (Under file letter) (entry_count file)

-- there is no routine, or bytes are left over after the last body
abbrev pub Incomplete : List ℕ → Type 0
Incomplete file = Without file routine_letter ⊎ (due_at file (entry_count file) < length file)

-- a file that breaks no rule
pub record Accepted (file : List ℕ) : Type 0 where
  pub readable : Unreadable file → ⊥
  pub entries : Nowhere (BadEntry file) (entry_count file)
  pub complete : Incomplete file → ⊥

-- The answers that the rules allow, by the first rule that is broken. Its place is an entry's number, or the count where no entry is to blame.
pub data Allowed (file : List ℕ) : Answer → Type 0 where
  unreadable : Unreadable file → Allowed file (Err (MapFile, entry_count file))
  bad_entry : (i : ℕ) → (Unreadable file → ⊥) → FirstAt (BadEntry file) (entry_count file) i → Allowed file (Err (MapFile, i))
  incomplete : (Unreadable file → ⊥) → Nowhere (BadEntry file) (entry_count file) → Incomplete file → Allowed file (Err (MapFile, entry_count file))
  accepted : Accepted file → Allowed file (Ok tt)

-- the same, rule after rule
abbrev pub InOrder : List ℕ → Answer → Type 0
InOrder file =
    IfBroken (Unreadable file) (Err (MapFile, entry_count file))
    (Ruled MapFile (BadEntry file) (entry_count file)
    (IfBroken (Incomplete file) (Err (MapFile, entry_count file)) Granted))

-- the file ends within its header
abbrev pub Cut : List ℕ → Type 0
Cut file = (Unreadable file → ⊥) × (length file < header_length file)

-- entry i stands under a letter, and no other entry does
pub record Sole (file : List ℕ) (letter i : ℕ) : Type 0 where
  pub inside : i < entry_count file
  pub under : Under file letter i
  pub alone : (j : ℕ) → j < entry_count file → Under file letter j → j ≡ i

-- byte p of the file lies in body i
abbrev pub Holds : List ℕ → ℕ → ℕ → Type 0
Holds file p i = (offset_at file i ≤ p) × (p < end_at file i)

-- What an accepted file is: its header and its bodies in order, each whole; one routine, claims at most once.
pub record Parted (file : List ℕ) : Type 0 where
  pub joined : header file ++ bodies file (entry_count file) ≡ file
  pub header_whole : length (header file) ≡ header_length file
  pub body_whole : (i : ℕ) → i < entry_count file → length (body_at file i) ≡ length_at file i
  -- each byte lies in the header or in a body, and in no two of them
  pub covered : (p : ℕ) → p < length file → (p < header_length file) ⊎ Somewhere (Holds file p) (entry_count file)
  pub behind : (p i : ℕ) → i < entry_count file → Holds file p i → header_length file ≤ p
  pub apart : (p i j : ℕ) → i < entry_count file → j < entry_count file → Holds file p i → Holds file p j → i ≡ j
  pub routine : (i : ℕ) × Sole file routine_letter i
  pub claims : (i : ℕ) → i < entry_count file → Under file claims_letter i → Sole file claims_letter i
