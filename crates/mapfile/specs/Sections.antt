-- What the reader answers and hands out.
use Rattle.std.specs.Prelude.{◌≡◌, ℕ, ◌<◌, ◌≤◌, true, ◌⊎◌, List, is_some, Some, None, Option}
use Rattle.first.specs.First.{FirstAt}
use Rattle.mapfile.specs.declared.map_file.MapFile.{MapFile}
use Rattle.mapfile.specs.declared.section.Section.{Section}
use Rattle.mapfile.specs.declared.section.Section.TheVariants.{Layout, Routine, Claims}
use Rattle.mapfile.specs.Files.{entry_count, letter_at, body_at}
use Rattle.mapfile.specs.Rules.{layout_letter, routine_letter, claims_letter, Under, Unknown, Accepted, Sole}

-- the bytes of a file that was read
abbrev pub file_of : MapFile → List ℕ
file_of m = m.file.now

abbrev pub letter_of : Section → ℕ
letter_of (Layout b) = layout_letter
letter_of (Routine b) = routine_letter
letter_of (Claims b) = claims_letter

abbrev pub body_of : Section → List ℕ
body_of (Layout b) = b.now
body_of (Routine b) = b.now
body_of (Claims b) = b.now

-- the bytes that entry i names, under its letter; none for a letter that is not known
abbrev pub Made : List ℕ → ℕ → Option Section → Type 0
Made file i (Some s) = (letter_of s ≡ letter_at file i) × (body_of s ≡ body_at file i)
Made file i None = Unknown file i

-- section i of a file, none past the last entry
abbrev pub SectionAt : List ℕ → ℕ → Option Section → Type 0
SectionAt file i o = ((i < entry_count file) × Made file i o) ⊎ ((entry_count file ≤ i) × (o ≡ None))

-- an accepted file has a section for each entry
abbrev pub There : List ℕ → ℕ → Option Section → Type 0
There file i o = Accepted file → i < entry_count file → is_some o ≡ true

-- a letter that may come once
abbrev pub Single : ℕ → Type 0
Single letter = (letter ≡ routine_letter) ⊎ (letter ≡ claims_letter)

-- the body of the first entry under a letter, which in an accepted file is the only one
abbrev pub TheBody : List ℕ → ℕ → List ℕ → Type 0
TheBody file letter part = (i : ℕ) × FirstAt (Under file letter) (entry_count file) i × (part ≡ body_at file i) × (Accepted file → Sole file letter i)
