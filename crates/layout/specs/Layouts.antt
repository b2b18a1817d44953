-- Layouts and their bodies.
use Rattle.std.specs.Prelude.{◌≡◌, ℕ, List}
use Rattle.layout.specs.declared.layout.Layout.{Layout}
use Rattle.layout.specs.Fields.{count_of}

-- the layout of the body b
abbrev pub Reads : List ℕ → Layout → Type 0
Reads b l = (l.body.now ≡ b) × (l.count ≡ count_of b)
