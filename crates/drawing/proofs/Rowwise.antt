-- The cell of a row is the one that its field gives. Assumes nothing.
use Rattle.std.proofs.Common.{◌≡◌, ℕ, ◌-◌, ◌<◌, List, Some, None, Option, sym, refl, ap, ◌∙◌, subst, ⊎_elim, arith, MatchOption}
use Rattle.std.proofs.lemmas.Bool.{lt-ltb, cases_lt}
use Rattle.first.specs.First.{First, Nowhere}
use Rattle.store.specs.declared.tags.Cell.{Cell}
use Rattle.store.specs.Cells.{cell_of}
use Rattle.layout.specs.declared.field.Field.{Field}
use Rattle.layout.specs.declared.layout.Layout.{Layout}
use Rattle.layout.specs.Fields.{field_at, count_of, Owns}
use Rattle.layout.specs.Layouts.{Reads}
use Rattle.layout.specs.Placing.{Has}
use Rattle.layout.specs.Rules.{Shared}
use Rattle.drawing.specs.Drawn.{Shown, own, gap, field_in, HasIn, CellByField}

-- a field of the layout is one of the body
in_body : (b : List ℕ) (l : Layout) (k : ℕ) → Reads b l → k < l.count → field_in l k ≡ field_at b k
in_body b l k reads h = rw (lt-ltb k l.count h) (ap (λ x. field_at x k) reads.0)

module _ (b : List ℕ) (apart : Nowhere (Shared b) (count_of b)) where
  shared : (i j k : ℕ) (f g : Field) → j < k → k < count_of b → field_at b j ≡ Some f → field_at b k ≡ Some g → Owns f i → Owns g i → ⊥
  shared i j k f g h l e d p q = apart k l (rw d (j, h, rw e (i, p, q)))

  -- no two fields have one byte
  one_owner : (i j k : ℕ) (f g : Field) → j < count_of b → k < count_of b → field_at b j ≡ Some f → field_at b k ≡ Some g → Owns f i → Owns g i → j ≡ k
  one_owner i j k f g l m e d p q = ⊎_elim
      (λ h. absurd (shared i j k f g h m e d p q))
      (λ h. ⊎_elim (λ n. absurd (shared i k j g f n l d e q p)) (λ n. omega arith) (cases_lt k j))
      (cases_lt j k)

  -- the field that has the byte, and the one by which its cell is shown
  by_field : (i : ℕ) (c : Cell) (field : Option ℕ) → Shown b i c → First (λ k. Has b k i) (count_of b) field → CellByField b i field c
  by_field i _ None (own k f l e o) none = absurd (none k l (rw e o))
  by_field i _ None (gap n) none = refl
  by_field i _ (Some j) (gap n) first = absurd (n j first.below first.here)
  by_field i _ (Some j) (own k f l e o) first = go (field_at b j) refl first.here
    where
      go : (q : Option Field) → field_at b j ≡ q → MatchOption q ⊥ (λ g. Owns g i) → MatchOption q ⊥ (λ g. cell_of f.scalar.kind f.scalar.size (i - f.address) ≡ cell_of g.scalar.kind g.scalar.size (i - g.address))
      go None d h = absurd h
      go (Some g) d h =
          let same : j ≡ k = one_owner i j k g f first.below l d e h o in
          let field : Some f ≡ Some g = sym e ∙ ap (field_at b) (sym same) ∙ d in
          let equal : f ≡ g = cc in
          ap (λ x. cell_of x.scalar.kind x.scalar.size (i - x.address)) equal

-- what the layout has first, the body has first
pub first_in_body : (b : List ℕ) (l : Layout) (i : ℕ) (field : Option ℕ) → Reads b l → First (HasIn l i) l.count field → First (λ k. Has b k i) (count_of b) field
first_in_body b l i None reads none = λ k h has.
    let below : k < l.count = omega (arith, reads.1) in
    none k below (subst (λ o. MatchOption o ⊥ (λ f. Owns f i)) (sym (in_body b l k reads below)) has)
first_in_body b l i (Some j) reads first =
    record {
      below = omega (arith, reads.1, first.below);
      here = subst (λ o. MatchOption o ⊥ (λ f. Owns f i)) (in_body b l j reads first.below) first.here;
      before = λ k h has.
          let below : k < l.count = omega (arith, first.below) in
          first.before k h (subst (λ o. MatchOption o ⊥ (λ f. Owns f i)) (sym (in_body b l k reads below)) has);
    }

pub row-cell : (b : List ℕ) (l : Layout) (i : ℕ) (c : Cell) (field : Option ℕ) → Nowhere (Shared b) (count_of b) → Reads b l → Shown b i c → First (HasIn l i) l.count field → CellByField b i field c
row-cell b l i c field apart reads shown first = by_field b apart i c field shown (first_in_body b l i field reads first)
