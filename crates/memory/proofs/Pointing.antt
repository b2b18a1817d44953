-- An area leads to another exactly if one of its slots does. Assumes nothing.
use Rattle.std.proofs.Common.{◌≡◌, ℕ, zero, suc, ◌+◌, ◌-◌, ◌<◌, ◌≤◌, Bool, true, false, cond, ◌||◌, eqb, ltb, List, [], ◌∷◌, length, get_or, Some, None, Decides, Option, sym, refl, ap, ◌∙◌, subst, inl, inr, ⊎_elim, arith}
use Rattle.std.proofs.lemmas.Bool.Decides.{nat_tests}
use Rattle.std.proofs.lemmas.Option.{slice_get_past}
use Rattle.std.proofs.lemmas.Bool.{and_from, and_parts, cases_lt, eq-eqb, eqb-true, eqb-false, lt-ltb, not-true, or_cases, or_left, or_right}
use Rattle.std.specs.List.{slice_get}
use Rattle.std.specs.Option.{option_map}
use Rattle.store.specs.declared.tags.Kind.{Kind}
use Rattle.store.specs.declared.tags.Kind.TheVariants.{Pointer}
use Rattle.store.specs.declared.tags.Cell.{Cell}
use Rattle.store.specs.Cells.{Memory as Cells, Whole, cell_of, number_of, sized, sound}
use Rattle.store.specs.Objects.{Among, Object}
use Rattle.store.proofs.Numbers.{cell_is, same_kind, sized_of}
use Rattle.store.proofs.Objects.{agree, ends}
use Rattle.search.specs.Paths.{Edge, Walk, onward, step}
use Rattle.search.specs.Marks.{Reached, marked}
use Rattle.areas.specs.declared.area.Area.{Area}
use Rattle.areas.specs.Area.{begins, holds}
use Rattle.areas.specs.Ordered.{index_of, ordered}
use Rattle.areas.proofs.Order.{headed, in_order, nth_within}
use Rattle.areas.proofs.Places.{index_at}
use Rattle.memory.specs.Bytes.{value_at}
use Rattle.memory.specs.State.{State}
use Rattle.memory.specs.Links.{Leads, Reaches, Shows, aims, aims_from, bit, is_pointer, leads_of, size_of, slots_of}

-- the cell at which a pointer begins
pub pointer-cell : (c : Cell) → sound c ≡ true → is_pointer c ≡ true → c ≡ cell_of Pointer 4 0
pointer-cell c s h =
    let p = and_parts (eqb (number_of c.kind) 5) (eqb c.position 0) h in
    let k = eqb-true (number_of c.kind) 5 p.0 in
    let kind : c.kind ≡ Pointer = same_kind c.kind Pointer k in
    let size : c.size ≡ 4 = eqb-true c.size 4 (subst (λ (l : Kind). sized l c.size ≡ true) kind (sized_of c s)) in
    cell_is c Pointer 4 0 k size (eqb-true c.position 0 p.1)

module _ (m : Cells) (w : Whole m) (p : ℕ) (below : p < 4096) (h : is_pointer (m p) ≡ true) where
  here : m p ≡ cell_of Pointer 4 0
  here = pointer-cell (m p) (w.1 p) h

  pub pointer-within : p + 4 ≤ 4096
  pointer-within =
      let e = ends m w p below in
      let size : (m p).size ≡ 4 = ap (λ (c : Cell). c.size) here in
      let position : (m p).position ≡ 0 = ap (λ (c : Cell). c.position) here in
      omega arith

  pointer-object : Object m p Pointer 4
  pointer-object =
      let size : (m p).size ≡ 4 = ap (λ (c : Cell). c.size) here in
      let position : (m p).position ≡ 0 = ap (λ (c : Cell). c.position) here in
      record {
        size = refl;
        within = pointer-within;
        bytes = λ j l. agree m w p j (p + j) (omega arith) (omega arith) ∙ ap (λ (c : Cell). cell_of c.kind c.size j) here;
      }

object-pointer : (m : Cells) (p : ℕ) → Object m p Pointer 4 → is_pointer (m p) ≡ true
object-pointer m p o =
    let at : p ≡ p + 0 = omega arith in
    ap is_pointer (ap m at ∙ o.bytes 0 (omega arith))

-- one byte in an area
holds_is : (a : ℕ) (x : Area) → Among x.start x.length a → holds a 1 x ≡ true
holds_is a x h = let l = h.0 in let g = h.1 in grind (arith, nat_tests)

holds-among : (a : ℕ) (x : Area) → holds a 1 x ≡ true → Among x.start x.length a
holds-among a x h = (grind (arith, nat_tests), grind (arith, nat_tests))

holds_not : (a : ℕ) (x : Area) → x.start + x.length ≤ a → holds a 1 x ≡ false
holds_not a x h = grind (arith, nat_tests)

-- areas share no byte, so an address in one is in no earlier
address_index : (a : ℕ) (xs : List Area) (j : ℕ) (y : Area) → ordered xs ≡ true → slice_get xs j ≡ Some y → Among y.start y.length a → index_of (holds a 1) xs ≡ Some j
address_index a [] j y o e h = let no_such : ◌≡◌ {A = ℕ} 0 1 = cc in absurd (omega arith)
address_index a (x ∷ xs) zero y o e h =
    let same : x ≡ y = cc in
    rw (subst (λ (z : Area). holds a 1 z ≡ true) (sym same) (holds_is a y h)) refl
address_index a (x ∷ xs) (suc j) y o e h =
    let low = in_order (x ∷ xs) o 0 (suc j) x y (omega arith) refl e in
    rw (holds_not a x (omega (arith, h.0))) (ap (option_map suc) (address_index a xs j y (headed x xs o).rest e h))

chosen : (b : Bool) (o : Option ℕ) (j : ℕ) → cond b o None ≡ Some j → (b ≡ true) × (o ≡ Some j)
chosen true o j e = (refl, e)
chosen false o j e = let no_such : ◌≡◌ {A = ℕ} 0 1 = cc in absurd (omega arith)

nth_below : (xs : List Area) (j : ℕ) (y : Area) → slice_get xs j ≡ Some y → j < length xs
nth_below xs j y e =
    ⊎_elim (λ l. l) (λ (l : length xs ≤ j). let n = slice_get_past xs j l in let no_such : ◌≡◌ {A = ℕ} 0 1 = cc in absurd (omega arith)) (cases_lt j (length xs))

module _ (s : State) (w : Whole s.cells) (o : ordered s.areas ≡ true) where
  slot-leads : (i j : ℕ) (x : Option Area) → slice_get s.areas i ≡ x → (k : ℕ) → k < size_of x → aims_from s x k ≡ Some j → Leads s i j
  slot-leads i j None n k l e = absurd (omega arith)
  slot-leads i j (Some x) n k l e =
      let p : ℕ = x.start + k in
      let c = chosen (is_pointer (s.cells p)) (index_of (holds (value_at s.bytes p 4) 1) s.areas) j e in
      let y = index_at (holds (value_at s.bytes p 4) 1) s.areas j (sym c.1) in
      let inside = nth_within s.areas i x o n in
      let below : p < 4096 = omega (arith, inside.1) in
      record {
        source = x;
        goal = y.0;
        pointer = p;
        from = n;
        to = y.1;
        inside = (omega arith, omega arith);
        object = pointer-object s.cells w p below c.0;
        address = holds-among (value_at s.bytes p 4) y.0 y.2;
      }

  edge_leads : (i j : ℕ) → Edge (slots_of s) (leads_of s) i j → Leads s i j
  edge_leads i j e = slot-leads i j (slice_get s.areas i) refl e.0 e.1 e.2

  leads_edge : (i j : ℕ) → Leads s i j → Edge (slots_of s) (leads_of s) i j
  leads_edge i j l =
      let x = l.source in
      let p = l.pointer in
      let low = l.inside.0 in
      let high = l.inside.1 in
      let k : ℕ = p - x.start in
      let at : x.start + k ≡ p = omega arith in
      let aimed : aims s p ≡ Some j = rw (object-pointer s.cells p l.object) (address_index (value_at s.bytes p 4) s.areas j l.goal o l.to l.address) in (
        k,
        subst (λ (z : Option Area). k < size_of z) (sym l.from) (omega arith),
        ap (λ (z : Option Area). aims_from s z k) l.from ∙ ap (aims s) at ∙ aimed,
      )

  walk_like : {e f : ℕ → ℕ → Type 0} → ((i j : ℕ) → e i j → f i j) → {i j : ℕ} → Walk e i j → Walk f i j
  walk_like h (step {j = j} e) = step (h _ j e)
  walk_like h (onward {j = j} {k = k} p e) = onward (walk_like h p) (h j k e)

  walk_below : {i j : ℕ} → Walk (Leads s) i j → j < length s.areas
  walk_below (step {j = j} l) = nth_below s.areas j l.goal l.to
  walk_below (onward {k = k} p l) = nth_below s.areas k l.goal l.to

  -- the bits of the marks and of the start tell what is reached
  pub bits_reach : (a i n r : ℕ) (marks : List ℕ) → Some i ≡ index_of (begins a) s.areas → n ≡ length s.areas
      → Reached (Walk (Edge (slots_of s) (leads_of s)) i) marks → Shows (λ (j : ℕ). eqb j i || marked marks j) n r → (j : ℕ) → Decides (bit r j) (Reaches s i j)
  bits_reach a i n r marks first all h shows j = (sound, whole)
    where
      sound : bit r j ≡ true → Reaches s i j
      sound e =
          let p = and_parts (ltb j n) (eqb j i || marked marks j) (sym (shows j) ∙ e) in
          ⊎_elim (λ q. inl (eqb-true j i q))
          (λ q. inr (walk_like edge_leads (h.sound j (eqb-false (get_or marks j 0) 0 (not-true (eqb (get_or marks j 0) 0) q)))))
          (or_cases (eqb j i) (marked marks j) p.1)

      told : j < n → (eqb j i || marked marks j) ≡ true → bit r j ≡ true
      told l e = shows j ∙ and_from (ltb j n) (eqb j i || marked marks j) (lt-ltb j n l) e

      whole : Reaches s i j → bit r j ≡ true
      whole (inl e) =
          let x = index_at (begins a) s.areas i first in
          let l = nth_below s.areas i x.0 x.1 in
          told (omega arith) (or_left (eqb j i) (marked marks j) (eq-eqb j i e))
      whole (inr v) =
          let l = walk_below v in
          let one = h.whole j (walk_like leads_edge v) in
          told (omega arith) (or_right (eqb j i) (marked marks j) (rw one refl))
