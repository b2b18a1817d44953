-- What searches that halve find among areas in order, and what an edit at that place leaves. Assumes nothing.
use Rattle.std.proofs.Common.{◌≡◌, ℕ, zero, suc, ◌+◌, ◌<◌, ◌≤◌, Bool, true, false, ltb, List, [], ◌∷◌, length, get_or, MatchOption, Bor, Some, None, Option, Result, Ok, Err, sym, refl, ◌∙◌, subst, ⊎_elim, arith}
use Rattle.std.specs.List.{slice_get, insert, remove}
use Rattle.std.specs.List.Sorted.{IsSearchInRange, IsBinarySearchResult, IsNonDecreasingBy, IsPartitionedBy, IsPartitionPoint}
use Rattle.std.specs.Fn.{Called, ComputesKey}
use Rattle.std.proofs.lemmas.List.Sorted.{answers_always, IsPartitionPoint-from_clause, IsPartitionedBy-ltb}
use denote.Param.Members.{Mut}
use Rattle.std.specs.Ordering.{nat_cmp, ordering_index}
use Rattle.std.specs.Bool.{then_some}
use Rattle.std.specs.Result.{result_ok}
use Rattle.std.proofs.lemmas.Bool.{cases_Bool, ltb-true, ltb-false, eq-eqb}
use Rattle.std.proofs.lemmas.Bool.Decides.{nat_tests}
use Rattle.std.proofs.lemmas.Cmp.{ranked}
use Rattle.std.proofs.lemmas.Option.{slice_get-get_or, slice_get_within, get_or_from_slice_get}
use Rattle.areas.specs.declared.area.Area.{Area}
use Rattle.areas.specs.Area.{area_of, crosses, holds, begins, any}
use Rattle.areas.specs.Ordered.{above, ordered, inserted, without, index_of, Parted}
use Rattle.areas.proofs.Order.{in_order, nth_within}
use Rattle.areas.proofs.Places.{NonePasses, index_at, index_here, index_none, any_here, any_none}

-- the test passes no area that begins at the limit or above, and passes the last below it if it passes an earlier one
pub record LastTells (t : Area → Bool) (limit : ℕ) : Type 0 where
  pub below : (y : Area) → t y ≡ true → y.start < limit
  pub onward : (x y : Area) → x.start < limit → y.start + y.length ≤ x.start → t y ≡ true → t x ≡ true

pub holds_tells : (a n : ℕ) → LastTells (holds a n) (a + 1)
holds_tells a n = record { below = λ y t. grind (arith, nat_tests); onward = λ x y l h t. grind (arith, nat_tests) }

pub crosses_tells : (a n limit : ℕ) → limit ≡ a + n → LastTells (crosses a n) limit
crosses_tells a n limit e = record { below = λ y t. grind (arith, nat_tests); onward = λ x y l h t. grind (arith, nat_tests) }

module _ (xs : List Area) (o : ordered xs ≡ true) where
  -- an area ends where a later one begins, or below
  apart : (i j : ℕ) (x y : Area) → i < j → slice_get xs i ≡ Some x → slice_get xs j ≡ Some y → x.start + x.length ≤ y.start
  apart = in_order xs o

  starts_rise : IsNonDecreasingBy (λ (x : Area). x.start) xs
  starts_rise i j d l h =
      let x : slice_get xs i ≡ Some (get_or xs i d) = slice_get-get_or xs i d (omega arith) in
      let y : slice_get xs j ≡ Some (get_or xs j d) = slice_get-get_or xs j d h in
      grind (arith, apart i j (get_or xs i d) (get_or xs j d))

  -- the comparisons with a rise too
  ranks_rise : (a : ℕ) → IsNonDecreasingBy (λ (x : Area). ordering_index (nat_cmp x.start a)) xs
  ranks_rise a i j d l h = let s : (get_or xs i d).start ≤ (get_or xs j d).start = starts_rise i j d l h in grind (arith, nat_tests)

  module _ (t : Area → Bool) (limit : ℕ) (k : LastTells t limit) where
    none_below : Parted limit xs 0 → NonePasses t xs
    none_below p j y g = grind (arith, k.below y, p.high j y)

    -- where a search parts the areas behind area i, that one passes if any does
    module _ (i : ℕ) (x : Area) (p : Parted limit xs (i + 1)) (e : slice_get xs i ≡ Some x) where
      passes_on : (j : ℕ) (y : Area) → slice_get xs j ≡ Some y → t y ≡ true → t x ≡ true
      passes_on j y g u = grind (arith, k.below y u, p.high j y, p.low i x, apart j i y x, k.onward x y)

      none_else : t x ≡ false → NonePasses t xs
      none_else f j y g = grind (arith, passes_on j y g)

      any_last : any t xs ≡ t x
      any_last = ⊎_elim (λ (u : t x ≡ true). any_here t xs i x e u ∙ sym u) (λ (u : t x ≡ false). any_none t xs (none_else u) ∙ sym u) (cases_Bool (t x))

    -- what a question to the last area below the limit tells of all, where Q is what it answers
    pub tells : (r : Bool) (Q : ℕ → Type 0) (last : Option ℕ) → MatchOption last (r ≡ false) Q → MatchOption last (Parted limit xs 0) (λ i. Parted limit xs (i + 1))
        → ((i : ℕ) → i < length xs → Q i → r ≡ t (get_or xs i (area_of 0 0))) → r ≡ any t xs
    tells r Q None q p says = q ∙ sym (any_none t xs (none_below p))
    tells r Q (Some i) q p says =
        let h : i < length xs = omega (arith, p.within) in
        says i h q ∙ sym (any_last i _ p (slice_get-get_or xs i (area_of 0 0) h))

  -- no area has the byte at a if none begins there or below
  pub no_index : (a : ℕ) → Parted (a + 1) xs 0 → index_of (holds a 1) xs ≡ None
  no_index a p = index_none (holds a 1) xs (none_below (holds a 1) (a + 1) (holds_tells a 1) p)

  -- and otherwise only the last of those that do can have it
  pub last_index : (a i : ℕ) (x : Area) → Parted (a + 1) xs (i + 1) → slice_get xs i ≡ Some x → then_some (holds a 1 x) i ≡ index_of (holds a 1) xs
  last_index a i x p e =
      ⊎_elim
      (λ (u : holds a 1 x ≡ true). rw u (sym (index_here (holds a 1) xs i x e u (λ j y l g. let before = apart j i y x l g e in grind (arith, nat_tests)))))
      (λ (u : holds a 1 x ≡ false). rw u (sym (index_none (holds a 1) xs (none_else (holds a 1) (a + 1) (holds_tells a 1) i x p e u))))
      (cases_Bool (holds a 1 x))

  searched_by_start : (a : ℕ) (r : Result ℕ ℕ) → IsSearchInRange r (length xs) → IsBinarySearchResult (λ (x : Area). nat_cmp x.start a) xs r → result_ok r ≡ index_of (begins a) xs
  searched_by_start a (Ok i) h equal =
      let x = slice_get-get_or xs i (area_of 0 0) h in
      let s : (get_or xs i (area_of 0 0)).start ≡ a = ranked _ a _ (sym (equal (area_of 0 0))) in
      sym (index_here (begins a) xs i _ x (eq-eqb _ a s) (λ j y l g. grind (arith, nat_tests, apart j i y _ l g x, nth_within xs j y o g)))
  searched_by_start a (Err i) h parted =
      let split = parted (ranks_rise a) in
      sym (index_none (begins a) xs (λ j y e. grind (arith, nat_tests, split.0 j y, split.1 j y, get_or_from_slice_get xs j y y e, slice_get_within xs j y e)))

  -- what `binary_search_by_key` finds where each call gives an area's start
  pub searched : {F : Type 0} {g : Mut F (Bor Area × Unit {0}) ℕ} {f : F} (ys : List Area) → ys ≡ xs → (a : ℕ) (r : Result ℕ ℕ) → IsSearchInRange r (length ys)
      → ((key : Area → ℕ) → ComputesKey g key f → IsBinarySearchResult (λ x. nat_cmp (key x) a) ys r)
      → ((f : F) (x : Bor Area × Unit {0}) (k : ℕ) (f' : F) → Called g f x k f' → k ≡ x.0.now.start) → result_ok r ≡ index_of (begins a) xs
  searched {g = g} {f = f} ys e a r h position calls =
      let found : IsBinarySearchResult (λ (x : Area). nat_cmp x.start a) ys r = position (λ (x : Area). x.start) (answers_always g _ f calls) in
      searched_by_start a r (rw (← e) h) (rw (← e) found)

  parted_at : (limit n : ℕ) → n ≤ length xs → IsPartitionPoint (λ (y : Area). ltb y.start limit ≡ true) (λ (y : Area). ltb y.start limit ≡ false) xs n → Parted limit xs n
  parted_at limit n h p = record {
    within = h;
    low = λ i x l e.
        let s : get_or xs i x ≡ x = get_or_from_slice_get xs i x x e in
        ltb-true x.start limit (subst (λ (z : Area). ltb z.start limit ≡ true) s (p.0 i x (omega arith) l));
    high = λ i x l e.
        let s : get_or xs i x ≡ x = get_or_from_slice_get xs i x x e in
        ltb-false x.start limit (subst (λ (z : Area). ltb z.start limit ≡ false) s (p.1 i x l (slice_get_within xs i x e)));
  }

  -- what `partition_point` finds where each call tells whether an area begins below the limit
  pub parted : {F : Type 0} {g : Mut F (Bor Area × Unit {0}) Bool} {f : F} (ys : List Area) → ys ≡ xs → (limit n : ℕ) → n ≤ length ys
      → ((q : Area → Bool) → ComputesKey g q f → IsPartitionedBy q ys → IsPartitionPoint (λ y. q y ≡ true) (λ y. q y ≡ false) ys n)
      → ((x : Bor Area × Unit {0}) (b : Bool) (f' : F) → Called g f x b f' → (b ≡ ltb x.0.now.start limit) × (f' ≡ f)) → Parted limit xs n
  parted {g = g} {f = f} ys e limit n h partitioned calls =
      let rises : IsPartitionedBy (λ (x : Area). ltb x.start limit) ys = rw e (IsPartitionedBy-ltb (λ (x : Area). x.start) xs limit starts_rise) in
      let point = IsPartitionPoint-from_clause (λ (x : Area). ltb x.start limit) {g = g} {f = f} ys n partitioned rises calls in
      parted_at limit n (rw (← e) h) (rw (← e) point)

-- An edit at the place that a search gives.

parted_rest : (limit : ℕ) (x : Area) (xs : List Area) (n : ℕ) → Parted limit (x ∷ xs) (suc n) → Parted limit xs n
parted_rest limit x xs n p = record {
  within = omega (arith, p.within);
  low = λ i y l e. p.low (suc i) y (omega arith) e;
  high = λ i y l e. p.high (suc i) y (omega arith) e;
}

-- an area put behind those that begin where it does or below is at its place
pub insert_at : (a : Area) (xs : List Area) (n : ℕ) → Parted (a.start + 1) xs n → insert xs n a ≡ inserted a xs
insert_at a [] zero p = refl
insert_at a [] (suc n) p = refl
insert_at a (x ∷ xs) zero p = grind (arith, nat_tests, p.high 0 x (omega arith) refl)
insert_at a (x ∷ xs) (suc n) p = grind (arith, nat_tests, p.low 0 x (omega arith) refl, insert_at a xs n (parted_rest (a.start + 1) x xs n p))

-- above the start of an area, none begins there
none_taken : (a e : ℕ) (xs : List Area) → a < e → above e xs ≡ true → without a xs ≡ xs
none_taken a e [] l h = refl
none_taken a e (x ∷ xs) l h = grind (arith, nat_tests, none_taken a e xs)

removed_at : (a : ℕ) (xs : List Area) (n : ℕ) (x : Area) → ordered xs ≡ true → slice_get xs n ≡ Some x → begins a x ≡ true → remove xs n ≡ without a xs
removed_at a [] n x o e b = cc
removed_at a (y ∷ ys) zero x o e b = grind (arith, nat_tests, none_taken a (y.start + y.length) ys)
removed_at a (y ∷ ys) (suc n) x o e b = grind (arith, nat_tests, apart (y ∷ ys) o 0 (suc n) y x (omega arith) refl e, removed_at a ys n x)

-- of areas in order, taking out the one that begins at a leaves those that do not
pub remove_at : (a : ℕ) (xs : List Area) (i : ℕ) → ordered xs ≡ true → Some i ≡ index_of (begins a) xs → remove xs i ≡ without a xs
remove_at a xs i o e = let x = index_at (begins a) xs i e in removed_at a xs i x.0 o x.1 x.2
