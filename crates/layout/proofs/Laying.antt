-- What placing fields that share no byte leaves of each byte of memory. Assumes nothing.
use Rattle.std.proofs.Common.{◌≡◌, ℕ, zero, suc, ◌+◌, ◌-◌, ◌<◌, ◌≤◌, true, false, cond, List, IfSome, Some, None, Option, sym, refl, subst, ⊎_elim, arith, MatchOption}
use Rattle.std.proofs.lemmas.Bool.{cases_Bool, cases_eq, cases_lt}
use Rattle.std.proofs.lemmas.Bool.Decides.{nat_tests}
use Rattle.std.proofs.lemmas.Option.{MatchOption-at_some, MatchOption-at_none}
use Rattle.store.specs.declared.tags.Cell.{Cell}
use Rattle.store.specs.Cells.{Memory, cell_of, torn, single, among, touched, placed, Whole}
use Rattle.store.specs.Objects.{Among}
use Rattle.store.proofs.Numbers.{inside_of}
use Rattle.first.specs.First.{Nowhere, Somewhere}
use Rattle.layout.specs.declared.field.Field.{Field}
use Rattle.layout.specs.Fields.{field_at, count_of, Owns}
use Rattle.layout.specs.Rules.{Common, Shared}
use Rattle.layout.specs.Placing.{put_field, laid_cells, Inside, Has, Cuts, Left, own, cut, kept, Laid}
use Rattle.layout.proofs.Answering.{granted_keeps}
use Rattle.layout.proofs.Types.{field-typed, typed-some, put-placed}

nowhere_more : (P : ℕ → Type 0) (n : ℕ) → Nowhere P n → (P n → ⊥) → Nowhere P (suc n)
nowhere_more P n h here j l p = ⊎_elim (λ e. here (subst P e p)) (λ e. h j (omega arith) p) (cases_eq j n)

among_is : (a n i : ℕ) → among a n i ≡ true → Among a n i
among_is a n i h = (grind (arith, nat_tests), grind (arith, nat_tests))

is_among : (a n i : ℕ) → Among a n i → among a n i ≡ true
is_among a n i h = let l = h.0 in let g = h.1 in grind (arith, nat_tests)

not-among : (a n i : ℕ) → (Among a n i → ⊥) → among a n i ≡ false
not-among a n i h = ⊎_elim (λ t. absurd (h (among_is a n i t))) (λ f. f) (cases_Bool (among a n i))

-- An object is touched exactly if one of the bytes placed is its own: the later of the two starts.
touched-byte : (a n i p s : ℕ) → 0 < n → p < s → i < a + n + p → a + p < i + s → (j : ℕ) × Among a n j × (i ≤ j + p) × (j + p < i + s)
touched-byte a n i p s some inside h g =
    ⊎_elim
    (λ (l : a + p < i). (i - p, (omega arith, omega arith), omega arith, omega arith))
    (λ (l : i ≤ a + p). (a, (omega arith, omega arith), l, g))
    (cases_lt (a + p) i)

touched-some : (a n i : ℕ) (c : Cell) → 0 < n → c.position < c.size → touched a n i c ≡ true → (j : ℕ) × Among a n j × (i ≤ j + c.position) × (j + c.position < i + c.size)
touched-some a n i c some inside t = touched-byte a n i c.position c.size some inside (grind (arith, nat_tests)) (grind (arith, nat_tests))

byte-touched : (a n i : ℕ) (c : Cell) (j : ℕ) → Among a n j → i ≤ j + c.position → j + c.position < i + c.size → touched a n i c ≡ true
byte-touched a n i c j h l g = let x = h.0 in let y = h.1 in grind (arith, nat_tests)

torn_stays : (a n i : ℕ) → among a n i ≡ false → cond (touched a n i torn) torn torn ≡ torn
torn_stays a n i e = ⊎_elim (λ t. rw t refl) (λ t. rw t refl) (cases_Bool (touched a n i torn))

module _ (m : Memory) (w : Whole m) (b : List ℕ) (i : ℕ) where
  -- a field that is none changes nothing
  skipped : (n : ℕ) (c : Cell) → field_at b n ≡ None → Left m b n i c → Left m b (suc n) i c
  skipped n _ e (own k f l g o) = own k f (omega arith) g o
  skipped n _ e (cut h s) = cut (nowhere_more (λ k. Has b k i) n h (λ x. MatchOption-at_none ⊥ (λ f. Owns f i) e x)) (s.0, omega (arith, s.1), s.2)
  skipped n _ e (kept h s) =
      kept (nowhere_more (λ k. Has b k i) n h (λ x. MatchOption-at_none ⊥ (λ f. Owns f i) e x))
      (nowhere_more (Cuts m b i) n s (λ x. MatchOption-at_none ⊥ (λ f. Owns f x.0) e x.1))

  module _ (n : ℕ) (f : Field) (e : field_at b n ≡ Some f) where
    has : (j : ℕ) → Owns f j → Has b n j
    has j o = subst (λ x. MatchOption x ⊥ (λ g. Owns g j)) (sym e) o

    owned : (j : ℕ) → Has b n j → Owns f j
    owned j h = MatchOption-at_some ⊥ (λ g. Owns g j) f e h

    -- a field that does not have the byte
    beside : (c : Cell) → (Shared b n → ⊥) → (Owns f i → ⊥) → Left m b n i c → Left m b (suc n) i (cond (touched f.address f.scalar.size i c) torn c)
    beside _ apart out (own k g l d o) =
        let c : Cell = cell_of g.scalar.kind g.scalar.size (i - g.address) in
        let low = o.0 in
        let high = o.1 in
        ⊎_elim
        (λ (t : touched f.address f.scalar.size i c ≡ true).
        let s = touched-some f.address f.scalar.size i c (typed-some f.scalar (field-typed b n f e)) (omega arith) t in
        let x = s.2 in
        let y = s.3 in
        let common : Common g f = (s.0, (omega arith, omega arith), s.1) in
        absurd (apart (subst (λ x. MatchOption x ⊥ (λ f. Somewhere (λ j. MatchOption (field_at b j) ⊥ (λ e. Common e f)) n)) (sym e)
        (k, l, subst (λ x. MatchOption x ⊥ (λ e. Common e f)) (sym d) common))))
        (λ (t : touched f.address f.scalar.size i c ≡ false). rw t (own k g (omega arith) d o))
        (cases_Bool (touched f.address f.scalar.size i c))
    beside _ apart out (cut h s) =
        rw (torn_stays f.address f.scalar.size i (not-among f.address f.scalar.size i out))
        (cut (nowhere_more (λ k. Has b k i) n h (λ x. out (owned i x))) (s.0, omega (arith, s.1), s.2))
    beside _ apart out (kept h s) =
        let free = nowhere_more (λ k. Has b k i) n h (λ x. out (owned i x)) in
        ⊎_elim
        (λ (t : touched f.address f.scalar.size i (m i) ≡ true).
        let d = touched-some f.address f.scalar.size i (m i) (typed-some f.scalar (field-typed b n f e)) (inside_of (m i) (w.1 i)) t in
        rw t (cut free (n, omega arith, (d.0, has d.0 d.1, (d.2, d.3)))))
        (λ (t : touched f.address f.scalar.size i (m i) ≡ false).
        rw t (kept free (nowhere_more (Cuts m b i) n s (λ x.
        let u = byte-touched f.address f.scalar.size i (m i) x.0 (owned x.0 x.1) x.2.0 x.2.1 in
        let no_such : ◌≡◌ {A = ℕ} 0 1 = cc in omega arith))))
        (cases_Bool (touched f.address f.scalar.size i (m i)))

    placing : (o : Memory) → (Shared b n → ⊥) → Left m b n i (o i) → Left m b (suc n) i (placed o f.address f.scalar.kind f.scalar.size i)
    placing o apart h =
        let a = f.address in
        let s = f.scalar.size in
        ⊎_elim
        (λ (t : among a s i ≡ true).
        let one : single f.scalar.kind ≡ false = (field-typed b n f e).many in
        rw (t, one) (own n f (omega arith) e (among_is a s i t)))
        (λ (t : among a s i ≡ false).
        rw t (beside (o i) apart (λ x. let u = is_among a s i x in let no_such : ◌≡◌ {A = ℕ} 0 1 = cc in omega arith) h))
        (cases_Bool (among a s i))

  -- one field more
  further : (n : ℕ) (l : Memory) → (Shared b n → ⊥) → Left m b n i (l i) → (o : Option Field) → field_at b n ≡ o
      → IfSome o (λ f. f.address + f.scalar.size ≤ 4096) → Left m b (suc n) i (put_field l o i)
  further n l apart h None e within = skipped n (l i) e h
  further n l apart h (Some f) e within =
      subst (λ (o : Memory). Left m b (suc n) i (o i)) (sym (put-placed l f.address f.scalar (field-typed b n f e) within)) (placing n f e l apart h)

  laid : (n : ℕ) → Nowhere (Shared b) n → Inside b n → Left m b n i (laid_cells m b n i)
  laid zero apart inside = kept (λ j l x. absurd (omega arith)) (λ j l x. absurd (omega arith))
  laid (suc n) apart inside =
      further n (laid_cells m b n) (apart n (omega arith)) (laid n (λ j l x. apart j (omega arith) x) (λ k l. inside k (omega arith)))
      (field_at b n) refl (inside n (omega arith))

-- Placing the fields of a granted body leaves what the rules say.
pub body_laid : (m : Memory) → Whole m → (b : List ℕ) → Laid m b (laid_cells m b (count_of b))
body_laid m w b h inside i = laid m w b i (count_of b) (granted_keeps b _ h refl).2 inside
