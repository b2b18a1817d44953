-- Every memory that calls can make is tied. Assumes nothing.
use Rattle.std.proofs.Common.{◌≡◌, ℕ, zero, suc, ◌-◌, Bool, true, false, cond, not, List, Some, None, Ok, Err, Option, sym, refl, ap, ◌∙◌, subst, ⊎_elim, arith, MatchOption}
use Rattle.std.proofs.lemmas.Bool.{and_parts, and_from, cases_Bool, cond_both}
use Rattle.refusal.specs.Refusals.{Answer}
use Rattle.store.specs.declared.tags.Kind.{Kind}
use Rattle.store.specs.declared.tags.Kind.TheVariants.{Unallocated, Uninitialized}
use Rattle.store.specs.Cells.{Memory as Cells, kind_of, number_of, single, sized, sound, fresh, among, touched, torn, placed, put, refused}
use Rattle.store.proofs.Numbers.{single-size}
use Rattle.store.proofs.Placings.{granted as placing_granted, sound-placed}
use Rattle.first.specs.First.{Nowhere}
use Rattle.areas.specs.declared.area.Area.{Area}
use Rattle.areas.specs.Area.{begins, lawful}
use Rattle.areas.specs.Ordered.{found, ordered}
use Rattle.areas.specs.Calls.{open_answer, left}
use Rattle.areas.proofs.Order.{found_within, kept-ordered, opening-ordered}
use Rattle.layout.specs.declared.field.Field.{Field}
use Rattle.layout.specs.Fields.{count_of, field_at}
use Rattle.layout.specs.Placing.{laid_cells, put_field}
use Rattle.layout.proofs.Types.{field-typed}
use Rattle.memory.specs.Bytes.{written}
use Rattle.memory.specs.State.{State, state_of}
use Rattle.memory.specs.Rules.{accessible, after_write, is_access, opens, shut_found, shuts, writes}
use Rattle.memory.specs.Import.{Allowed, Unhoused, after_import, granted, laid_bytes, no_area, write_field, wrong_body}
use Rattle.memory.specs.Tied.{AlwaysTied, Reached, ShutAlone, Tied, UnchangedOutside, importing, made, opening, shutting, writing}
use Rattle.memory.proofs.Tying.{others_shut, tied_new, tied_opened, tied_put, tied_shut, tied_written}

pub state_is : (s t : State) → s.bytes ≡ t.bytes → s.cells ≡ t.cells → s.areas ≡ t.areas → s ≡ t
state_is s t p q r = λ i. state_of (p i) (q i) (r i)

-- a write
pub tied_writes : (s : State) (a n v : ℕ) (k : Kind) → accessible s.areas a n ≡ true → (k ≡ Unallocated → ⊥) → Tied s → Tied (writes s a n v k)
tied_writes s a n v k h u t =
    let home = (and_parts (is_access n) (lawful s.areas a n) h).1 in
    tied_put (state_of (written s.bytes a v n) s.cells s.areas) a k n u home (tied_written s a v n home t)

-- the fields of a record, each in one open area
typed-used : (k : Kind) → single k ≡ false → k ≡ Unallocated → ⊥
typed-used k h e = let no_such : ◌≡◌ {A = Bool} true false = ap single (sym e) ∙ h in let z : ◌≡◌ {A = ℕ} 0 1 = cc in omega arith

tied_field : (s : State) (b : List ℕ) (n : ℕ) (o : Option Field) → field_at b n ≡ o → (MatchOption o ⊥ (λ f. lawful s.areas f.address f.scalar.size ≡ false) → ⊥)
    → Tied s → Tied (state_of (write_field s.bytes o) (put_field s.cells o) s.areas)
tied_field s b n None e h t = t
tied_field s b n (Some f) e h t =
    let home : lawful s.areas f.address f.scalar.size ≡ true = ⊎_elim (λ y. y) (λ y. absurd (h y)) (cases_Bool (lawful s.areas f.address f.scalar.size)) in
    tied_put (state_of (written s.bytes f.address f.reset f.scalar.size) s.cells s.areas) f.address f.scalar.kind f.scalar.size
    (typed-used f.scalar.kind (field-typed b n f e).many) home (tied_written s f.address f.reset f.scalar.size home t)

pub tied_laid : (s : State) (b : List ℕ) (n : ℕ) → Nowhere (Unhoused s.areas b) n → Tied s → Tied (state_of (laid_bytes s.bytes b n) (laid_cells s.cells b n) s.areas)
tied_laid s b zero h t = t
tied_laid s b (suc n) h t =
    tied_field (state_of (laid_bytes s.bytes b n) (laid_cells s.cells b n) s.areas) b n (field_at b n) refl (h n (omega arith)) (tied_laid s b n (λ j l x. h j (omega arith) x) t)

abbrev Sound : Cells → Type 0
Sound m = (i : ℕ) → sound (m i) ≡ true

sound_range : (m : Cells) (a : ℕ) (k : Kind) (n : ℕ) → single k ≡ true → Sound m → Sound (placed m a k n)
sound_range m a k n s h i =
    cond_both (among a n i) (fresh k n (i - a)) (cond (touched a n i (m i)) torn (m i)) (λ c. sound c ≡ true)
    (λ _. rw s (and_from (sized k 1) true (single-size k 1 s) refl))
    (λ _. cond_both (touched a n i (m i)) torn (m i) (λ c. sound c ≡ true) (λ _. refl) (λ _. h i))

sound-put : (m : Cells) (a k n : ℕ) → Sound m → Sound (put m a k n)
sound-put m a k n h i =
    cond_both (refused a k n) m (placed m a (kind_of k) n) (λ o. sound (o i) ≡ true) (λ _. h i)
    (λ r. sound-placed m a (kind_of k) n i (placing_granted a k n r).2 (h i))

sound-field : (m : Cells) (o : Option Field) → Sound m → Sound (put_field m o)
sound-field m None h = h
sound-field m (Some f) h = sound-put m f.address (number_of f.scalar.kind) f.scalar.size h

sound-laid : (m : Cells) (b : List ℕ) (n : ℕ) → Sound m → Sound (laid_cells m b n)
sound-laid m b zero h = h
sound-laid m b (suc n) h = sound-field (laid_cells m b n) (field_at b n) (sound-laid m b n h)

-- what every call keeps
record Kept (s : State) : Type 0 where
  in_order : ordered s.areas ≡ true
  cells : Sound s.cells
  tied : Tied s

kept_open : (s : State) (a n : ℕ) → Kept s → (o : Answer) → o ≡ open_answer s.areas a n → Kept (left o (opens s a n) s)
kept_open s a n h (Ok tt) e = record {
  in_order = opening-ordered s.areas a n e h.in_order;
  cells = sound_range s.cells a Uninitialized n refl h.cells;
  tied = tied_opened s a n h.tied;
}
kept_open s a n h (Err x) e = h

pub found_start : (a : ℕ) (xs : List Area) (x : Area) → ordered xs ≡ true → Some x ≡ found a xs → Some x ≡ found x.start xs
found_start a xs x o e = e ∙ ap (λ (b : ℕ). found b xs) (sym (found_within a xs x o e).0)

pub shut_alone : (s : State) (a : ℕ) (x : Area) → ((i : ℕ) → sound (s.cells i) ≡ true) → ordered s.areas ≡ true → Some x ≡ found a s.areas → ShutAlone a s (shuts s x)
shut_alone s a x sd o g y e t =
    let same : x ≡ y = let k : Some x ≡ Some y = g ∙ e in cc in
    let alone = others_shut s x sd o (found_start a s.areas x o g) t in
    subst (λ (n : ℕ). UnchangedOutside a n s (shuts s x)) (ap (λ (z : Area). z.length) same)
    (subst (λ (b : ℕ). UnchangedOutside b x.length s (shuts s x)) (found_within a s.areas x o g).0 alone)

kept_shut : (s : State) (a : ℕ) → Kept s → (o : Option Area) → o ≡ found a s.areas → Kept (shut_found s o)
kept_shut s a h None e = h
kept_shut s a h (Some x) e = record {
  in_order = kept-ordered (λ y. not (begins x.start y)) s.areas h.in_order;
  cells = sound_range s.cells x.start Unallocated x.length refl h.cells;
  tied = tied_shut s x h.cells h.in_order (found_start a s.areas x h.in_order e) h.tied;
}

kept_import : (s : State) (b : List ℕ) (r : Answer) → Kept s → Allowed s.areas b r → Kept (after_import s b r)
kept_import s b _ h (wrong_body e g) = h
kept_import s b _ h (no_area k g f) = h
kept_import s b _ h (granted g f) = record {
  in_order = h.in_order;
  cells = sound-laid s.cells b (count_of b) h.cells;
  tied = tied_laid s b (count_of b) f h.tied;
}

kept_write : (s : State) (a n v : ℕ) (k : Kind) → (k ≡ Unallocated → ⊥) → Kept s → Kept (after_write s a n v k)
kept_write s a n v k u h =
    cond_both (accessible s.areas a n) (writes s a n v k) s Kept
    (λ e. record { in_order = h.in_order; cells = sound-put s.cells a (number_of k) n h.cells; tied = tied_writes s a n v k e u h.tied })
    (λ _. h)

kept : {s : State} → Reached s → Kept s
kept made = record { in_order = refl; cells = λ i. refl; tied = tied_new }
kept (opening {s = s} r a n) = kept_open s a n (kept r) (open_answer s.areas a n) refl
kept (shutting {s = s} r a) = kept_shut s a (kept r) (found a s.areas) refl
kept (importing {s = s} r b x h) = kept_import s b x (kept r) h
kept (writing {s = s} r a n v k u) = kept_write s a n v k u (kept r)

pub always_tied : AlwaysTied
always_tied s r = (kept r).tied
