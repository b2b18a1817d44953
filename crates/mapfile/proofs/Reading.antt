-- The rules allow one answer, and a file that they accept is its header and its bodies.
use Rattle.std.proofs.Common.{◌≡◌, ℕ, zero, suc, ◌+◌, ◌-◌, ◌<◌, ◌≤◌, ◌⊎◌, List, ◌++◌, length, take, Ok, Err, sym, refl, ap, ◌∙◌, subst, inl, inr, ⊎_elim, arith, take-add}
use Rattle.std.proofs.lemmas.List.{append_assoc, append-nil, take_all, length-take, length-drop}
use Rattle.std.proofs.lemmas.Bool.{cases_eq, cases_lt}
use Rattle.refusal.specs.declared.Rule.TheVariants.{MapFile}
use Rattle.refusal.specs.Refusals.{Answer}
use Rattle.first.specs.First.{Somewhere, FirstAt, One, Only}
use Rattle.first.proofs.Firsts.{tried_one, if_broken_one, exactly_one, only, only_like, somewhere_or}
use Rattle.mapfile.specs.Files.{entry_count, letter_at, offset_at, length_at, body_at, end_at, header_length, header, due_at, bodies}
use Rattle.mapfile.specs.Sections.{Single, TheBody}
use Rattle.mapfile.specs.Rules.{routine_letter, claims_letter, Under, Unreadable, Second, BadEntry, Accepted, Allowed, InOrder, unreadable, bad_entry, incomplete, accepted, Cut, Sole, Holds, Parted}

module _ (file : List ℕ) where
  abbrev n : ℕ
  n = entry_count file

  in_order : (a : Answer) → Allowed file a → InOrder file a
  in_order _ (unreadable u) = inl (u, refl)
  in_order _ (bad_entry i u f) = inr (u, inl (i, f, refl))
  in_order _ (incomplete u e c) = inr (u, inr (e, inl (c, refl)))
  in_order _ (accepted k) = inr (k.readable, inr (k.entries, inr (k.complete, refl)))

  is_allowed : (a : Answer) → InOrder file a → Allowed file a
  is_allowed _ (inl (u, e)) = subst (Allowed file) (sym e) (unreadable u)
  is_allowed _ (inr (u, inl (i, f, e))) = subst (Allowed file) (sym e) (bad_entry i u f)
  is_allowed _ (inr (u, inr (f, inl (c, e)))) = subst (Allowed file) (sym e) (incomplete u f c)
  is_allowed _ (inr (u, inr (f, inr (c, e)))) = subst (Allowed file) (sym e) (accepted (record { readable = u; entries = f; complete = c }))

  in_order_one : One (InOrder file)
  in_order_one = if_broken_one _ _ _ (tried_one _ _ _ _ (if_broken_one _ _ _ (exactly_one (Ok tt))))

  pub only_allowed : (a : Answer) → InOrder file a → Only (Allowed file) a
  only_allowed a h = only_like is_allowed in_order a (only in_order_one a h)

  granted : Allowed file (Ok tt) → Accepted file
  granted (accepted k) = k

  pub is_accepted : InOrder file (Ok tt) → Accepted file
  is_accepted h = granted (is_allowed (Ok tt) h)

  some_entry : (Unreadable file → ⊥) → 0 < n
  some_entry u = ⊎_elim (λ e. absurd (u (inr (inl e)))) (λ e. omega arith) (cases_eq n 0)

  -- a header that is cut off has no room for the first body
  cut_entry : length file < header_length file → BadEntry file 0
  cut_entry short = ⊎_elim
      (λ e. inr (inr (inr (inr (omega (arith, e, short))))))
      (λ e. inr (inr (inr (inl e))))
      (cases_eq (offset_at file 0) (header_length file))

  pub cut-answer : (a : Answer) → Only (Allowed file) a → Cut file → a ≡ Err (MapFile, 0)
  cut-answer a h (u, short) =
      sym (h.alone (Err (MapFile, 0)) (bad_entry 0 u (record { below = some_entry u; here = cut_entry short; before = λ j l _. absurd (omega arith) })))

  module _ (ok : Accepted file) where
    placed : (i : ℕ) → i < n → offset_at file i ≡ due_at file i
    placed i l = ⊎_elim (λ e. e) (λ e. absurd (ok.entries i l (inr (inr (inr (inl e)))))) (cases_eq (offset_at file i) (due_at file i))

    within : (i : ℕ) → i < n → end_at file i ≤ length file
    within i l = ⊎_elim (λ h. absurd (ok.entries i l (inr (inr (inr (inr h)))))) (λ h. h) (cases_lt (length file) (end_at file i))

    header-fits : header_length file ≤ length file
    header-fits = omega (arith, placed 0 (some_entry ok.readable), within 0 (some_entry ok.readable))

    joined_to : (k : ℕ) → k ≤ n → header file ++ bodies file k ≡ take (due_at file k) file
    joined_to zero l = append-nil (header file)
    joined_to (suc k) l =
        sym (append_assoc (header file) (bodies file k) (body_at file k))
        ∙ ap (λ xs. xs ++ body_at file k) (joined_to k (omega arith) ∙ ap (λ m. take m file) (sym (placed k (omega arith))))
        ∙ sym (take-add (offset_at file k) (length_at file k) file)

    nothing_left : length file ≤ due_at file n
    nothing_left = ⊎_elim (λ h. absurd (ok.complete (inr h))) (λ h. h) (cases_lt (due_at file n) (length file))

    once : (letter : ℕ) → ((i : ℕ) → Second file letter i → BadEntry file i) → (i j : ℕ) → i < n → j < n → Under file letter i → Under file letter j → j ≡ i
    once letter bad i j l m p q = ⊎_elim
        (λ h. absurd (ok.entries i l (bad i (p, (j, h, q)))))
        (λ h. ⊎_elim (λ g. absurd (ok.entries j m (bad j (q, (i, g, p))))) (λ g. omega arith) (cases_lt i j))
        (cases_lt j i)

    sole : (letter : ℕ) → Single letter → (i : ℕ) → i < n → Under file letter i → Sole file letter i
    sole letter single i l p = record { inside = l; under = p; alone = λ j m q. once letter (second single) i j l m p q }
      where
        second : Single letter → (k : ℕ) → Second file letter k → BadEntry file k
        second (inl e) k s = inr (inl (subst (λ x. Second file x k) e s))
        second (inr e) k s = inr (inr (inl (subst (λ x. Second file x k) e s)))

    some-routine : Somewhere (Under file routine_letter) n
    some-routine = ⊎_elim (λ s. s) (λ h. absurd (ok.complete (inl h)))
        (somewhere_or (Under file routine_letter) (λ j. cases_eq (letter_at file j) routine_letter) n)

    -- bodies begin one behind the other
    rises : (i d : ℕ) → i + d ≤ n → due_at file i ≤ due_at file (i + d)
    rises i zero l = let e : i + 0 ≡ i = omega arith in rw e (omega arith)
    rises i (suc d) l =
        let e : i + suc d ≡ suc (i + d) = omega arith in
        rw e (omega (arith, rises i d (omega arith), placed (i + d) (omega arith)))

    later : (i j : ℕ) → i ≤ j → j ≤ n → due_at file i ≤ due_at file j
    later i j h l = let e : i + (j - i) ≡ j = omega arith in subst (λ (x : ℕ). due_at file i ≤ due_at file x) e (rises i (j - i) (omega arith))

    behind-header : (p i : ℕ) → i < n → Holds file p i → header_length file ≤ p
    behind-header p i l h = omega (arith, later 0 i (omega arith) (omega arith), placed i l, h.0)

    before : (p i j : ℕ) → i < j → j < n → Holds file p i → Holds file p j → ⊥
    before p i j h l a b = omega (arith, later (suc i) j h (omega arith), placed j l, a.1, b.0)

    one_body : (p i j : ℕ) → i < n → j < n → Holds file p i → Holds file p j → i ≡ j
    one_body p i j l m a b = ⊎_elim (λ h. absurd (before p i j h m a b)) (λ h. ⊎_elim (λ g. absurd (before p j i g l b a)) (λ g. omega arith) (cases_lt j i)) (cases_lt i j)

    covered-to : (p k : ℕ) → k ≤ n → p < due_at file k → (p < header_length file) ⊎ Somewhere (Holds file p) k
    covered-to p zero l h = inl h
    covered-to p (suc k) l h = ⊎_elim
        (λ (b : p < due_at file k). ⊎_elim inl (λ s. inr (s.0, omega (arith, s.1), s.2)) (covered-to p k (omega arith) b))
        (λ (b : due_at file k ≤ p). inr (k, omega arith, (omega (arith, placed k (omega arith)), h)))
        (cases_lt p (due_at file k))

    pub parted : Parted file
    parted = record {
      joined = joined_to n (omega arith) ∙ take_all (due_at file n) file nothing_left;
      header_whole = simp length-take (omega (arith, header-fits));
      body_whole = λ i l. simp (length-take, length-drop) (omega (arith, within i l));
      covered = λ p h. covered-to p n (omega arith) (omega (arith, nothing_left));
      behind = behind-header;
      apart = one_body;
      routine = (some-routine.0, sole routine_letter (inl refl) some-routine.0 some-routine.1 some-routine.2);
      claims = sole claims_letter (inr refl);
    }

  -- the first entry under a letter that may come once, of as many as there are
  pub the_body : (letter m i : ℕ) (part : List ℕ) → Single letter → m ≡ n → FirstAt (Under file letter) m i → part ≡ body_at file i → TheBody file letter part
  the_body letter m i part single e first bytes =
      let f = subst (λ x. FirstAt (Under file letter) x i) e first in
      (i, f, bytes, λ ok. sole ok letter single i f.below f.here)
